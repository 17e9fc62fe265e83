use Rattle.std.proofs.Common.{◌≡◌, ◌++◌, [], length}
use Rattle.leaf_edit.specs.Spelled.{dones_before}
use Rattle.leaf_edit.proofs.cut.add_dones.Given as goal

abbrev pub invariant-loop-entry : goal.invariant-loop-entry
invariant-loop-entry l = l.out.items ++ dones_before l.left [] ≡ l.initial.out.items ++ dones_before l.initial.left []

abbrev pub decreases-loop-entry : goal.decreases-loop-entry
decreases-loop-entry l = length l.left
