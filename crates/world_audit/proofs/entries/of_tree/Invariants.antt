use Rattle.std.proofs.Common.{◌≡◌, ◌++◌, length}
use Rattle.history.specs.Fold.{of_tree}
use Rattle.world_audit.proofs.entries.of_tree.Given as goal

abbrev pub invariant-loop-entry : goal.invariant-loop-entry
invariant-loop-entry l = l.log ++ of_tree l.tree l.left ≡ of_tree l.tree l.entries

abbrev pub decreases-loop-entry : goal.decreases-loop-entry
decreases-loop-entry l = length l.left
