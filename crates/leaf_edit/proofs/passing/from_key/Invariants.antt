use Rattle.std.proofs.Common.{List, length}
use Rattle.leaf_view.specs.Leaf.{Entry}
use Rattle.leaf_edit.specs.Passing.{Passes}
use Rattle.leaf_edit.proofs.passing.from_key.Given as goal

abbrev pub invariant-loop-record : goal.invariant-loop-record
invariant-loop-record l = (front : List Entry) × Passes l.key l.initial.left front l.left

abbrev pub decreases-loop-record : goal.decreases-loop-record
decreases-loop-record l = length l.left
