use Rattle.std.proofs.Common.{◌≡◌, ◌+◌, length}
use Rattle.leaf_edit.specs.Sizes.{brought_by}
use Rattle.leaf_edit.proofs.most.changes_len.Given as goal

abbrev pub invariant-loop-x : goal.invariant-loop-x
invariant-loop-x l = l.sum + brought_by l.left ≡ l.initial.sum + brought_by l.initial.left

abbrev pub decreases-loop-x : goal.decreases-loop-x
decreases-loop-x l = length l.left
