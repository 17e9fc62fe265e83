use Rattle.std.proofs.Common.{length}
use Rattle.leaf_edit.proofs.Folding.{IsFolding}
use Rattle.leaf_edit.proofs.step.fold_key.Given as goal

abbrev pub invariant-loop-x : goal.invariant-loop-x
invariant-loop-x l = IsFolding l.key l.fn.old l.initial.left l.value l.left

abbrev pub decreases-loop-x : goal.decreases-loop-x
decreases-loop-x l = length l.left
