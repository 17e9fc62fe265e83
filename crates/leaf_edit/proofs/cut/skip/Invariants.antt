use Rattle.std.proofs.Common.{◌≡◌, drop}
use Rattle.leaf_edit.proofs.cut.skip.Given as goal

abbrev pub invariant-loop-rest : goal.invariant-loop-rest
invariant-loop-rest l = drop l.more l.left ≡ drop l.initial.more l.initial.left

abbrev pub decreases-loop-rest : goal.decreases-loop-rest
decreases-loop-rest l = l.more
