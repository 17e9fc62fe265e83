use Rattle.std.proofs.Common.{◌≡◌, ◌+◌, length}
use Rattle.leaf_edit.specs.Sizes.{dones_size}
use Rattle.leaf_edit.proofs.table.all_len.Given as goal

abbrev pub invariant-loop-rest : goal.invariant-loop-rest
invariant-loop-rest l = l.sum + dones_size l.left ≡ l.initial.sum + dones_size l.initial.left

abbrev pub decreases-loop-rest : goal.decreases-loop-rest
decreases-loop-rest l = length l.left
