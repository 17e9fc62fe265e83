use Rattle.std.proofs.Common.{◌≡◌, length}
use Rattle.byte_format.specs.Order.{bytes_cmp}
use Rattle.byte_format.proofs.order.compare_by_byte.Given as goal

abbrev pub invariant-loop-x : goal.invariant-loop-x
invariant-loop-x l = bytes_cmp l.left l.right ≡ bytes_cmp l.a l.b

abbrev pub decreases-loop-x : goal.decreases-loop-x
decreases-loop-x l = length l.left
