use Rattle.std.proofs.Common.{◌≡◌, length}
use Rattle.byte_format.specs.Order.{bytes_cmp}
use Rattle.byte_format.specs.Whole.{IsBytes}
use Rattle.byte_format.proofs.order.compare.Given as goal

abbrev pub invariant-loop-left : goal.invariant-loop-left
invariant-loop-left l = record {
  left : IsBytes l.left;
  right : IsBytes l.right;
  same : bytes_cmp l.left l.right ≡ bytes_cmp l.a l.b;
}

abbrev pub decreases-loop-left : goal.decreases-loop-left
decreases-loop-left l = length l.left
