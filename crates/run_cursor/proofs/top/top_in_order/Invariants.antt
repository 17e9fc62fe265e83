use Rattle.std.proofs.Common.{length}
use Rattle.run_cursor.proofs.Tops.{IsFollowed}
use Rattle.run_cursor.proofs.top.top_in_order.Given as goal

abbrev pub invariant-loop-x : goal.invariant-loop-x
invariant-loop-x l = IsFollowed l.cursor l.items l.left l.top

abbrev pub decreases-loop-x : goal.decreases-loop-x
decreases-loop-x l = length l.left
