use Rattle.std.proofs.Common.{length}
use Rattle.run_cursor.proofs.Coming.{AreComing}
use Rattle.run_cursor.proofs.chosen.are_new.Given as goal

abbrev pub invariant-loop-x : goal.invariant-loop-x
invariant-loop-x l = AreComing l.cursor l.top l.items l.left l.upto

abbrev pub decreases-loop-x : goal.decreases-loop-x
decreases-loop-x l = length l.left
