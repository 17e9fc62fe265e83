use Rattle.std.proofs.Common.{◌≡◌, [], length}
use Rattle.std.specs.Prelude.{All}
use Rattle.log_codec.specs.Order.{IsItem}
use Rattle.run_cursor.specs.Chosen.{chosen}
use Rattle.run_cursor.specs.Leading.{NoneAbove}
use Rattle.run_cursor.proofs.chosen.choose.Given as goal

abbrev pub invariant-loop-x : goal.invariant-loop-x
invariant-loop-x l =
    (chosen l.cursor l.top l.kept.items l.left ≡ chosen l.cursor l.top [] l.items) × All IsItem l.kept.items × NoneAbove l.kept.items l.upto

abbrev pub decreases-loop-x : goal.decreases-loop-x
decreases-loop-x l = length l.left
