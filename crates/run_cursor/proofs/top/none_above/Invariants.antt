use Rattle.std.proofs.Common.{◌≡◌, ℕ, ◌^◌, length}
use Rattle.run_cursor.specs.Run.{has_number}
use Rattle.run_cursor.proofs.top.none_above.Given as goal

abbrev pub invariant-loop-x : goal.invariant-loop-x
invariant-loop-x l = (client : ℕ) → has_number l.items client (2 ^ 64) ≡ has_number l.left client (2 ^ 64)

abbrev pub decreases-loop-x : goal.decreases-loop-x
decreases-loop-x l = length l.left
