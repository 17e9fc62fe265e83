use Rattle.std.proofs.Common.{◌-◌, ◌≡◌, ℕ, ◌<◌, ◌≤◌, true}
use Rattle.run_cursor.specs.Run.{has_number}
use Rattle.run_cursor.proofs.top.last_behind.Given as goal

abbrev pub invariant-loop-last : goal.invariant-loop-last
invariant-loop-last l =
    (l.from ≤ l.last) × ((n : ℕ) → l.from < n → n ≤ l.last → has_number l.items l.client n ≡ true)

abbrev pub decreases-loop-last : goal.decreases-loop-last
decreases-loop-last l = 18446744073709551615 - l.last
