-- How many calls a scan has left.
use Rattle.std.specs.Prelude.{ℕ, ◌≡◌, ◌<◌, ◌+◌, ◌-◌, ◌^◌, true, length, Option, Some, None}
use Rattle.cloud_trait.specs.declared.turn.Turn.{Turn}
use Rattle.cloud_trait.specs.declared.turn.Turn.TheVariants.{Ended}
use Rattle.tree_walk.specs.Walk.{Spot}
use Rattle.tree_walk.specs.Walk.{calls_left as walk_calls_left}
use Rattle.range_scan.specs.Scan.{Scan, goes_on, moved_on}

-- while the walk is in hand: those of the walk, and behind its end one for each right page; then one for each right page that it did
-- not come to yet. No list of pages is longer than this
abbrev pub calls_left_at : Scan → Option Spot → ℕ
calls_left_at s None = (walk_calls_left s.walk + 1) + 2 ^ 64
calls_left_at s (Some spot) = 2 ^ 64 - length s.passed

-- how many calls it has left at most
abbrev pub calls_left : Scan → ℕ
calls_left s = calls_left_at s s.spot

-- where the scan goes on behind the leaf at which it ended, it has fewer calls left than before
abbrev pub GoesFurther : Scan → Scan → Turn ℕ → Type 0
GoesFurther old new turn = (page : ℕ) → turn ≡ Ended page → goes_on new ≡ true → calls_left (moved_on new) < calls_left old
