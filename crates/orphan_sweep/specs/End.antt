-- A sweep ends.
use Rattle.std.specs.Prelude.{ℕ, ◌+◌, ◌-◌, ◌^◌, length}
use Rattle.orphan_sweep.specs.declared.stage.Stage.{Stage}
use Rattle.orphan_sweep.specs.declared.stage.Stage.TheVariants.{TakingTree, GettingTree, Reading, Listing, Removing, Releasing, Finished}
use Rattle.orphan_sweep.specs.Sweeping.{Sweeping}

-- how many calls are left at most at a stage, by the pages that it can still come to and the orphans that are not removed; neither are more
-- than memory has places
abbrev pub left_at : Stage → ℕ → ℕ → ℕ
left_at TakingTree pages orphans = pages + 2 ^ 64 + 6
left_at GettingTree pages orphans = pages + 2 ^ 64 + 5
left_at Reading pages orphans = pages + 2 ^ 64 + 4
left_at Listing pages orphans = 2 ^ 64 + 3
left_at Removing pages orphans = orphans + 2
left_at Releasing pages orphans = 1
left_at Finished pages orphans = 0

-- no page is come to twice
abbrev pub calls_left : Sweeping → ℕ
calls_left s = left_at s.stage (2 ^ 64 - length s.visited) (length s.orphans - s.removed)
