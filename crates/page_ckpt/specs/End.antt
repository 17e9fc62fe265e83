-- A page checkpoint ends.
use Rattle.std.specs.Prelude.{ℕ, ◌+◌, ◌-◌, ◌*◌, ◌^◌, length}
use Rattle.ckpt_parts.specs.declared.leases.Leases.{Leases}
use Rattle.ckpt_parts.specs.Leasing.{claims_of}
use Rattle.page_ckpt.specs.declared.stage.Stage.{Stage}
use Rattle.page_ckpt.specs.declared.stage.Stage.TheVariants.{TakingHome, GettingHome, Receiving, TakingRight, GettingRight, PuttingRight, ReleasingRight, PuttingHome, Deleting, Releasing, Finished}
use Rattle.page_ckpt.specs.Paging.{Paging}

-- how many calls are left at most at a stage, by the ids that are to be deleted, the calls at right pages that were not come to,
-- and the leases that are held; a receive brings 256 messages at most
abbrev pub left_at : Stage → ℕ → ℕ → ℕ → ℕ
left_at TakingHome ids rights held = rights + 263
left_at GettingHome ids rights held = rights + 262
left_at Receiving ids rights held = rights + 261
left_at TakingRight ids rights held = ids + rights + 8
left_at GettingRight ids rights held = ids + rights + 7
left_at PuttingRight ids rights held = ids + rights + 6
left_at ReleasingRight ids rights held = ids + rights + 5
left_at PuttingHome ids rights held = ids + 4
left_at Deleting ids rights held = ids + 3
left_at Releasing ids rights held = held
left_at Finished ids rights held = 0

abbrev pub held_count : Leases → ℕ
held_count held = length (claims_of held)

-- a right page has four calls, and no page is come to twice
abbrev pub calls_left : Paging → ℕ
calls_left p = left_at p.stage (length p.deletions.ids) (4 * (2 ^ 64 - length p.visited)) (held_count p.held)
