-- What a folder decides by values alone.
use Rattle.std.specs.Prelude.{ℕ, ◌≡◌, ◌≤◌, ◌<◌, ◌+◌}
use Rattle.cloud_trait.specs.Claim.{Claim}

-- the longest that a lease lasts, in ticks
abbrev pub longest : ℕ
longest = 600

-- a lock is held until an end that is to come, and no later than the longest lease that is given now
abbrev pub IsHeld : ℕ → ℕ → Type 0
IsHeld now until = (now < until) × (until ≤ now + longest)

-- a lock of so many generations was given to a lease, and to nobody since
abbrev pub WasGiven : ℕ → Claim → Type 0
WasGiven generation l = (1 ≤ generation) × (generation ≡ l.generation)
