-- What a lease says.
use Rattle.std.specs.Prelude.{ℕ, ◌≤◌, ◌<◌}
use Rattle.db_base.specs.declared.names.Lock.{Lock}

-- a lock, the generation in which it was given, and an end in ticks
pub record Claim : Type 0 where
  pub lock : Lock
  pub generation : ℕ
  pub end : ℕ

-- the lease with another end
abbrev pub extended : Claim → ℕ → Claim
extended l end = record { lock = l.lock; generation = l.generation; end = end }

-- a lease lasts at a moment before its end
abbrev pub Lasts : ℕ → Claim → Type 0
Lasts now l = now < l.end

-- a lease is over from its end on
abbrev pub IsOver : ℕ → Claim → Type 0
IsOver now l = l.end ≤ now
