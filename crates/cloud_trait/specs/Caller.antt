-- Who makes a call.
use Rattle.std.specs.Prelude.{ℕ}

-- a session, 0 for the settler, at an event of the schedule
pub record Caller : Type 0 where
  pub session : ℕ
  pub event : ℕ
