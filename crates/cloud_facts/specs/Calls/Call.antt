-- A service call between two told states.
use Rattle.std.specs.Prelude.{◌≤◌}
use Rattle.cloud_trait.specs.declared.answer.Answer.{Answer}
use Rattle.cloud_trait.specs.Ask.{Ask}
use Rattle.cloud_trait.specs.Caller.{Caller}
use Rattle.cloud_trait.specs.State.{CloudState, Counts, called}
use Rattle.cloud_trait.specs.Weather.{counted, Weather}

-- the call was made between these states, and was answered so
pub record IsCall (who : Caller) (ask : Ask) (answer : Answer) (s t : CloudState) : Type 0 where
  pub before : Counts
  pub after : Counts
  pub later : s.now ≤ t.now
  pub row : Weather who ask answer (counted before (called who t.now s)) (counted after t)
