-- How much lands before a counter is spent.
use Rattle.std.specs.Prelude.{◌^◌, ◌≤◌, length}
use Rattle.cloud_trait.specs.State.{CloudState}
use Rattle.db_base.specs.declared.trouble.Counter.{Counter}
use Rattle.db_base.specs.declared.trouble.Counter.TheVariants as counter
use Rattle.session_facts.specs.Sessions.Spent.{IsSpentToOpen, IsSpentToCommit, IsSpentToSettle}

-- 2^56 puts and sends landed, unless it is a counter of attempts, of which no cloud tells, or of pages: one put may reserve as many as four for each put
-- and send before it, and so 2^31 of them are needed
abbrev pub TakesMany : CloudState → Counter → Type 0
TakesMany u counter.Txn = Unit {0}
TakesMany u counter.Pages = 2 ^ 31 ≤ length u.trace
TakesMany u what = 2 ^ 56 ≤ length u.trace

-- a counter is spent, as the cloud tells, and so late
abbrev pub IsLate : (CloudState → Counter → Type 0) → CloudState → Counter → Type 0
IsLate Spent u what = Spent u what × TakesMany u what

-- each is spent so late: those of an opening, of a commit and of a settling
pub record SpendsLate (u : CloudState) : Type 0 where
  pub opening : (what : Counter) → IsSpentToOpen u what → TakesMany u what
  pub commit : (what : Counter) → IsSpentToCommit u what → TakesMany u what
  pub settling : (what : Counter) → IsSpentToSettle u what → TakesMany u what
