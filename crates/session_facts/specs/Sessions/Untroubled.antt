-- When a session goes on and is answered well: where its calls are calm.
use Rattle.std.specs.Prelude.{ℕ, ◌≡◌, ◌≢◌, Some}
use Rattle.cloud_trait.specs.Calm.{IsCalm}
use Rattle.client_work.specs.Session.{ask_of_work}
use Rattle.client_work.specs.declared.work.Work.{Work}
use Rattle.cloud_trait.specs.declared.answer.Answer.TheVariants.{Memory}
use Rattle.cloud_facts.specs.Words.{Trouble, CommitAnswer, CloudState, Lasts, Ask, Release}
use Rattle.db_base.specs.declared.trouble.CommitAnswer.TheVariants.{Committed, NotCommitted}
use Rattle.db_base.specs.declared.trouble.Counter.{Counter}
use Rattle.db_base.specs.declared.trouble.Trouble.TheVariants as trouble
use Rattle.session_facts.specs.Machines.PageCheckpoints.Knows.{IsNamedOne}
use Rattle.session_facts.specs.Sessions.Calls.{IsMade, SessionStep, GivesLateBack, reply_of}
use Rattle.session_facts.specs.Sessions.Explains.{left_in, spent_for, trouble_in}
use Rattle.session_facts.specs.Sessions.Spent.{IsSpentToCommit, IsSpentInPages}

-- the lease that the call gives back lasts at a moment
abbrev pub GivesBackLasting : Ask → ℕ → Type 0
GivesBackLasting (Release l) now = Lasts now l
GivesBackLasting ask now = Unit {0}

-- A step was calm: its call found memory and no count rose in it, the lock that it takes was free, and the leases that it names lasted, also one that
-- it gives back.
pub record StepsCalmly (x : SessionStep) (p : IsMade x) : Type 0 where
  pub ask : Ask
  pub hand : ask_of_work x.old.work ≡ Some ask
  pub calm : IsCalm (record { who = x.who; ask = ask; answer = reply_of x p; before = x.before; after = x.after })
  pub returned : GivesBackLasting ask calm.after.now
  pub memory : reply_of x p ≢ Memory

-- no call of the cloud brings such a trouble; one of a counter that is spent comes where the cloud tells so
abbrev pub IsOfNoCall : (CloudState → Counter → Type 0) → CloudState → Trouble → Type 0
IsOfNoCall Spent t trouble.Failed = ⊥
IsOfNoCall Spent t (trouble.Late end now) = ⊥
IsOfNoCall Spent t (trouble.Busy lock until) = ⊥
IsOfNoCall Spent t (trouble.Waiting have need) = ⊥
IsOfNoCall Spent t (trouble.Stale page least got) = ⊥
IsOfNoCall Spent t (trouble.Exhausted what) = Spent t what
IsOfNoCall Spent t k = Unit {0}

-- what is at work may keep such a trouble where a cloud tells this: no call brought it, or it waits for records under a lease that is over and is given
-- back next
abbrev pub IsExcused : CloudState → Work → Trouble → Type 0
IsExcused t w (trouble.Waiting have need) = GivesLateBack w t.now
IsExcused t w k = IsOfNoCall (spent_for w) t k

-- what is at work goes well so far: no call brought it a trouble that is not excused, and no deletion failed
pub record IsUntroubled (t : CloudState) (w : Work) : Type 0 where
  pub trouble : (k : Trouble) → trouble_in w ≡ Some k → IsExcused t w k
  pub left : left_in w ≡ 0

-- a counter is spent, as the cloud tells
abbrev pub IsSpent : (CloudState → Counter → Type 0) → CloudState → Trouble → Type 0
IsSpent Spent t (trouble.Exhausted what) = Spent t what
IsSpent Spent t k = ⊥

-- or the page that was named is absent or no leaf, unless it is page 1
abbrev pub IsSpentOrOf : ℕ → ℕ → CloudState → Trouble → Type 0
IsSpentOrOf tree page t (trouble.Absent named) = IsNamedOne page named
IsSpentOrOf tree page t (trouble.NotALeaf named) = IsNamedOne page named
IsSpentOrOf tree page t k = IsSpent (IsSpentInPages tree) t k

-- it is committed, unless a counter is spent
abbrev pub CommitsWell : CloudState → CommitAnswer → Type 0
CommitsWell t (Committed txn) = Unit {0}
CommitsWell t (NotCommitted k) = IsSpent IsSpentToCommit t k
CommitsWell t answer = ⊥
