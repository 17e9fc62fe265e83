-- The one service call of a step of a session, and what the step explains of it.
use Rattle.std.specs.Prelude.{ℕ, ◌≡◌, ◌≢◌, ◌⊎◌, Some, None, Ok}
use Rattle.attr_index.specs.Look.{Look}
use Rattle.client_work.specs.Session.{Acting, StepsSession, StepsAt, ShowsAt, StepsOpening, StepsCommit, ReadsBy, LooksBy, StepsPaging, StepsFolding, StepsClosing, StepsRenewing, StepsSettling, StepsSweeping, ask_of_work, in_hand, InHand}
use Rattle.client_work.specs.declared.answer.Answer.{Answer}
use Rattle.client_work.specs.declared.answer.Answer.TheVariants as answer
use Rattle.client_work.specs.declared.work.Work.{Work}
use Rattle.client_work.specs.declared.work.Work.TheVariants.{Closed, Idle, Opening, Committing, Reading, Scanning, Looking, Folding, Paging, Closing, Renewing, Settling, Sweeping, Broken}
use Rattle.cloud_facts.specs.Words.{Answer as Reply, Turn, More, Ended, CloudState, Caller, Seen, Claim, Ask, Release}
use Rattle.cloud_trait.specs.declared.answer.Answer.TheVariants.{Memory}
use Rattle.cloud_trait.specs.Claim.{IsOver}
use Rattle.cloud_trait.specs.Growth.{HasGrown}
use Rattle.cloud_trait.specs.Weather.{Rose}
use Rattle.db_base.specs.declared.trouble.Trouble.TheVariants.{Waiting}
use Rattle.commit_run.specs.Run.{Run}
use Rattle.page_cache.specs.Cache.{Cache}
use Rattle.page_ckpt.specs.Paging.{Paging as Page}
use Rattle.recover_run.specs.declared.home.Home.{Home}
use Rattle.recover_run.specs.Recovery.{Recovery}
use Rattle.session_facts.specs.Sessions.Explains.{Explains, Meets, left_in, trouble_in}
use Rattle.orphan_sweep.specs.Sweeping.{Sweeping as SweepingState}
use Rattle.settle_run.specs.Settling.{Settling as SettlingState}
use Rattle.tree_ckpt.specs.Making.{Making}
use Rattle.tree_walk.specs.Walk.{Walk}

-- ---- who makes a step

-- who makes a call, and what is seen before it and behind it
pub record Calling : Type 0 where
  pub who : Caller
  pub before : Seen
  pub after : Seen

abbrev pub calling_of : Caller → Seen → Seen → Calling
calling_of who before after = record { who = who; before = before; after = after }

-- a step of a session: who makes it and what is seen before and behind its call, what the session was and is, and its turn
pub record SessionStep : Type 0 where
  pub who : Caller
  pub before : Seen
  pub after : Seen
  pub old : Acting
  pub new : Acting
  pub turn : Turn Answer

abbrev pub session_step : Caller → Seen → Seen → Acting → Acting → Turn Answer → SessionStep
session_step who before after old new turn = record { who = who; before = before; after = after; old = old; new = new; turn = turn }

-- it is made
abbrev pub IsMade : SessionStep → Type 0
IsMade x = StepsSession x.who x.before x.after x.old x.new (Ok x.turn)

-- ---- what the call of a step answered, by what was at work

abbrev pub opening_reply : (by : Calling) (m : Recovery) (work : Work) (turn : Turn Answer) → StepsOpening by.who by.before by.after m work turn → Reply
opening_reply by m work More p = p.1.answer
opening_reply by m work (Ended (answer.Opened epoch)) p = p.1.answer
opening_reply by m work (Ended (answer.Trouble k)) p = p.1.answer
opening_reply by m work turn p = absurd p

abbrev pub commit_reply : (by : Calling) (old : Run × Cache) (new : Work × Cache) (turn : Turn Answer)
    → StepsCommit by.who by.before by.after old new turn → Reply
commit_reply by old new More p = p.1.answer
commit_reply by old new (Ended (answer.Commit a)) p = p.1.answer
commit_reply by old new (Ended (answer.Trouble k)) p = p.1.answer
commit_reply by old new turn p = absurd p

abbrev pub reading_reply : (by : Calling) (old : InHand Walk) (new : Acting) (turn : Turn Answer)
    → ReadsBy by.who by.before by.after old new turn → Reply
reading_reply by old new More p = p.1.answer
reading_reply by old new (Ended answer.Value) p = p.2.answer
reading_reply by old new (Ended (answer.Trouble k)) p = p.1.answer
reading_reply by old new turn p = absurd p

abbrev pub looking_reply : (by : Calling) (old : InHand Look) (new : Acting) (turn : Turn Answer)
    → LooksBy by.who by.before by.after old new turn → Reply
looking_reply by old new More p = p.1.walked.answer
looking_reply by old new (Ended answer.Scan) p = p.1.walked.answer
looking_reply by old new (Ended (answer.Trouble k)) p = p.1.walked.answer
looking_reply by old new turn p = absurd p

abbrev pub paging_reply : (by : Calling) (old : Home × Page) (work : Work) (turn : Turn Answer)
    → StepsPaging by.who by.before by.after old work turn → Reply
paging_reply by old work More p = p.1.answer
paging_reply by old work (Ended (answer.Done n)) p = p.1.answer
paging_reply by old work (Ended (answer.Trouble k)) p = p.1.answer
paging_reply by old work turn p = absurd p

abbrev pub folding_reply : (by : Calling) (old : Home × Making) (work : Work) (turn : Turn Answer)
    → StepsFolding by.who by.before by.after old work turn → Reply
folding_reply by old work More p = p.1.answer
folding_reply by old work (Ended (answer.Done n)) p = p.1.answer
folding_reply by old work (Ended (answer.Trouble k)) p = p.1.answer
folding_reply by old work turn p = absurd p

abbrev pub closing_reply : (lease : Claim) (by : Calling) (work : Work) (turn : Turn Answer) → StepsClosing lease by.who by.before by.after work turn → Reply
closing_reply lease by work (Ended answer.Closed) p = p.0.answer
closing_reply lease by work (Ended (answer.Trouble k)) p = p.0.answer
closing_reply lease by work turn p = absurd p

abbrev pub renewing_reply : (home : Home) (by : Calling) (work : Work) (turn : Turn Answer) → StepsRenewing home by.who by.before by.after work turn → Reply
renewing_reply home by work (Ended (answer.Renewed end)) p = p.1.answer
renewing_reply home by work (Ended (answer.Trouble k)) p = p.1.answer
renewing_reply home by work turn p = absurd p

abbrev pub settling_reply : (by : Calling) (m : SettlingState) (work : Work) (turn : Turn Answer) → StepsSettling by.who by.before by.after m work turn → Reply
settling_reply by m work More p = p.1.did.answer
settling_reply by m work (Ended (answer.Settled n)) p = p.1.did.answer
settling_reply by m work (Ended (answer.Trouble k)) p = p.1.did.answer
settling_reply by m work turn p = absurd p

abbrev pub sweeping_reply : (by : Calling) (m : SweepingState) (work : Work) (turn : Turn Answer) → StepsSweeping by.who by.before by.after m work turn → Reply
sweeping_reply by m work More p = p.1.did.answer
sweeping_reply by m work (Ended (answer.Swept x)) p = p.1.did.answer
sweeping_reply by m work (Ended (answer.Trouble k)) p = p.1.did.answer
sweeping_reply by m work turn p = absurd p

-- whatever was at work
abbrev pub reply_at : (by : Calling) (old : Work × Cache) (new : Acting) (turn : Turn Answer)
    → StepsAt by.who by.before by.after old.0 new.work turn → ShowsAt by.who by.before by.after old new turn → Reply
reply_at by (Opening m, c) new turn p q = opening_reply by m new.work turn p.1
reply_at by (Committing m, c) new turn p q = commit_reply by (m, c) (new.work, new.cache) turn q.0
reply_at by (Reading home m, c) new turn p q = reading_reply by (in_hand home m c) new turn q
reply_at by (Scanning home m, c) new turn p q = q.steps.answer
reply_at by (Looking home m, c) new turn p q = looking_reply by (in_hand home m c) new turn q
reply_at by (Paging home m, c) new turn p q = paging_reply by (home, m) new.work turn p
reply_at by (Folding home m, c) new turn p q = folding_reply by (home, m) new.work turn p
reply_at by (Closing lease, c) new turn p q = closing_reply lease by new.work turn p
reply_at by (Renewing home, c) new turn p q = renewing_reply home by new.work turn p
reply_at by (Settling m, c) new turn p q = settling_reply by m new.work turn p.1
reply_at by (Sweeping m, c) new turn p q = sweeping_reply by m new.work turn p
reply_at by (Closed, c) new turn p q = absurd p
reply_at by (Idle home, c) new turn p q = absurd p
reply_at by (Broken lease, c) new turn p q = absurd p

-- ---- a step of a session

-- what the call of a step answered
abbrev pub reply_of : (x : SessionStep) → IsMade x → Reply
reply_of x p = reply_at (calling_of x.who x.before x.after) (x.old.work, x.old.cache) (record x.new { cache = p.shown.0 }) x.turn p.work p.shown.1

-- the lease that is given back next is over
abbrev pub GivesLateBack : Work → ℕ → Type 0
GivesLateBack w now = (l : Claim) × (ask_of_work w ≡ Some (Release l)) × IsOver now l

-- an operation that begins to wait for records under such a lease does not answer before it gives it back
abbrev pub WaitsLate : Work → Turn Answer → ℕ → Type 0
WaitsLate new More now = GivesLateBack new now
WaitsLate new turn now = ⊥

-- A step explains what it brought by the call that was in hand, where that found memory. One that comes to wait for records while no message is withheld
-- does so under a lease that is over.
pub record IsExplained (x : SessionStep) (s t : CloudState) (p : IsMade x) : Type 0 where
  pub ask : Ask
  pub hand : ask_of_work x.old.work ≡ Some ask
  pub grown : HasGrown s t
  pub explains : reply_of x p ≢ Memory → Explains ask (x.before.counts, s) (x.after.counts, t) x.old.work x.new.work x.turn
  pub waits : reply_of x p ≢ Memory → trouble_in x.old.work ≡ None → left_in x.old.work ≡ 0 → (have need : ℕ) → Meets x.new.work x.turn (Waiting have need)
      → Rose x.before.counts.withheld x.after.counts.withheld ⊎ WaitsLate x.new.work x.turn t.now
