-- What holds of each step that is made while the sessions stand over a told cloud, holds of each step of a line.
use Rattle.std.proofs.Common.{◌≡◌, ◌+◌, inl, inr, ℕ, List, [], ◌∷◌, ◌++◌, length, Bool, true, false, Some, Result, Ok, Err, refl, sym}
use Rattle.client_work.specs.declared.answer.Answer.{Answer}
use Rattle.cloud_facts.specs.Words.{QueueName, Turn, More, Ended, CloudState, Caller, Seen}
use Rattle.db_base.specs.declared.refusal.Refused.{Refused}
use Rattle.db_base.specs.declared.wish.Wish.{Wish}
use Rattle.db_base.specs.declared.wish.Wish.TheVariants.{Plain}
use Rattle.event_text.specs.declared.event.Event.TheVariants as event
use Rattle.replay_meaning.specs.Standing.{Line}
use Rattle.session_facts.specs.Lines.Facts.{session_at, CloudHolds}
use Rattle.session_facts.proofs.Rows.CallKinds.{IsWorkersRow}
use Rattle.session_facts.proofs.Lines.More.{line_of}
use Rattle.session_facts.proofs.Lines.Settler.{errand_row}
use Rattle.session_facts.specs.Lines.Errands.{Errand, settles, sweeps, event_for, AreRowsOf}
use Rattle.reply_text.specs.declared.reply.Reply.{Reply}
use Rattle.reply_text.specs.declared.reply.Reply.TheVariants as reply
use Rattle.session_facts.specs.Sessions.Knows.{Sessions}
use Rattle.recover_run.specs.declared.home.Home.{Home}
use Rattle.world_core.proofs.Workers.{IsInside, HoldsWithin, IsBetween, holds_begun, holds_went, holds_works, open_rests, within_begun, within_works, worker, worker_begins, worker_rows}
use Rattle.world_core.specs.declared.asked.Asked.{Asked}
use Rattle.world_core.specs.declared.asked.Asked.TheVariants.{Session, Wait, Report, Settle, Sweep}
use Rattle.world_core.specs.declared.asked.Request.{Request}
use Rattle.world_core.specs.declared.asked.Request.TheVariants.{Begin, Note, Abort, Policy, Work as WorksDue, Step, Run, Crash}
use Rattle.world_core.specs.World.{World}
use Rattle.world_core.specs.declared.world.WorldFault.{WorldFault}
use Rattle.world_core.specs.EachStep.{StepFact, EachWent, EachCome, EachTold, EachMade, EachRunTold, EachRun, EachCrashed, EachSettlingOn, EachSettling, EachDone, EachServed, EachAsked, EachThrough, EachWork}
use Rattle.world_core.specs.Handled.{StepsLooked, StepsTo, MakesStep, Went, start, further, ComesTo, RunsTo, Runs, SettlesOn, Settles, Crashes, Does, Serves, Answers, Checkpoints, Works, WorksThrough, checkpoint_more, no_checkpoint, gone_through}
use Rattle.world_core.specs.Span.{span_of}
use Rattle.world_core.proofs.Behind.{LinesStand}
use Rattle.world_core.proofs.Errands.{IsRightErrand}
use Rattle.world_core.proofs.StandsLemmas.{IsUnderWay, way_begins, told_under, went_on, SettlerGoes, settler, settler_went, settler_begins}

module _ (Holds : StepFact)
    (holds_step : (n : ℕ) (lines : List Line) (who : Caller) (wish : Wish) (before after : Seen) (old new : World) (turn : Turn Answer) (x : CloudState)
    → CloudHolds n lines (session_at old.sessions) old.audit old.blind x → (p : StepsLooked who wish (span_of before after old new) turn) → p.under.state ≡ Some (record x { wish = wish })
    → Holds who wish (span_of before after old new) turn p) where
  -- ---- a session's work

  -- each step of a checkpoint, within its own line
  module _ (n k : ℕ) (lines : List Line) (home : Home) (row : IsWorkersRow lines (worker k n)) (first : Sessions) where
    worker_each : (before after : Seen) (old new : World) (turn : Turn Answer) → HoldsWithin n lines old before → (p : StepsLooked (worker k n) Plain (span_of before after old new) turn)
        → Holds (worker k n) Plain (span_of before after old new) turn p
    worker_each before after old new turn h p =
        holds_step n lines (worker k n) Plain before after old new turn h.state h.holds p (p.wishes.set h.state (p.look_before.stays h.state h.told))

    checkpoint_each : (before : Seen) (old : World) (after : Seen) (new : World) → IsInside k home first old → HoldsWithin n lines old before → (went : Went (worker k n) before old after new)
        → EachWent Holds went
    checkpoint_each before old after new w h start = tt
    checkpoint_each before old after new w h (further mid _ world _ went step) = (
      checkpoint_each before old mid world w h went,
      worker_each mid after world new More (holds_went n k lines home row first before old mid world w h went) step,
    )

    makes_each : (queue : QueueName) (before after : Seen) (old new : World) (a : Answer) → IsBetween k home first old → HoldsWithin n lines old before
        → (c : Checkpoints (worker k n) queue (span_of before after old new) a) → EachCome Holds (worker k n) (span_of before after c.begun new) a c.comes
    makes_each queue before after old new a w h c =
        let begun = within_begun k home first queue old c.begun w c.begins in
        let held = holds_begun n lines k queue before old c.begun h c.begins in (
          checkpoint_each before c.begun c.comes.mid c.comes.world begun held c.comes.went,
          worker_each c.comes.mid after c.comes.world new (Ended a) (holds_went n k lines home row first before c.begun c.comes.mid c.comes.world begun held c.comes.went) c.comes.steps,
        )

    works_each : (before : Seen) (old : World) (queues : List QueueName) (done passed : ℕ) (after : Seen) (new : World) → IsBetween k home first old → HoldsWithin n lines old before
        → (works : Works (worker k n) before old (gone_through queues done passed) after new) → EachWork Holds works
    works_each before old queues done passed after new w h no_checkpoint = tt
    works_each before old queues done passed after new w h (checkpoint_more others kept left mid world queue a _ _ works makes passes) = (
      works_each before old others kept left mid world w h works,
      makes_each queue mid after world new a (within_works (worker k n) home first before old others kept left mid world w works)
          (holds_works n k lines home row first before old others kept left mid world w h works) makes,
    )

  -- ---- a session's steps

  module _ (lines : List Line) where
    own_each : (who : Caller) (wish : Wish) (before after : Seen) (old new : World) (turn : Turn Answer) → who.event ≡ length lines + 1 → IsUnderWay lines old before
        → (p : StepsLooked who wish (span_of before after old new) turn) → Holds who wish (span_of before after old new) turn p
    own_each who wish before after old new turn number way p =
        holds_step (length lines + 1) lines who wish before after old new turn way.after way.goes.holds p (told_under lines who wish before after old new turn number way p)

    went_each : (who : Caller) (before : Seen) (old : World) (after : Seen) (new : World) → who.event ≡ length lines + 1 → IsUnderWay lines old before
        → (went : Went who before old after new) → EachWent Holds went
    went_each who before old after new number way start = tt
    went_each who before old after new number way (further mid _ world _ went step) = (
      went_each who before old mid world number way went,
      own_each who Plain mid after world new More number (went_on lines who before old mid world number way went) step,
    )

    module _ (n : ℕ) (before after : Seen) (old new : World) (result : Result Reply WorldFault) (t : CloudState) (number : length lines + 1 ≡ n) (told : before.state ≡ Some t)
        (stands : LinesStand lines old t) where
      way : IsUnderWay lines old before
      way = way_begins lines before old t told stands

      abbrev who : ℕ → Caller
      who k = record { session = k; event = n }

      told_each : (k : ℕ) (wish : Wish) (r : Result Reply WorldFault) (h : StepsTo (record { session = k; event = n }) wish (span_of before after old new) r) → EachTold Holds (record { session = k; event = n }) wish (span_of before after old new) r h
      told_each k wish (Ok reply) made = own_each (who k) wish before after old new made.turn (sym number) way made.steps
      told_each k wish (Err why) made = own_each (who k) wish before after old made.left made.turn (sym number) way made.steps

      made_each : (k : ℕ) (wish : Wish) (h : MakesStep (record { session = k; event = n }) wish (span_of before after old new) result) → EachMade Holds (record { session = k; event = n }) wish (span_of before after old new) result h
      made_each k wish (inl refused) = tt
      made_each k wish (inr (inl made)) = told_each k wish result made
      made_each k wish (inr (inr memory)) = tt

      come_each : (k : ℕ) (left : World) (answer : Answer) (comes : ComesTo (who k) (span_of before after old left) answer) → EachCome Holds (who k) (span_of before after old left) answer comes
      come_each k left answer comes = (
        went_each (who k) before old comes.mid comes.world (sym number) way comes.went,
        own_each (who k) Plain comes.mid after comes.world left (Ended answer) (sym number)
            (went_on lines (who k) before old comes.mid comes.world (sym number) way comes.went) comes.steps,
      )

      ran_each : (k : ℕ) (r : Result Reply WorldFault) (h : RunsTo (record { session = k; event = n }) (span_of before after old new) r) → EachRunTold Holds (record { session = k; event = n }) (span_of before after old new) r h
      ran_each k (Ok reply) run = come_each k new run.answer run.comes
      ran_each k (Err why) run = come_each k run.left run.answer run.comes

      run_each : (k : ℕ) (h : Runs (record { session = k; event = n }) (span_of before after old new) result) → EachRun Holds (record { session = k; event = n }) (span_of before after old new) result h
      run_each k (inl refused) = tt
      run_each k (inr (inl run)) = ran_each k result run
      run_each k (inr (inr memory)) = tt

      crash_each : (k : ℕ) (done : Bool) (h : Crashes (record { session = k; event = n }) done (span_of before after old new) result) → EachCrashed Holds (record { session = k; event = n }) done (span_of before after old new) result h
      crash_each k false dies = tt
      crash_each k true (inl idle) = tt
      crash_each k true (inr (inl dies)) = own_each (who k) Plain before after old dies.world dies.turn (sym number) way dies.steps
      crash_each k true (inr (inr memory)) = tt

      -- its line is one of the lines, whatever is replied to that
      through_each : (k : ℕ) (h : WorksThrough (record { session = k; event = n }) (span_of before after old new) result) → EachThrough Holds (record { session = k; event = n }) (span_of before after old new) result h
      through_each k (inl refused) = tt
      through_each k (inr (inl down)) =
          let rest = open_rests k old down.opened in
          let q : Reply = reply.Worked 0 0 in
          works_each n k (lines ++ line_of (event.Work k) q ∷ []) rest.0 (worker_rows lines k n before old t (sym number) told stands q) (session_at old.sessions) before old
          down.queues down.done down.passed after new rest.2 (worker_begins lines k n before old t (sym number) told stands q tt) down.works
      through_each k (inr (inr memory)) = tt

      does_each : (k : ℕ) (request : Request) (h : Does (record { session = k; event = n }) request (span_of before after old new) result) → EachDone Holds (record { session = k; event = n }) request (span_of before after old new) result h
      does_each k (Step wish) h = made_each k wish h
      does_each k Run h = run_each k h
      does_each k (Crash done) h = crash_each k done h
      does_each k WorksDue h = through_each k h
      does_each k (Policy role number) h = tt
      does_each k (Begin o) h = tt
      does_each k (Note noting) h = tt
      does_each k Abort h = tt

      serves_each : (k : ℕ) (request : Result Request Refused) (h : Serves (record { session = k; event = n }) request (span_of before after old new) result) → EachServed Holds (record { session = k; event = n }) request (span_of before after old new) result h
      serves_each k (Ok request) h = does_each k request h
      serves_each k (Err why) h = tt

  -- ---- the settler

  -- each step of the settler, within its own line
  module _ (errand : Errand) (n : ℕ) (lines : List Line) (first : Sessions) (row : AreRowsOf errand lines (settler n)) where
    settler_each : (before after : Seen) (old new : World) (turn : Turn Answer) → SettlerGoes errand n lines first old before → (p : StepsLooked (settler n) Plain (span_of before after old new) turn)
        → Holds (settler n) Plain (span_of before after old new) turn p
    settler_each before after old new turn goes p =
        holds_step n lines (settler n) Plain before after old new turn goes.state goes.holds p (p.wishes.set goes.state (p.look_before.stays goes.state goes.told))

    settled_each : (before : Seen) (old : World) (after : Seen) (new : World) → SettlerGoes errand n lines first old before → (went : Went (settler n) before old after new)
        → EachWent Holds went
    settled_each before old after new goes start = tt
    settled_each before old after new goes (further mid _ world _ went step) = (
      settled_each before old mid world goes went,
      settler_each mid after world new More (settler_went errand n lines first row before old mid world goes went) step,
    )

    comes_each : (before after : Seen) (old new : World) (answer : Answer) → SettlerGoes errand n lines first old before → (comes : ComesTo (settler n) (span_of before after old new) answer)
        → EachCome Holds (settler n) (span_of before after old new) answer comes
    comes_each before after old new answer goes comes = (
      settled_each before old comes.mid comes.world goes comes.went,
      settler_each comes.mid after comes.world new (Ended answer) (settler_went errand n lines first row before old comes.mid comes.world goes comes.went) comes.steps,
    )

  module _ (lines : List Line) (n : ℕ) (before after : Seen) (old new : World) (result : Result Reply WorldFault) (t : CloudState) (number : length lines + 1 ≡ n) (told : before.state ≡ Some t)
      (stands : LinesStand lines old t) where
    -- the lines with its own behind them, whatever is replied to that
    abbrev r : Reply
    r = reply.Settled 0

    errand_each : (errand : Errand) → IsRightErrand errand → (h : Settles errand n (span_of before after old new) result) → EachSettling Holds errand n (span_of before after old new) result h
    errand_each errand right (inr memory) = tt
    errand_each errand right (inl h) = on h.settles
      where
        on : (s : SettlesOn errand (settler n) (span_of before after h.begun new) result) → EachSettlingOn Holds errand (settler n) (span_of before after h.begun new) result s
        on (inr memory) = tt
        on (inl s) =
            comes_each errand n (lines ++ line_of (event_for errand) r ∷ []) (session_at old.sessions) (errand_row errand lines r (settler n) refl (sym number)) before after h.begun s.left s.answer
            (settler_begins errand right lines n before old h.begun t (sym number) told stands h.begins r tt) s.comes

  -- ---- every line

  pub each_held : (lines : List Line) (n : ℕ) (asked : Asked) (before after : Seen) (old new : World) (result : Result Reply WorldFault) (t : CloudState) → length lines + 1 ≡ n
      → before.state ≡ Some t → LinesStand lines old t → (h : Answers n asked (span_of before after old new) result) → EachAsked Holds n asked (span_of before after old new) result h
  each_held lines n (Session k request) before after old new result t number told stands (inl served) =
      serves_each lines n before after old new result t number told stands k request served.1
  each_held lines n (Session k request) before after old new result t number told stands (inr none) = tt
  each_held lines n (Wait ticks) before after old new result t number told stands waits = tt
  each_held lines n (Report tree) before after old new result t number told stands reports = tt
  each_held lines n Settle before after old new result t number told stands h = errand_each lines n before after old new result t number told stands settles tt h
  each_held lines n (Sweep (Ok tree)) before after old new result t number told stands h = errand_each lines n before after old new result t number told stands (sweeps tree) h.0 h.1
  each_held lines n (Sweep (Err why)) before after old new result t number told stands h = tt
