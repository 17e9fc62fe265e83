-- What holds of each step of a line: it holds of a session's own steps, under the lines before it, and of a settling's.
use Rattle.std.proofs.Common.{inl, inr, ◌≡◌, ◌+◌, ℕ, List, length, Bool, true, false, Some, Result, Ok, Err, sym}
use Rattle.client_work.specs.declared.answer.Answer.{Answer}
use Rattle.cloud_facts.specs.Words.{Turn, More, Ended, CloudState, Caller, Seen}
use Rattle.db_base.specs.declared.refusal.Refused.{Refused}
use Rattle.db_base.specs.declared.wish.Wish.{Wish}
use Rattle.db_base.specs.declared.wish.Wish.TheVariants.{Plain}
use Rattle.replay_meaning.specs.Standing.{Line}
use Rattle.reply_text.specs.declared.reply.Reply.{Reply}
use Rattle.session_facts.specs.Lines.Errands.{Errand, settles, sweeps}
use Rattle.world_core.specs.declared.asked.Asked.{Asked}
use Rattle.world_core.specs.declared.asked.Asked.TheVariants.{Session, Wait, Report, Settle, Sweep}
use Rattle.world_core.specs.declared.asked.Request.{Request}
use Rattle.world_core.specs.declared.asked.Request.TheVariants.{Begin, Note, Abort, Policy, Work as WorksDue, Step, Run, Crash}
use Rattle.world_core.specs.World.{World}
use Rattle.world_core.specs.declared.world.WorldFault.{WorldFault}
use Rattle.world_core.specs.EachStep.{StepFact, EachWent, EachCome, EachTold, EachMade, EachRunTold, EachRun, EachCrashed, EachSettling, EachDone, EachServed, EachAsked, EachThrough}
use Rattle.world_core.specs.Handled.{StepsLooked, StepsTo, MakesStep, Went, start, further, ComesTo, RunsTo, Runs, Settles, Crashes, Does, Serves, Answers, WorksThrough}
use Rattle.world_core.specs.Stands.{WorldStands}
use Rattle.world_core.specs.Span.{span_of}
use Rattle.world_core.proofs.StandsLemmas.{IsUnderWay, way_begins, went_on}

module _ (Holds : StepFact) (lines : List Line)
    (own : (who : Caller) (wish : Wish) (before after : Seen) (old new : World) (turn : Turn Answer) → who.event ≡ length lines + 1 → IsUnderWay lines old before
    → (p : StepsLooked who wish (span_of before after old new) turn) → Holds who wish (span_of before after old new) turn p)
    (errands : (errand : Errand) (n : ℕ) (before after : Seen) (old new : World) (result : Result Reply WorldFault) (h : Settles errand n (span_of before after old new) result)
    → EachSettling Holds errand n (span_of before after old new) result h)
    (works : (n k : ℕ) (before after : Seen) (old new : World) (result : Result Reply WorldFault) (h : WorksThrough (record { session = k; event = n }) (span_of before after old new) result)
    → EachThrough Holds (record { session = k; event = n }) (span_of before after old new) result h) where
  went_each : (who : Caller) (before : Seen) (old : World) (after : Seen) (new : World) → who.event ≡ length lines + 1 → IsUnderWay lines old before
      → (went : Went who before old after new) → EachWent Holds went
  went_each who before old after new number way start = tt
  went_each who before old after new number way (further mid _ world _ went step) = (
    went_each who before old mid world number way went,
    own who Plain mid after world new More number (went_on lines who before old mid world number way went) step,
  )

  module _ (n : ℕ) (before after : Seen) (old new : World) (result : Result Reply WorldFault) (t : CloudState) (number : length lines + 1 ≡ n) (told : before.state ≡ Some t)
      (stands : WorldStands lines old t) where
    way : IsUnderWay lines old before
    way = way_begins lines before old t told stands.by_lines

    abbrev who : ℕ → Caller
    who k = record { session = k; event = n }

    told_each : (k : ℕ) (wish : Wish) (r : Result Reply WorldFault) (h : StepsTo (record { session = k; event = n }) wish (span_of before after old new) r) → EachTold Holds (record { session = k; event = n }) wish (span_of before after old new) r h
    told_each k wish (Ok reply) made = own (who k) wish before after old new made.turn (sym number) way made.steps
    told_each k wish (Err why) made = own (who k) wish before after old made.left made.turn (sym number) way made.steps

    made_each : (k : ℕ) (wish : Wish) (h : MakesStep (record { session = k; event = n }) wish (span_of before after old new) result) → EachMade Holds (record { session = k; event = n }) wish (span_of before after old new) result h
    made_each k wish (inl refused) = tt
    made_each k wish (inr (inl made)) = told_each k wish result made
    made_each k wish (inr (inr memory)) = tt

    come_each : (k : ℕ) (left : World) (answer : Answer) (comes : ComesTo (who k) (span_of before after old left) answer) → EachCome Holds (who k) (span_of before after old left) answer comes
    come_each k left answer comes = (
      went_each (who k) before old comes.mid comes.world (sym number) way comes.went,
      own (who k) Plain comes.mid after comes.world left (Ended answer) (sym number)
          (went_on lines (who k) before old comes.mid comes.world (sym number) way comes.went) comes.steps,
    )

    ran_each : (k : ℕ) (r : Result Reply WorldFault) (h : RunsTo (record { session = k; event = n }) (span_of before after old new) r) → EachRunTold Holds (record { session = k; event = n }) (span_of before after old new) r h
    ran_each k (Ok reply) run = come_each k new run.answer run.comes
    ran_each k (Err why) run = come_each k run.left run.answer run.comes

    run_each : (k : ℕ) (h : Runs (record { session = k; event = n }) (span_of before after old new) result) → EachRun Holds (record { session = k; event = n }) (span_of before after old new) result h
    run_each k (inl refused) = tt
    run_each k (inr (inl run)) = ran_each k result run
    run_each k (inr (inr memory)) = tt

    crash_each : (k : ℕ) (done : Bool) (h : Crashes (record { session = k; event = n }) done (span_of before after old new) result) → EachCrashed Holds (record { session = k; event = n }) done (span_of before after old new) result h
    crash_each k false dies = tt
    crash_each k true (inl idle) = tt
    crash_each k true (inr (inl dies)) = own (who k) Plain before after old dies.world dies.turn (sym number) way dies.steps
    crash_each k true (inr (inr memory)) = tt

    does_each : (k : ℕ) (request : Request) (h : Does (record { session = k; event = n }) request (span_of before after old new) result) → EachDone Holds (record { session = k; event = n }) request (span_of before after old new) result h
    does_each k (Step wish) h = made_each k wish h
    does_each k Run h = run_each k h
    does_each k (Crash done) h = crash_each k done h
    does_each k WorksDue h = works n k before after old new result h
    does_each k (Policy role number) h = tt
    does_each k (Begin o) h = tt
    does_each k (Note noting) h = tt
    does_each k Abort h = tt

    serves_each : (k : ℕ) (request : Result Request Refused) (h : Serves (record { session = k; event = n }) request (span_of before after old new) result) → EachServed Holds (record { session = k; event = n }) request (span_of before after old new) result h
    serves_each k (Ok request) h = does_each k request h
    serves_each k (Err why) h = tt

    -- ---- every line

    pub each_step : (asked : Asked) → (h : Answers n asked (span_of before after old new) result) → EachAsked Holds n asked (span_of before after old new) result h
    each_step (Session k request) (inl served) = serves_each k request served.1
    each_step (Session k request) (inr none) = tt
    each_step (Wait ticks) waits = tt
    each_step (Report tree) reports = tt
    each_step Settle h = errands settles n before after old new result h
    each_step (Sweep (Ok tree)) h = errands (sweeps tree) n before after old new result h.1
    each_step (Sweep (Err why)) h = tt
