-- What holds of every step, whatever led to it, holds of each step of a line.
use Rattle.std.proofs.Common.{inl, inr, ℕ, Bool, true, false, Result, Ok, Err, List}
use Rattle.client_work.specs.declared.answer.Answer.{Answer}
use Rattle.cloud_facts.specs.Words.{QueueName, Turn, Caller, Seen}
use Rattle.db_base.specs.declared.refusal.Refused.{Refused}
use Rattle.db_base.specs.declared.wish.Wish.{Wish}
use Rattle.reply_text.specs.declared.reply.Reply.{Reply}
use Rattle.session_facts.specs.Lines.Errands.{Errand, settles, sweeps}
use Rattle.world_core.specs.declared.asked.Asked.{Asked}
use Rattle.world_core.specs.declared.asked.Asked.TheVariants.{Session, Wait, Report, Settle, Sweep}
use Rattle.world_core.specs.declared.asked.Request.{Request}
use Rattle.world_core.specs.declared.asked.Request.TheVariants.{Begin, Note, Abort, Policy, Work as WorksDue, Step, Run, Crash}
use Rattle.world_core.specs.World.{World}
use Rattle.world_core.specs.declared.world.WorldFault.{WorldFault}
use Rattle.world_core.specs.EachStep.{StepFact, EachWent, EachCome, EachTold, EachMade, EachRunTold, EachRun, EachCrashed, EachSettlingOn, EachSettling, EachDone, EachServed, EachAsked, EachThrough, EachWork}
use Rattle.world_core.specs.Handled.{StepsLooked, StepsTo, MakesStep, Went, start, further, ComesTo, RunsTo, Runs, SettlesOn, Settles, Crashes, Does, Serves, Answers, Works, WorksThrough, checkpoint_more, no_checkpoint, gone_through}
use Rattle.world_core.specs.Span.{span_of}

module _ (Holds : StepFact)
    (own : (who : Caller) (wish : Wish) (before after : Seen) (old new : World) (turn : Turn Answer) (p : StepsLooked who wish (span_of before after old new) turn)
    → Holds who wish (span_of before after old new) turn p) where
  went_each : (who : Caller) (before : Seen) (old : World) (after : Seen) (new : World) (went : Went who before old after new) → EachWent Holds went
  went_each who before old after new start = tt
  went_each who before old after new (further mid _ world _ went step) = (went_each who before old mid world went, own who _ mid after world new _ step)

  comes_each : (who : Caller) (before after : Seen) (old new : World) (answer : Answer) (comes : ComesTo who (span_of before after old new) answer)
      → EachCome Holds who (span_of before after old new) answer comes
  comes_each who before after old new answer comes =
      (went_each who before old comes.mid comes.world comes.went, own who _ comes.mid after comes.world new _ comes.steps)

  works_each : (who : Caller) (before : Seen) (old : World) (queues : List QueueName) (done passed : ℕ) (after : Seen) (new : World) (works : Works who before old (gone_through queues done passed) after new)
      → EachWork Holds works
  works_each who before old queues done passed after new no_checkpoint = tt
  works_each who before old queues done passed after new (checkpoint_more others kept left mid world queue a _ _ works makes passes) =
      (works_each who before old others kept left mid world works, comes_each who mid after makes.begun new a makes.comes)

  module _ (n : ℕ) (before after : Seen) (old new : World) (result : Result Reply WorldFault) where
    told_each : (k : ℕ) (wish : Wish) (r : Result Reply WorldFault) (h : StepsTo (record { session = k; event = n }) wish (span_of before after old new) r) → EachTold Holds (record { session = k; event = n }) wish (span_of before after old new) r h
    told_each k wish (Ok reply) made = own _ wish before after old new made.turn made.steps
    told_each k wish (Err why) made = own _ wish before after old made.left made.turn made.steps

    made_each : (k : ℕ) (wish : Wish) (h : MakesStep (record { session = k; event = n }) wish (span_of before after old new) result) → EachMade Holds (record { session = k; event = n }) wish (span_of before after old new) result h
    made_each k wish (inl refused) = tt
    made_each k wish (inr (inl made)) = told_each k wish result made
    made_each k wish (inr (inr memory)) = tt

    ran_each : (k : ℕ) (r : Result Reply WorldFault) (h : RunsTo (record { session = k; event = n }) (span_of before after old new) r) → EachRunTold Holds (record { session = k; event = n }) (span_of before after old new) r h
    ran_each k (Ok reply) run = comes_each _ before after old new run.answer run.comes
    ran_each k (Err why) run = comes_each _ before after old run.left run.answer run.comes

    run_each : (k : ℕ) (h : Runs (record { session = k; event = n }) (span_of before after old new) result) → EachRun Holds (record { session = k; event = n }) (span_of before after old new) result h
    run_each k (inl refused) = tt
    run_each k (inr (inl run)) = ran_each k result run
    run_each k (inr (inr memory)) = tt

    through_each : (k : ℕ) (h : WorksThrough (record { session = k; event = n }) (span_of before after old new) result) → EachThrough Holds (record { session = k; event = n }) (span_of before after old new) result h
    through_each k (inl refused) = tt
    through_each k (inr (inl down)) = works_each _ before old down.queues down.done down.passed after new down.works
    through_each k (inr (inr memory)) = tt

    crash_each : (k : ℕ) (done : Bool) (h : Crashes (record { session = k; event = n }) done (span_of before after old new) result) → EachCrashed Holds (record { session = k; event = n }) done (span_of before after old new) result h
    crash_each k false dies = tt
    crash_each k true (inl idle) = tt
    crash_each k true (inr (inl dies)) = own _ _ before after old dies.world dies.turn dies.steps
    crash_each k true (inr (inr memory)) = tt

    does_each : (k : ℕ) (request : Request) (h : Does (record { session = k; event = n }) request (span_of before after old new) result) → EachDone Holds (record { session = k; event = n }) request (span_of before after old new) result h
    does_each k (Step wish) h = made_each k wish h
    does_each k Run h = run_each k h
    does_each k (Crash done) h = crash_each k done h
    does_each k WorksDue h = through_each k h
    does_each k (Policy role number) h = tt
    does_each k (Begin o) h = tt
    does_each k (Note noting) h = tt
    does_each k Abort h = tt

    serves_each : (k : ℕ) (request : Result Request Refused) (h : Serves (record { session = k; event = n }) request (span_of before after old new) result) → EachServed Holds (record { session = k; event = n }) request (span_of before after old new) result h
    serves_each k (Ok request) h = does_each k request h
    serves_each k (Err why) h = tt

    settles_each : (errand : Errand) (h : Settles errand n (span_of before after old new) result) → EachSettling Holds errand n (span_of before after old new) result h
    settles_each errand (inr memory) = tt
    settles_each errand (inl h) = on h.settles
      where
        on : (s : SettlesOn errand (record { session = 0; event = n }) (span_of before after h.begun new) result) → EachSettlingOn Holds errand (record { session = 0; event = n }) (span_of before after h.begun new) result s
        on (inr memory) = tt
        on (inl s) = comes_each _ before after h.begun s.left s.answer s.comes

    pub asked_each : (asked : Asked) (h : Answers n asked (span_of before after old new) result) → EachAsked Holds n asked (span_of before after old new) result h
    asked_each (Session k request) (inl served) = serves_each k request served.1
    asked_each (Session k request) (inr none) = tt
    asked_each (Wait ticks) waits = tt
    asked_each (Report tree) reports = tt
    asked_each Settle h = settles_each settles h
    asked_each (Sweep (Ok tree)) h = settles_each (sweeps tree) h.1
    asked_each (Sweep (Err why)) h = tt
