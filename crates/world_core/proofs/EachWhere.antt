-- Where one thing holds of each step of a line, another does that follows from it.
use Rattle.std.proofs.Common.{inl, inr, ℕ, Bool, true, false, Result, Ok, Err, List}
use Rattle.client_work.specs.declared.answer.Answer.{Answer}
use Rattle.cloud_facts.specs.Words.{QueueName, Turn, Caller, Seen}
use Rattle.db_base.specs.declared.refusal.Refused.{Refused}
use Rattle.db_base.specs.declared.wish.Wish.{Wish}
use Rattle.reply_text.specs.declared.reply.Reply.{Reply}
use Rattle.session_facts.specs.Lines.Errands.{Errand, settles, sweeps}
use Rattle.world_core.specs.declared.asked.Asked.{Asked}
use Rattle.world_core.specs.declared.asked.Asked.TheVariants.{Session, Wait, Report, Settle, Sweep}
use Rattle.world_core.specs.declared.asked.Request.{Request}
use Rattle.world_core.specs.declared.asked.Request.TheVariants.{Begin, Note, Abort, Policy, Work as WorksDue, Step, Run, Crash}
use Rattle.world_core.specs.World.{World}
use Rattle.world_core.specs.declared.world.WorldFault.{WorldFault}
use Rattle.world_core.specs.EachStep.{StepFact, EachWent, EachCome, EachTold, EachMade, EachRunTold, EachRun, EachCrashed, EachSettlingOn, EachSettling, EachDone, EachServed, EachAsked, EachThrough, EachWork}
use Rattle.world_core.specs.Handled.{StepsLooked, StepsTo, MakesStep, Went, start, further, ComesTo, RunsTo, Runs, SettlesOn, Settles, Crashes, Does, Serves, Answers, Works, WorksThrough, checkpoint_more, no_checkpoint, gone_through}
use Rattle.world_core.specs.Span.{span_of}

module _ (First Then : StepFact)
    (own : (who : Caller) (wish : Wish) (before after : Seen) (old new : World) (turn : Turn Answer) (p : StepsLooked who wish (span_of before after old new) turn)
    → First who wish (span_of before after old new) turn p → Then who wish (span_of before after old new) turn p) where
  went_where : (who : Caller) (before : Seen) (old : World) (after : Seen) (new : World) (went : Went who before old after new) → EachWent First went
      → EachWent Then went
  went_where who before old after new start each = tt
  went_where who before old after new (further mid _ world _ went step) each =
      (went_where who before old mid world went each.0, own who _ mid after world new _ step each.1)

  comes_where : (who : Caller) (before after : Seen) (old new : World) (answer : Answer) (comes : ComesTo who (span_of before after old new) answer) → EachCome First who (span_of before after old new) answer comes
      → EachCome Then who (span_of before after old new) answer comes
  comes_where who before after old new answer comes each =
      (went_where who before old comes.mid comes.world comes.went each.0, own who _ comes.mid after comes.world new _ comes.steps each.1)

  works_where : (who : Caller) (before : Seen) (old : World) (queues : List QueueName) (done passed : ℕ) (after : Seen) (new : World) (works : Works who before old (gone_through queues done passed) after new)
      → EachWork First works → EachWork Then works
  works_where who before old queues done passed after new no_checkpoint each = tt
  works_where who before old queues done passed after new (checkpoint_more others kept left mid world queue a _ _ works makes passes) each =
      (works_where who before old others kept left mid world works each.0, comes_where who mid after makes.begun new a makes.comes each.1)

  module _ (n : ℕ) (before after : Seen) (old new : World) (result : Result Reply WorldFault) where
    told_where : (k : ℕ) (wish : Wish) (r : Result Reply WorldFault) (h : StepsTo (record { session = k; event = n }) wish (span_of before after old new) r) → EachTold First (record { session = k; event = n }) wish (span_of before after old new) r h
        → EachTold Then (record { session = k; event = n }) wish (span_of before after old new) r h
    told_where k wish (Ok reply) made each = own _ wish before after old new made.turn made.steps each
    told_where k wish (Err why) made each = own _ wish before after old made.left made.turn made.steps each

    made_where : (k : ℕ) (wish : Wish) (h : MakesStep (record { session = k; event = n }) wish (span_of before after old new) result) → EachMade First (record { session = k; event = n }) wish (span_of before after old new) result h
        → EachMade Then (record { session = k; event = n }) wish (span_of before after old new) result h
    made_where k wish (inl refused) each = tt
    made_where k wish (inr (inl made)) each = told_where k wish result made each
    made_where k wish (inr (inr memory)) each = tt

    ran_where : (k : ℕ) (r : Result Reply WorldFault) (h : RunsTo (record { session = k; event = n }) (span_of before after old new) r) → EachRunTold First (record { session = k; event = n }) (span_of before after old new) r h → EachRunTold Then (record { session = k; event = n }) (span_of before after old new) r h
    ran_where k (Ok reply) run each = comes_where _ before after old new run.answer run.comes each
    ran_where k (Err why) run each = comes_where _ before after old run.left run.answer run.comes each

    run_where : (k : ℕ) (h : Runs (record { session = k; event = n }) (span_of before after old new) result) → EachRun First (record { session = k; event = n }) (span_of before after old new) result h → EachRun Then (record { session = k; event = n }) (span_of before after old new) result h
    run_where k (inl refused) each = tt
    run_where k (inr (inl run)) each = ran_where k result run each
    run_where k (inr (inr memory)) each = tt

    through_where : (k : ℕ) (h : WorksThrough (record { session = k; event = n }) (span_of before after old new) result) → EachThrough First (record { session = k; event = n }) (span_of before after old new) result h → EachThrough Then (record { session = k; event = n }) (span_of before after old new) result h
    through_where k (inl refused) each = tt
    through_where k (inr (inl down)) each = works_where _ before old down.queues down.done down.passed after new down.works each
    through_where k (inr (inr memory)) each = tt

    crash_where : (k : ℕ) (done : Bool) (h : Crashes (record { session = k; event = n }) done (span_of before after old new) result) → EachCrashed First (record { session = k; event = n }) done (span_of before after old new) result h
        → EachCrashed Then (record { session = k; event = n }) done (span_of before after old new) result h
    crash_where k false dies each = tt
    crash_where k true (inl idle) each = tt
    crash_where k true (inr (inl dies)) each = own _ _ before after old dies.world dies.turn dies.steps each
    crash_where k true (inr (inr memory)) each = tt

    does_where : (k : ℕ) (request : Request) (h : Does (record { session = k; event = n }) request (span_of before after old new) result) → EachDone First (record { session = k; event = n }) request (span_of before after old new) result h
        → EachDone Then (record { session = k; event = n }) request (span_of before after old new) result h
    does_where k (Step wish) h each = made_where k wish h each
    does_where k Run h each = run_where k h each
    does_where k (Crash done) h each = crash_where k done h each
    does_where k WorksDue h each = through_where k h each
    does_where k (Policy role number) h each = tt
    does_where k (Begin o) h each = tt
    does_where k (Note noting) h each = tt
    does_where k Abort h each = tt

    serves_where : (k : ℕ) (request : Result Request Refused) (h : Serves (record { session = k; event = n }) request (span_of before after old new) result) → EachServed First (record { session = k; event = n }) request (span_of before after old new) result h
        → EachServed Then (record { session = k; event = n }) request (span_of before after old new) result h
    serves_where k (Ok request) h each = does_where k request h each
    serves_where k (Err why) h each = tt

    settles_where : (errand : Errand) (h : Settles errand n (span_of before after old new) result) → EachSettling First errand n (span_of before after old new) result h
        → EachSettling Then errand n (span_of before after old new) result h
    settles_where errand (inr memory) each = tt
    settles_where errand (inl h) each = on h.settles each
      where
        on : (s : SettlesOn errand (record { session = 0; event = n }) (span_of before after h.begun new) result) → EachSettlingOn First errand (record { session = 0; event = n }) (span_of before after h.begun new) result s
            → EachSettlingOn Then errand (record { session = 0; event = n }) (span_of before after h.begun new) result s
        on (inr memory) each = tt
        on (inl s) each = comes_where _ before after h.begun s.left s.answer s.comes each

    pub asked_where : (asked : Asked) (h : Answers n asked (span_of before after old new) result) → EachAsked First n asked (span_of before after old new) result h
        → EachAsked Then n asked (span_of before after old new) result h
    asked_where (Session k request) (inl served) each = serves_where k request served.1 each
    asked_where (Session k request) (inr none) each = tt
    asked_where (Wait ticks) waits each = tt
    asked_where (Report tree) reports each = tt
    asked_where Settle h each = settles_where settles h each
    asked_where (Sweep (Ok tree)) h each = settles_where (sweeps tree) h.1 each
    asked_where (Sweep (Err why)) h each = tt
