-- What holds of each step that a line made.
use Rattle.std.specs.Prelude.{ℕ, Bool, true, false, List, Result, Ok, Err}
use Rattle.std.proofs.Common.{inl, inr}
use Rattle.client_work.specs.declared.answer.Answer.{Answer}
use Rattle.cloud_facts.specs.Words.{QueueName, Turn, More, Ended, Caller, Seen}
use Rattle.db_base.specs.declared.refusal.Refused.{Refused}
use Rattle.db_base.specs.declared.wish.Wish.{Wish}
use Rattle.db_base.specs.declared.wish.Wish.TheVariants.{Plain}
use Rattle.event_text.specs.declared.event.Event.{Event}
use Rattle.reply_text.specs.declared.reply.Reply.{Reply}
use Rattle.session_facts.specs.Lines.Errands.{Errand, settles, sweeps}
use Rattle.world_core.specs.declared.asked.Asked.{Asked}
use Rattle.world_core.specs.declared.asked.Asked.TheVariants.{Session, Wait, Report, Settle, Sweep}
use Rattle.world_core.specs.declared.asked.Request.{Request}
use Rattle.world_core.specs.declared.asked.Request.TheVariants.{Begin, Note, Abort, Policy, Work, Step, Run, Crash}
use Rattle.world_core.specs.World.{World}
use Rattle.world_core.specs.declared.world.WorldFault.{WorldFault}
use Rattle.world_core.specs.Handled.{StepsLooked, StepsTo, MakesStep, Went, start, further, ComesTo, RunsTo, Runs, SettlesOn, Settles, Works, no_checkpoint, checkpoint_more, WorksThrough, Crashes, Does, Serves, Answers, Handled, gone_through}
use Rattle.world_core.specs.Span.{Span, span_of}

-- what may be said of a step
abbrev pub StepFact : Type 1
StepFact = (who : Caller) (wish : Wish) (span : Span) (turn : Turn Answer) → StepsLooked who wish span turn → Type 0

-- it holds of each step by which a world went on
abbrev pub EachWent : StepFact → {who : Caller} {before : Seen} {old : World} {after : Seen} {new : World} → Went who before old after new → Type 0
EachWent Holds start = Unit {0}
EachWent Holds (further mid after world new went step) = EachWent Holds went × Holds _ Plain (span_of mid after world new) More step

-- of each up to an answer
abbrev pub EachCome : StepFact → (who : Caller) (span : Span) (answer : Answer) → ComesTo who span answer → Type 0
EachCome Holds who span answer comes =
    EachWent Holds comes.went × Holds who Plain (span_of comes.mid span.after comes.world span.new) (Ended answer) comes.steps

-- of a step that was made, whether its reply found memory or not
abbrev pub EachTold : StepFact → (who : Caller) (wish : Wish) (span : Span) (result : Result Reply WorldFault) → StepsTo who wish span result → Type 0
EachTold Holds who wish span (Ok reply) made = Holds who wish span made.turn made.steps
EachTold Holds who wish span (Err why) made = Holds who wish (record span { new = made.left }) made.turn made.steps

-- of the one step that was made, where one was
abbrev pub EachMade : StepFact → (who : Caller) (wish : Wish) (span : Span) (result : Result Reply WorldFault) → MakesStep who wish span result → Type 0
EachMade Holds who wish span result (inl refused) = Unit {0}
EachMade Holds who wish span result (inr (inl made)) = EachTold Holds who wish span result made
EachMade Holds who wish span result (inr (inr memory)) = Unit {0}

-- of each step up to an answer, whether the reply to that found memory or not
abbrev pub EachRunTold : StepFact → (who : Caller) (span : Span) (result : Result Reply WorldFault) → RunsTo who span result → Type 0
EachRunTold Holds who span (Ok reply) run = EachCome Holds who span run.answer run.comes
EachRunTold Holds who span (Err why) run = EachCome Holds who (record span { new = run.left }) run.answer run.comes

-- of each step of a run
abbrev pub EachRun : StepFact → (who : Caller) (span : Span) (result : Result Reply WorldFault) → Runs who span result → Type 0
EachRun Holds who span result (inl refused) = Unit {0}
EachRun Holds who span result (inr (inl run)) = EachRunTold Holds who span result run
EachRun Holds who span result (inr (inr memory)) = Unit {0}

-- of the call in hand that a dying session still made
abbrev pub EachCrashed : StepFact → (who : Caller) (done : Bool) (span : Span) (result : Result Reply WorldFault) → Crashes who done span result → Type 0
EachCrashed Holds who false span result dies = Unit {0}
EachCrashed Holds who true span result (inl idle) = Unit {0}
EachCrashed Holds who true span result (inr (inl dies)) = Holds who Plain (record span { new = dies.world }) dies.turn dies.steps
EachCrashed Holds who true span result (inr (inr memory)) = Unit {0}

-- of each step of the settler
abbrev pub EachSettlingOn : StepFact → (errand : Errand) (who : Caller) (span : Span) (result : Result Reply WorldFault)
    → SettlesOn errand who span result → Type 0
EachSettlingOn Holds errand who span result (inl ended) = EachCome Holds who (record span { new = ended.left }) ended.answer ended.comes
EachSettlingOn Holds errand who span result (inr memory) = Unit {0}

abbrev pub EachSettling : StepFact → (errand : Errand) (n : ℕ) (span : Span) (result : Result Reply WorldFault)
    → Settles errand n span result → Type 0
EachSettling Holds errand n span result (inl goes) = EachSettlingOn Holds errand (record { session = 0; event = n }) (record span { old = goes.begun }) result goes.settles
EachSettling Holds errand n span result (inr memory) = Unit {0}

-- of each step of the checkpoints that a session made
abbrev pub EachWork : StepFact → {who : Caller} {before : Seen} {old : World} {queues : List QueueName} {done passed : ℕ} {after : Seen} {new : World}
    → Works who before old (gone_through queues done passed) after new → Type 0
EachWork Holds no_checkpoint = Unit {0}
EachWork Holds (checkpoint_more others kept left mid world queue answer after new works makes passes) =
    EachWork Holds works × EachCome Holds _ (span_of mid after makes.begun new) answer makes.comes

abbrev pub EachThrough : StepFact → (who : Caller) (span : Span) (result : Result Reply WorldFault) → WorksThrough who span result → Type 0
EachThrough Holds who span result (inl refused) = Unit {0}
EachThrough Holds who span result (inr (inl work)) =
    EachWork Holds work.works
EachThrough Holds who span result (inr (inr memory)) = Unit {0}

-- of each step that a request made
abbrev pub EachDone : StepFact → (who : Caller) (request : Request) (span : Span) (result : Result Reply WorldFault) → Does who request span result → Type 0
EachDone Holds who (Step wish) span result does = EachMade Holds who wish span result does
EachDone Holds who Run span result does = EachRun Holds who span result does
EachDone Holds who (Crash done) span result does = EachCrashed Holds who done span result does
EachDone Holds who Work span result does = EachThrough Holds who span result does
EachDone Holds who (Policy role k) span result does = Unit {0}
EachDone Holds who (Begin op) span result does = Unit {0}
EachDone Holds who (Note noting) span result does = Unit {0}
EachDone Holds who Abort span result does = Unit {0}

abbrev pub EachServed : StepFact → (who : Caller) (request : Result Request Refused) (span : Span) (result : Result Reply WorldFault) → Serves who request span result
    → Type 0
EachServed Holds who (Ok request) span result does = EachDone Holds who request span result does
EachServed Holds who (Err why) span result declines = Unit {0}

abbrev pub EachAsked : StepFact → (n : ℕ) (asked : Asked) (span : Span) (result : Result Reply WorldFault) → Answers n asked span result → Type 0
EachAsked Holds n (Session number request) span result (inl served) = EachServed Holds (record { session = number; event = n }) request span result served.1
EachAsked Holds n (Session number request) span result (inr none) = Unit {0}
EachAsked Holds n Settle span result settling = EachSettling Holds settles n span result settling
EachAsked Holds n (Sweep (Ok tree)) span result sweeping = EachSettling Holds (sweeps tree) n span result sweeping.1
EachAsked Holds n (Sweep (Err why)) span result declines = Unit {0}
EachAsked Holds n (Wait ticks) span result waits = Unit {0}
EachAsked Holds n (Report tree) span result reports = Unit {0}

-- it holds of each step that a line made, as it was handled
abbrev pub EachStep : StepFact → (n : ℕ) (event : Event) (span : Span) (result : Result Reply WorldFault) → Handled n event span result → Type 0
EachStep Holds n event span result handled = EachAsked Holds n handled.asked span result handled.answers
