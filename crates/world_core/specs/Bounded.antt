-- How many service calls the checkpoint of a session makes at most, whichever lines make them.
use Rattle.std.specs.Prelude.{ℕ, ◌≡◌, ◌+◌, Bool, true, false, List, length, Some, Result, Ok, Err}
use Rattle.std.proofs.Common.{inl, inr}
use Rattle.client_work.specs.declared.answer.Answer.{Answer}
use Rattle.cloud_facts.specs.Words.{QueueName, Turn, Ended, CloudState, Caller, Seen}
use Rattle.db_base.specs.declared.refusal.Refused.{Refused}
use Rattle.db_base.specs.declared.wish.Wish.{Wish}
use Rattle.db_base.specs.declared.wish.Wish.TheVariants.{Plain}
use Rattle.event_text.specs.declared.event.Event.{Event}
use Rattle.replay_meaning.specs.Standing.{Line}
use Rattle.reply_text.specs.declared.reply.Reply.{Reply}
use Rattle.session_facts.specs.Lines.Counted.{calls_told, FewFor}
use Rattle.world_core.specs.declared.asked.Asked.{Asked}
use Rattle.world_core.specs.declared.asked.Asked.TheVariants.{Session}
use Rattle.world_core.specs.declared.asked.Request.{Request}
use Rattle.world_core.specs.declared.asked.Request.TheVariants.{Work, Step, Run, Crash}
use Rattle.world_core.specs.World.{World}
use Rattle.world_core.specs.declared.world.WorldFault.{WorldFault}
use Rattle.world_core.specs.Handled.{StepsLooked, StepsTo, MakesStep, Went, start, further, ComesTo, RunsTo, Runs, Works, no_checkpoint, checkpoint_more, WorksThrough, Crashes, Does, Serves, Answers, Handled, gone_through}
use Rattle.world_core.specs.Stands.{WorldStands}
use Rattle.world_core.specs.Span.{Span, span_of}

-- ---- how many calls

-- the steps by which a world went on, each one service call
abbrev pub steps_of : {who : Caller} {before : Seen} {old : World} {after : Seen} {new : World} → Went who before old after new → ℕ
steps_of start = 0
steps_of (further mid _ world _ went step) = steps_of went + 1

-- with the one that was answered
abbrev pub calls_of : (who : Caller) (span : Span) (answer : Answer) → ComesTo who span answer → ℕ
calls_of who span answer comes = steps_of comes.went + 1

-- ---- a line

-- behind a line, so many calls of what a session had in hand were few, by what it had received before the last of them
abbrev pub WereFew : ℕ → (who : Caller) (wish : Wish) (span : Span) → (turn : Turn Answer) → StepsLooked who wish span turn → Type 0
WereFew calls who wish span turn p = (last : CloudState) → span.after.state ≡ Some last → FewFor calls last p.session.before.work

-- a step is one call more than the lines before it told, whether its reply found memory or not
abbrev pub WasSoon : List Line → (who : Caller) (wish : Wish) (span : Span) (result : Result Reply WorldFault) → StepsTo who wish span result → Type 0
WasSoon lines who wish span (Ok reply) made =
    WereFew (calls_told lines who.session + 1) who wish span made.turn made.steps
WasSoon lines who wish span (Err why) made =
    WereFew (calls_told lines who.session + 1) who wish (record span { new = made.left }) made.turn made.steps

abbrev pub StepsSoon : List Line → (who : Caller) (wish : Wish) (span : Span) (result : Result Reply WorldFault) → MakesStep who wish span result → Type 0
StepsSoon lines who wish span result (inl refused) = Unit {0}
StepsSoon lines who wish span result (inr (inl made)) = WasSoon lines who wish span result made
StepsSoon lines who wish span result (inr (inr memory)) = Unit {0}

-- those of a run up to its answer
abbrev pub CameSoon : List Line → (who : Caller) (span : Span) (answer : Answer) → ComesTo who span answer → Type 0
CameSoon lines who span answer comes =
    WereFew (calls_told lines who.session + calls_of who span answer comes)
    who Plain (span_of comes.mid span.after comes.world span.new) (Ended answer) comes.steps

abbrev pub RanSoon : List Line → (who : Caller) (span : Span) (result : Result Reply WorldFault) → RunsTo who span result → Type 0
RanSoon lines who span (Ok reply) run = CameSoon lines who span run.answer run.comes
RanSoon lines who span (Err why) run = CameSoon lines who (record span { new = run.left }) run.answer run.comes

-- a run makes its own
abbrev pub RunsSoon : List Line → (who : Caller) (span : Span) (result : Result Reply WorldFault) → Runs who span result → Type 0
RunsSoon lines who span result (inl refused) = Unit {0}
RunsSoon lines who span result (inr (inl run)) = RanSoon lines who span result run
RunsSoon lines who span result (inr (inr memory)) = Unit {0}

-- each checkpoint that is due makes its own
abbrev pub EachSoon : {who : Caller} {before : Seen} {old : World} {queues : List QueueName} {done passed : ℕ} {after : Seen} {new : World}
    → Works who before old (gone_through queues done passed) after new → Type 0
EachSoon no_checkpoint = Unit {0}
EachSoon (checkpoint_more others kept left mid world queue answer after new works makes passes) =
    EachSoon works
    × WereFew (calls_of _ (span_of mid after makes.begun new) answer makes.comes) _ Plain (span_of makes.comes.mid after makes.comes.world new) (Ended answer) makes.comes.steps

abbrev pub WorksSoon : (who : Caller) (span : Span) (result : Result Reply WorldFault) → WorksThrough who span result → Type 0
WorksSoon who span result (inl refused) = Unit {0}
WorksSoon who span result (inr (inl work)) =
    EachSoon work.works
WorksSoon who span result (inr (inr memory)) = Unit {0}

-- a session that dies with its call in hand made one more
abbrev pub CrashesSoon : List Line → (who : Caller) (done : Bool) (span : Span) (result : Result Reply WorldFault) → Crashes who done span result → Type 0
CrashesSoon lines who false span result dies = Unit {0}
CrashesSoon lines who true span result (inl idle) = Unit {0}
CrashesSoon lines who true span result (inr (inl dies)) =
    WereFew (calls_told lines who.session + 1) who Plain (record span { new = dies.world }) dies.turn dies.steps
CrashesSoon lines who true span result (inr (inr memory)) = Unit {0}

-- of other requests nothing is counted
abbrev pub DoesSoon : List Line → (who : Caller) (request : Request) (span : Span) (result : Result Reply WorldFault) → Does who request span result → Type 0
DoesSoon lines who (Step wish) span result does = StepsSoon lines who wish span result does
DoesSoon lines who Run span result does = RunsSoon lines who span result does
DoesSoon lines who Work span result does = WorksSoon who span result does
DoesSoon lines who (Crash done) span result does = CrashesSoon lines who done span result does
DoesSoon lines who request span result does = Unit {0}

abbrev pub ServesSoon : List Line → (who : Caller) (request : Result Request Refused) (span : Span) (result : Result Reply WorldFault)
    → Serves who request span result → Type 0
ServesSoon lines who (Ok request) span result does = DoesSoon lines who request span result does
ServesSoon lines who (Err why) span result declines = Unit {0}

-- whichever session is asked
abbrev pub AnswersSoon : List Line → (n : ℕ) (asked : Asked) (span : Span) (result : Result Reply WorldFault) → Answers n asked span result → Type 0
AnswersSoon lines n (Session number request) span result (inl served) = ServesSoon lines (record { session = number; event = n }) request span result served.1
AnswersSoon lines n (Session number request) span result (inr none) = Unit {0}
AnswersSoon lines n asked span result answers = Unit {0}

-- Whatever lines a world and a cloud stood for before a line, however it was handled: the calls of a checkpoint up to the last one that the line made,
-- those of steps of earlier lines among them, are few: those of a tree for the distinct ids that it received and for the pages of its tree then.
abbrev pub MakesFewCalls : ℕ → Event → Span → Result Reply WorldFault → Type 0
MakesFewCalls n event span result =
    (lines : List Line) (t : CloudState) → length lines + 1 ≡ n → span.before.state ≡ Some t → WorldStands lines span.old t
    → (handled : Handled n event span result) → AnswersSoon lines n handled.asked span result handled.answers
