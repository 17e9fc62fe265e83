-- A writer that is alone passes no checkpoint over.
use Rattle.std.specs.Prelude.{ℕ, ◌≡◌, ◌≢◌, ◌+◌, ◌≤◌, List, [], length, Some, Result, Ok, Err}
use Rattle.ckpt_policy.specs.declared.note.Note.{Note}
use Rattle.ckpt_policy.specs.declared.place.Place.{Place}
use Rattle.ckpt_policy.specs.Ledger.{IsNumber}
use Rattle.client_work.specs.declared.answer.Answer.TheVariants as answer
use Rattle.cloud_trait.specs.declared.turn.Turn.TheVariants.{Ended}
use Rattle.cloud_trait.specs.State.{CloudState}
use Rattle.db_base.specs.declared.names.QueueName.TheVariants.{PagePu}
use Rattle.db_base.specs.declared.trouble.Counter.{Counter}
use Rattle.db_base.specs.declared.trouble.Trouble.TheVariants as trouble
use Rattle.event_text.specs.declared.event.Event.{Event}
use Rattle.event_text.specs.declared.event.Event.TheVariants as event
use Rattle.replay_meaning.specs.Standing.{Line}
use Rattle.reply_text.specs.declared.reply.Reply.{Reply}
use Rattle.reply_text.specs.declared.reply.Reply.TheVariants as reply
use Rattle.session_notes.specs.Metered.{sent_since}
use Rattle.world_core.specs.Alone.{IsAloneIn, LeavesAlone, StepIsUndisturbed}
use Rattle.world_core.specs.EachStep.{StepFact, EachStep}
use Rattle.world_core.specs.Handled.{Handled}
use Rattle.world_core.specs.Metered.{HasLedger}
use Rattle.world_core.specs.Stands.{WorldStands}
use Rattle.world_core.specs.World.{World}
use Rattle.world_core.specs.Writers.{Stage, Unbound, Even, Owing, Astray, by_line, stage_of}
use Rattle.world_core.specs.declared.world.WorldFault.{WorldFault}
use Rattle.world_core.specs.Span.{Span}

-- the queue of each page has a message to which notes say that one was sent since its last checkpoint
abbrev pub HaveLanded : List Note → CloudState → Type 0
HaveLanded notes t = (place : Place) → 1 ≤ place.page → 1 ≤ sent_since notes place → t.messages (PagePu place.tree place.page) ≢ []

-- a session has the ledger of a writer of k, and what its notes say that it sent landed
pub record HasSent (session k : ℕ) (world : World) (t : CloudState) : Type 0 where
  pub notes : List Note
  pub ledger : HasLedger session k notes world.notes
  pub number : IsNumber k
  pub landed : HaveLanded notes t

-- so it is while it works as a writer
abbrev pub HasSentAt : Stage → ℕ → ℕ → World → CloudState → Type 0
HasSentAt Unbound session k world t = Unit {0}
HasSentAt Even session k world t = HasSent session k world t
HasSentAt Owing session k world t = HasSent session k world t
HasSentAt Astray session k world t = Unit {0}

-- a step was not answered that a counter is spent
abbrev pub StepSpendsNone : StepFact
StepSpendsNone who wish span turn p = (what : Counter) → turn ≢ Ended (answer.Trouble (trouble.Exhausted what))

-- a work passes no checkpoint over
abbrev pub PassesNone : Event → Reply → Type 0
PassesNone (event.Work session) (reply.Worked done passed) = passed ≡ 0
PassesNone e r = Unit {0}

-- that of a writer
abbrev pub PassesNoneAt : Stage → Event → Reply → Type 0
PassesNoneAt Unbound e r = Unit {0}
PassesNoneAt Even e r = PassesNone e r
PassesNoneAt Owing e r = PassesNone e r
PassesNoneAt Astray e r = Unit {0}

-- a line as it would be told if its work had passed none over
abbrev pub none_passed : Reply → Reply
none_passed (reply.Worked done passed) = reply.Worked done 0
none_passed r = r

abbrev pub unpassed : Line → Line
unpassed line = record { event = line.event; reply = none_passed line.reply }

-- Whatever lines a world and a cloud stood for before a line that leaves a session alone, where each step of it was undisturbed and none was answered that a
-- counter is spent: a writer that was alone, and of which all that its notes tell landed, passes no checkpoint over, and all landed behind the line too.
abbrev pub SparesWriter : ℕ → Event → Span → Result Reply WorldFault → Type 0
SparesWriter n event span (Ok reply) =
    (lines : List Line) (t u : CloudState) → length lines + 1 ≡ n → span.before.state ≡ Some t → span.after.state ≡ Some u → WorldStands lines span.old t
    → (handled : Handled n event span (Ok reply)) → EachStep StepIsUndisturbed n event span (Ok reply) handled
    → EachStep StepSpendsNone n event span (Ok reply) handled
    → (session k : ℕ) → LeavesAlone session event → IsAloneIn session span.old t → HasSentAt (stage_of session k lines) session k span.old t
    → PassesNoneAt (stage_of session k lines) event reply × HasSentAt (by_line session k event reply (stage_of session k lines)) session k span.new u
SparesWriter n event span (Err fault) = Unit {0}
