-- What the work of a session passes over where its calls are calm.
use Rattle.std.specs.Prelude.{ℕ, ◌≡◌, ◌+◌, List, length, Some, Result, Ok, Err}
use Rattle.std.proofs.Common.{inl, inr}
use Rattle.client_work.specs.declared.answer.Answer.{Answer}
use Rattle.client_work.specs.declared.answer.Answer.TheVariants as answer
use Rattle.cloud_facts.specs.Words.{Trouble, QueueName, CloudState, Caller, Seen}
use Rattle.db_base.specs.declared.names.QueueName.TheVariants.{Atomic, TreePu, PagePu}
use Rattle.db_base.specs.declared.refusal.Refused.{Refused}
use Rattle.event_text.specs.declared.event.Event.{Event}
use Rattle.replay_meaning.specs.Standing.{Line}
use Rattle.reply_text.specs.declared.reply.Reply.{Reply}
use Rattle.session_facts.specs.Sessions.Spent.{IsSpentInTree}
use Rattle.session_facts.specs.Sessions.Untroubled.{IsSpent, IsSpentOrOf}
use Rattle.world_core.specs.Calm.{StepIsCalm}
use Rattle.world_core.specs.EachStep.{EachStep}
use Rattle.world_core.specs.Handled.{Answers, Does, Handled, Serves, Works, WorksThrough, checkpoint_more, no_checkpoint, gone_through}
use Rattle.world_core.specs.Stands.{WorldStands}
use Rattle.world_core.specs.UnsentPages.{IsOfUnsent}
use Rattle.world_core.specs.World.{World}
use Rattle.world_core.specs.declared.asked.Asked.{Asked}
use Rattle.world_core.specs.declared.asked.Asked.TheVariants.{Session, Wait, Report, Settle, Sweep}
use Rattle.world_core.specs.declared.asked.Request.{Request}
use Rattle.world_core.specs.declared.asked.Request.TheVariants.{Begin, Note, Abort, Policy, Work, Step, Run, Crash}
use Rattle.world_core.specs.declared.world.WorldFault.{WorldFault}
use Rattle.world_core.specs.Span.{Span}

-- a counter of the tree is spent, as the cloud tells, or the page that was named is absent or no leaf, and no message was ever sent to its queue
abbrev pub MayPass : QueueName → CloudState → Trouble → Type 0
MayPass (TreePu tree) u k = IsSpent (IsSpentInTree tree) u k
MayPass (PagePu tree page) u k = IsSpentOrOf tree page u k × IsOfUnsent tree page u k
MayPass (Atomic client) u k = ⊥

-- the checkpoint of a queue that a trouble stopped was stopped so
abbrev pub PassesSo : QueueName → Seen → Answer → Type 0
PassesSo queue after (answer.Trouble k) = (u : CloudState) × (after.state ≡ Some u) × MayPass queue u k
PassesSo queue after a = Unit {0}

-- and so was each that was passed over
abbrev pub EachPassed : {who : Caller} {before : Seen} {old : World} {queues : List QueueName} {done passed : ℕ} {after : Seen} {new : World}
    → Works who before old (gone_through queues done passed) after new → Type 0
EachPassed no_checkpoint = Unit {0}
EachPassed (checkpoint_more others kept left mid world queue a after new works makes passes) =
    EachPassed works × PassesSo queue after a

abbrev pub ThroughPassed : (who : Caller) (span : Span) (result : Result Reply WorldFault) → WorksThrough who span result → Type 0
ThroughPassed who span result (inl refused) = Unit {0}
ThroughPassed who span result (inr (inl work)) =
    EachPassed work.works
ThroughPassed who span result (inr (inr memory)) = Unit {0}

-- of a line that works; of others nothing is said
abbrev pub DonePassed : (who : Caller) (request : Request) (span : Span) (result : Result Reply WorldFault) → Does who request span result → Type 0
DonePassed who Work span result does = ThroughPassed who span result does
DonePassed who (Step wish) span result does = Unit {0}
DonePassed who Run span result does = Unit {0}
DonePassed who (Crash done) span result does = Unit {0}
DonePassed who (Policy role k) span result does = Unit {0}
DonePassed who (Begin op) span result does = Unit {0}
DonePassed who (Note noting) span result does = Unit {0}
DonePassed who Abort span result does = Unit {0}

abbrev pub ServedPassed : (who : Caller) (request : Result Request Refused) (span : Span) (result : Result Reply WorldFault)
    → Serves who request span result → Type 0
ServedPassed who (Ok request) span result does = DonePassed who request span result does
ServedPassed who (Err why) span result declines = Unit {0}

abbrev pub AskedPassed : (n : ℕ) (asked : Asked) (span : Span) (result : Result Reply WorldFault) → Answers n asked span result → Type 0
AskedPassed n (Session number request) span result (inl served) = ServedPassed (record { session = number; event = n }) request span result served.1
AskedPassed n (Session number request) span result (inr none) = Unit {0}
AskedPassed n (Wait ticks) span result answers = Unit {0}
AskedPassed n (Report tree) span result answers = Unit {0}
AskedPassed n Settle span result answers = Unit {0}
AskedPassed n (Sweep tree) span result answers = Unit {0}

-- Whatever lines a world and a cloud stood for before a line, where each step of it was calm, however it was handled: it passes over no checkpoint but for
-- a spent counter, or a page that it names and that is absent or no leaf, and to whose queue no message was ever sent.
abbrev pub PassesWell : ℕ → Event → Span → Result Reply WorldFault → Type 0
PassesWell n event span result =
    (lines : List Line) (t : CloudState) → length lines + 1 ≡ n → span.before.state ≡ Some t → WorldStands lines span.old t
    → (handled : Handled n event span result) → EachStep StepIsCalm n event span result handled
    → AskedPassed n handled.asked span result handled.answers
