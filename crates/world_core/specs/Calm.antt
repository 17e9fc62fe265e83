-- A line whose calls are all calm is answered well.
use Rattle.std.specs.Prelude.{ℕ, ◌≡◌, ◌+◌, List, [], length, Some, Result, Ok, Err}
use Rattle.client_work.specs.declared.work.Work.{Work}
use Rattle.cloud_trait.specs.State.{CloudState}
use Rattle.db_base.specs.Ids.{IsTree}
use Rattle.db_base.specs.declared.refusal.Refusal.TheVariants as rule
use Rattle.db_base.specs.declared.trouble.Counter.{Counter}
use Rattle.event_text.specs.declared.event.Event.{Event}
use Rattle.event_text.specs.declared.event.Event.TheVariants as event
use Rattle.replay_meaning.specs.Standing.{Line, Task, Opening, Closing, Renewing, Committing, Reading, Scanning, LookingUp, Paging, Folding, Posture, Working, session_of, standing}
use Rattle.session_facts.specs.Sessions.Calls.{session_step}
use Rattle.session_facts.specs.Lines.Facts.{session_at}
use Rattle.reply_text.specs.declared.reply.Reply.{Reply}
use Rattle.reply_text.specs.declared.reply.Reply.TheVariants as reply
use Rattle.session_facts.specs.Sessions.Spent.{IsSpentToOpen, IsSpentToCommit, IsSpentInPages, IsSpentInTree, IsSpentToSettle}
use Rattle.session_facts.specs.Sessions.Untroubled.{StepsCalmly, IsUntroubled, IsSpent, IsSpentOrOf, CommitsWell}
use Rattle.world_core.specs.World.{World}
use Rattle.world_core.specs.declared.world.WorldFault.{WorldFault}
use Rattle.world_core.specs.EachStep.{StepFact, EachStep}
use Rattle.world_core.specs.Handled.{Handled}
use Rattle.world_core.specs.Stands.{WorldStands}
use Rattle.world_core.specs.UnsentPages.{InHand, LeavesUnsent}
use Rattle.world_core.specs.Span.{Span}

-- a step of a session was calm
abbrev pub StepIsCalm : StepFact
StepIsCalm who wish span turn p = StepsCalmly (session_step who p.under p.to p.session.before p.session.after turn) p.session.does

-- what a session of a world has in hand
abbrev pub work_at : World → ℕ → Work
work_at world session = (session_at world.sessions session).work

-- .. while a cloud tells this state
abbrev pub hand_at : CloudState → World → ℕ → InHand
hand_at t world session = record { cloud = t; work = work_at world session }

-- ---- answers

-- what is told where an operation finds a counter spent
abbrev pub spent_by : Task → CloudState → Counter → Type 0
spent_by Opening = IsSpentToOpen
spent_by (Committing changes) = IsSpentToCommit
spent_by (Paging tree page) = IsSpentInPages tree
spent_by (Folding tree) = IsSpentInTree tree
spent_by task = λ t what. ⊥

-- The answer of an operation that went well, where the cloud tells this behind it. A counter that the cloud tells as spent may stop an opening, a commit
-- and a checkpoint, and that of a page may find none, or no leaf.
abbrev pub DoesWell : CloudState → Task → Reply → Type 0
DoesWell u Opening (reply.Opened epoch) = Unit {0}
DoesWell u Opening (reply.Trouble k) = IsSpent (spent_by Opening) u k
DoesWell u Closing reply.Closed = Unit {0}
DoesWell u Renewing (reply.Renewed end) = Unit {0}
DoesWell u (Committing changes) (reply.Commit answer) = CommitsWell u answer
DoesWell u (Committing changes) (reply.Trouble k) = IsSpent (spent_by (Committing changes)) u k
DoesWell u (Reading tree key) (reply.Value payload) = Unit {0}
DoesWell u (Reading tree key) reply.NoValue = Unit {0}
DoesWell u (Scanning tree from to) (reply.Scan pairs) = Unit {0}
DoesWell u (LookingUp tree attr) (reply.Scan pairs) = Unit {0}
DoesWell u (Paging tree page) (reply.Done n) = n.left ≡ 0
DoesWell u (Paging tree page) (reply.Trouble k) = IsSpentOrOf tree page u k
DoesWell u (Folding tree) (reply.Done n) = n.left ≡ 0
DoesWell u (Folding tree) (reply.Trouble k) = IsSpent (spent_by (Folding tree)) u k
DoesWell u task reply = ⊥

-- the reply to the begin of an operation: it is begun, or a rule refuses it, or it is done at once
abbrev pub BeginsWell : CloudState → Task → Reply → Type 0
BeginsWell u task reply.Begun = Unit {0}
BeginsWell u task (reply.Refused rule) = Unit {0}
BeginsWell u task reply = DoesWell u task reply

-- the reply to a run: a session at work is done
abbrev pub RunsWell : CloudState → Posture → Reply → Type 0
RunsWell u posture (reply.Refused rule) = Unit {0}
RunsWell u (Working task) reply = DoesWell u task reply
RunsWell u posture reply = Unit {0}

-- the reply to a step: it goes on, or is done
abbrev pub StepsWell : CloudState → Posture → Reply → Type 0
StepsWell u posture reply.Called = Unit {0}
StepsWell u posture reply = RunsWell u posture reply

-- a settling comes to its end
abbrev pub SettlesWell : CloudState → Reply → Type 0
SettlesWell u (reply.Settled calls) = Unit {0}
SettlesWell u (reply.NotSettled k) = IsSpent IsSpentToSettle u k
SettlesWell u reply = ⊥

-- a sweep comes to its end, or the number is no tree's
abbrev pub SweepsWell : ℕ → Reply → Type 0
SweepsWell tree (reply.Swept kept removed) = Unit {0}
SweepsWell tree (reply.Refused r) = (r ≡ rule.BadNumber) × (IsTree tree → ⊥)
SweepsWell tree reply = ⊥

-- the checkpoints that are due are made, or a rule refuses the line
abbrev pub WorksWell : Reply → Type 0
WorksWell (reply.Worked done passed) = Unit {0}
WorksWell (reply.Refused rule) = Unit {0}
WorksWell reply = ⊥

-- the reply to a line whose session stood so; other lines make no call, and a report has its own clause
abbrev pub RepliesWell : CloudState → Event → Posture → Reply → Type 0
RepliesWell u (event.Open session client) posture reply = BeginsWell u Opening reply
RepliesWell u (event.Close session) posture reply = BeginsWell u Closing reply
RepliesWell u (event.Renew session) posture reply = BeginsWell u Renewing reply
RepliesWell u (event.Commit session) posture reply = BeginsWell u (Committing []) reply
RepliesWell u (event.Read session tree key) posture reply = BeginsWell u (Reading tree key) reply
RepliesWell u (event.Scan session tree from to) posture reply = BeginsWell u (Scanning tree from to) reply
RepliesWell u (event.Lookup session tree attr) posture reply = BeginsWell u (LookingUp tree attr) reply
RepliesWell u (event.Page session tree page) posture reply = BeginsWell u (Paging tree page) reply
RepliesWell u (event.Tree session tree) posture reply = BeginsWell u (Folding tree) reply
RepliesWell u (event.Step session wish) posture reply = StepsWell u posture reply
RepliesWell u (event.Run session) posture reply = RunsWell u posture reply
RepliesWell u (event.Work session) posture reply = WorksWell reply
RepliesWell u event.Settle posture reply = SettlesWell u reply
RepliesWell u (event.Sweep tree) posture reply = SweepsWell tree reply
RepliesWell u event posture reply = Unit {0}

-- ---- every line

-- Whatever lines a world and a cloud stood for before a line: where its session was untroubled and each step of the line was calm, however it was
-- handled, the session is untroubled behind it, and the line is answered well; and the checkpoint of a page finds it absent, or no leaf, only where no
-- message was ever sent to its queue.
abbrev pub AnswersWell : ℕ → Event → Span → Result Reply WorldFault → Type 0
AnswersWell n event span (Ok reply) =
    (lines : List Line) (t u : CloudState) → length lines + 1 ≡ n → span.before.state ≡ Some t → span.after.state ≡ Some u → WorldStands lines span.old t
    → (handled : Handled n event span (Ok reply)) → EachStep StepIsCalm n event span (Ok reply) handled
    → IsUntroubled t (work_at span.old (session_of event)) → IsUntroubled u (work_at span.new (session_of event)) × RepliesWell u event (standing lines (session_of event)).posture reply
    × LeavesUnsent event (standing lines (session_of event)).posture (hand_at t span.old (session_of event)) (hand_at u span.new (session_of event)) reply
AnswersWell n event span (Err fault) = Unit {0}
