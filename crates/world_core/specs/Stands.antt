-- What stands after a line where it stood before it.
use Rattle.std.specs.Prelude.{ℕ, ◌≡◌, ◌+◌, ◌<◌, List, [], ◌∷◌, ◌++◌, length, Some, Result, Ok, Err}
use Rattle.db_base.specs.Limits.{last_client}
use Rattle.cloud_trait.specs.State.{CloudState}
use Rattle.cloud_trait.specs.Seen.{Seen}
use Rattle.cloud_trait.specs.Traced.{IsTraced}
use Rattle.cloud_trait.specs.Upto.{AgreeUpto}
use Rattle.event_text.specs.declared.event.Event.{Event}
use Rattle.report_types.specs.declared.report.Report.{Report}
use Rattle.reply_text.specs.declared.reply.Reply.{Reply}
use Rattle.reply_text.specs.declared.reply.Reply.TheVariants as reply
use Rattle.world_audit.specs.Counts.{heads_upto, AreWaiting}
use Rattle.replay_meaning.specs.Standing.{Line}
use Rattle.replay_meaning.specs.Right.{ReportIsRight}
use Rattle.session_facts.specs.Lines.Counted.{calls_told, CountsAll}
use Rattle.session_facts.specs.Lines.Facts.{session_at, Stands, SomeBookStands}
use Rattle.world_core.specs.World.{World}
use Rattle.world_core.specs.declared.world.WorldFault.{WorldFault}
use Rattle.world_core.specs.Span.{Span}

-- the two numbers of a report: the clients whose newest head is open with a committed entry of its tree, and the messages that wait for it
pub record IsLeft (t : CloudState) (r : Report) : Type 0 where
  pub heads : r.heads ≡ heads_upto t r.tree r.committed last_client
  pub messages : AreWaiting t r.tree r.messages

abbrev pub LeftIsRight : CloudState → Reply → Type 0
LeftIsRight t (reply.Report r) = IsLeft t r
LeftIsRight t reply = Unit {0}

-- a world and a cloud stand for these lines; and of what each session has in hand so many calls were made as these tell, few for a checkpoint
pub record WorldStands (lines : List Line) (world : World) (t : CloudState) : Type 0 where
  pub by_lines : Stands lines (session_at world.sessions) world.audit world.blind t
  pub counted : CountsAll (calls_told lines) t (session_at world.sessions)

-- the world and a cloud that is told stand for these lines, the last of which has this reply; a report is right
pub record StandsFor (lines : List Line) (world : World) (seen : Seen) (reply : Reply) : Type 0 where
  pub after : CloudState
  pub told : seen.state ≡ Some after
  pub stands : WorldStands lines world after
  pub right : ReportIsRight lines after reply
  pub left : LeftIsRight after reply

-- whatever lines a world and a cloud stood for before a line, they stand for these and the line with its reply after it
abbrev pub StandsOn : ℕ → Event → Span → Result Reply WorldFault → Type 0
StandsOn n event span (Ok reply) =
    (lines : List Line) (t : CloudState) → length lines + 1 ≡ n → span.before.state ≡ Some t → WorldStands lines span.old t
    → StandsFor (lines ++ record { event = event; reply = reply } ∷ []) span.new span.after reply
StandsOn n event span (Err fault) = Unit {0}

-- whatever lines led to a world and a cloud for which some book stands, one does behind a line
abbrev pub KeepsABook : Span → Result Reply WorldFault → Type 0
KeepsABook span (Ok reply) =
    (t : CloudState) → span.before.state ≡ Some t → SomeBookStands (session_at span.old.sessions) t
    → (u : CloudState) × (span.after.state ≡ Some u) × SomeBookStands (session_at span.new.sessions) u
KeepsABook span (Err fault) = Unit {0}

-- up to every earlier line nothing has changed that the cloud tells; and where each version and message had its row in the trace, each has it still
abbrev pub Grows : ℕ → Seen → Seen → Type 0
Grows n before after =
    (x : CloudState) → before.state ≡ Some x → (y : CloudState) × (after.state ≡ Some y) × ((k : ℕ) → k < n → AgreeUpto k x y) × (IsTraced x → IsTraced y)
