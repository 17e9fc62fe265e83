-- No line is answered with a trouble that only damage could cause.
use Rattle.std.specs.Prelude.{ℕ, ◌≡◌, ◌+◌, List, length, Some, Result, Ok, Err}
use Rattle.cloud_trait.specs.State.{CloudState}
use Rattle.db_base.specs.declared.trouble.Trouble.TheVariants.{Failed}
use Rattle.event_text.specs.declared.event.Event.{Event}
use Rattle.event_text.specs.declared.event.Event.TheVariants as event
use Rattle.replay_meaning.specs.Standing.{Line, Posture, session_of, standing}
use Rattle.session_facts.specs.Lines.Answers.{IsSoundReply}
use Rattle.session_facts.specs.Machines.Sweeps.Knows.{MayStopSweep}
use Rattle.reply_text.specs.declared.reply.Reply.{Reply}
use Rattle.reply_text.specs.declared.reply.Reply.TheVariants as reply
use Rattle.world_core.specs.declared.world.WorldFault.{WorldFault}
use Rattle.world_core.specs.Stands.{WorldStands}
use Rattle.world_core.specs.Span.{Span}

-- a report stops only where a look failed
abbrev pub IsSoundReport : Reply → Type 0
IsSoundReport (reply.Trouble t) = t ≡ Failed
IsSoundReport reply = Unit {0}

-- a sweep stops where a call failed or came too late, or another session holds the tree's lock
abbrev pub IsSoundSweep : Reply → Type 0
IsSoundSweep (reply.Trouble t) = MayStopSweep t
IsSoundSweep reply = Unit {0}

-- the reply to a line whose session stood so; a report is no session's, and a sweep is the settler's
abbrev pub IsSoundFor : Event → Posture → Reply → Type 0
IsSoundFor (event.Report tree) posture reply = IsSoundReport reply
IsSoundFor (event.Sweep tree) posture reply = IsSoundSweep reply
IsSoundFor event posture reply = IsSoundReply posture reply

-- whatever lines a world and a cloud stood for before a line, its reply is sound by how they say that its session stood
abbrev pub AnswersSoundly : ℕ → Event → Span → Result Reply WorldFault → Type 0
AnswersSoundly n event span (Ok reply) =
    (lines : List Line) (t : CloudState) → length lines + 1 ≡ n → span.before.state ≡ Some t → WorldStands lines span.old t
    → IsSoundFor event (standing lines (session_of event)).posture reply
AnswersSoundly n event span (Err fault) = Unit {0}
