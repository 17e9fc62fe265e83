-- Where a session is alone, its steps are calm that are undisturbed.
use Rattle.std.specs.Prelude.{ℕ, ◌≡◌, ◌+◌, List, length, Some, Result, Ok, Err}
use Rattle.cloud_trait.specs.State.{CloudState}
use Rattle.event_text.specs.declared.event.Event.{Event}
use Rattle.event_text.specs.declared.event.Event.TheVariants as event
use Rattle.replay_meaning.specs.Standing.{Line, session_of}
use Rattle.reply_text.specs.declared.reply.Reply.{Reply}
use Rattle.session_facts.specs.Sessions.Calls.{session_step}
use Rattle.session_facts.specs.Sessions.Alone.{IsAlone, StepsUndisturbed}
use Rattle.world_core.specs.Calm.{StepIsCalm, work_at}
use Rattle.world_core.specs.EachStep.{StepFact, EachStep}
use Rattle.world_core.specs.Handled.{Handled}
use Rattle.world_core.specs.Stands.{WorldStands}
use Rattle.world_core.specs.World.{World}
use Rattle.world_core.specs.declared.world.WorldFault.{WorldFault}
use Rattle.world_core.specs.Span.{Span}

-- a step of a session was undisturbed
abbrev pub StepIsUndisturbed : StepFact
StepIsUndisturbed who wish span turn p = StepsUndisturbed (session_step who p.under p.to p.session.before p.session.after turn) p.session.does

-- a session of a world is alone
abbrev pub IsAloneIn : ℕ → World → CloudState → Type 0
IsAloneIn session world t = IsAlone (work_at world session) t

-- no other session acts in the line, this one does not die in it, and nobody settles or sweeps; waits and reports change nothing
abbrev pub LeavesAlone : ℕ → Event → Type 0
LeavesAlone session (event.Wait ticks) = Unit {0}
LeavesAlone session (event.Report tree) = Unit {0}
LeavesAlone session event.Settle = ⊥
LeavesAlone session (event.Sweep tree) = ⊥
LeavesAlone session (event.Crash other done) = ⊥
LeavesAlone session e = session_of e ≡ session

-- Whatever lines a world and a cloud stood for before a line that leaves a session alone, where each step of it was undisturbed: a session that was
-- alone is alone behind it, and each step was calm.
abbrev pub KeepsAlone : ℕ → Event → Span → Result Reply WorldFault → Type 0
KeepsAlone n event span (Ok reply) =
    (lines : List Line) (t u : CloudState) → length lines + 1 ≡ n → span.before.state ≡ Some t → span.after.state ≡ Some u → WorldStands lines span.old t
    → (handled : Handled n event span (Ok reply)) → EachStep StepIsUndisturbed n event span (Ok reply) handled
    → (session : ℕ) → LeavesAlone session event → IsAloneIn session span.old t
    → IsAloneIn session span.new u × EachStep StepIsCalm n event span (Ok reply) handled
KeepsAlone n event span (Err fault) = Unit {0}
