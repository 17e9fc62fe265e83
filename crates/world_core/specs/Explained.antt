-- Each step that a line made explains what it brought.
use Rattle.std.specs.Prelude.{ℕ, ◌≡◌, ◌+◌, List, length, Some, Result}
use Rattle.cloud_trait.specs.State.{CloudState}
use Rattle.event_text.specs.declared.event.Event.{Event}
use Rattle.replay_meaning.specs.Standing.{Line}
use Rattle.reply_text.specs.declared.reply.Reply.{Reply}
use Rattle.session_facts.specs.Sessions.Calls.{session_step, IsExplained}
use Rattle.world_core.specs.declared.world.WorldFault.{WorldFault}
use Rattle.world_core.specs.EachStep.{StepFact, EachStep}
use Rattle.world_core.specs.Handled.{Handled}
use Rattle.world_core.specs.Stands.{WorldStands}
use Rattle.world_core.specs.Span.{Span}

-- a step explains what it brought by its call, between the states that the cloud told before and behind that call
abbrev pub StepExplains : StepFact
StepExplains who wish span turn p =
    (s t : CloudState) → p.under.state ≡ Some s → p.to.state ≡ Some t → IsExplained (session_step who p.under p.to p.session.before p.session.after turn) s t p.session.does

-- whatever lines a world and a cloud stood for before a line, each step of it, however it was handled, explains what it brought
abbrev pub ExplainsSteps : ℕ → Event → Span → Result Reply WorldFault → Type 0
ExplainsSteps n event span result =
    (lines : List Line) (t : CloudState) → length lines + 1 ≡ n → span.before.state ≡ Some t → WorldStands lines span.old t
    → (handled : Handled n event span result) → EachStep StepExplains n event span result handled
