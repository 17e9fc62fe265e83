-- What each step of a line shows where it ends a read, a scan or a look-up, by the lines before it.
use Rattle.std.specs.Prelude.{ℕ, ◌≡◌, ◌+◌, List, length, Some, Result}
use Rattle.cloud_trait.specs.State.{CloudState}
use Rattle.event_text.specs.declared.event.Event.{Event}
use Rattle.replay_meaning.specs.Standing.{Line}
use Rattle.reply_text.specs.declared.reply.Reply.{Reply}
use Rattle.session_facts.specs.Lines.Shown.{ShowsByLines, moment}
use Rattle.world_core.specs.declared.world.WorldFault.{WorldFault}
use Rattle.world_core.specs.EachStep.{StepFact, EachStep}
use Rattle.world_core.specs.Handled.{Handled}
use Rattle.world_core.specs.Stands.{WorldStands}
use Rattle.world_core.specs.Span.{Span}

-- a step that ends a read, a scan or a look-up shows what its client sees, by what these lines say of the client, over the state that the cloud told
-- before the call
abbrev pub StepShowsBy : List Line → StepFact
StepShowsBy lines who wish span turn p =
    (s : CloudState) → p.under.state ≡ Some s → ShowsByLines lines s who (moment p.under p.session.before) (moment p.to p.session.after) turn

-- whatever lines a world and a cloud stood for before a line, each step of it, however it was handled, shows it so by these lines
abbrev pub ShowsStepsBy : ℕ → Event → Span → Result Reply WorldFault → Type 0
ShowsStepsBy n event span result =
    (lines : List Line) (t : CloudState) → length lines + 1 ≡ n → span.before.state ≡ Some t → WorldStands lines span.old t
    → (handled : Handled n event span result) → EachStep (StepShowsBy lines) n event span result handled
