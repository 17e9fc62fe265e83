-- Why each step of a line, and its begin, came to what it came to, over any cloud.
use Rattle.std.specs.Prelude.{ℕ, Result, Ok}
use Rattle.client_work.specs.Session.{HasCauses}
use Rattle.event_text.specs.declared.event.Event.{Event}
use Rattle.reply_text.specs.declared.reply.Reply.{Reply}
use Rattle.world_core.specs.Begun.{BeginIsShown}
use Rattle.world_core.specs.declared.world.WorldFault.{WorldFault}
use Rattle.world_core.specs.EachStep.{StepFact, EachStep}
use Rattle.world_core.specs.Handled.{Handled}
use Rattle.world_core.specs.Span.{Span}

-- its trouble has the cause that the contract of the machine at work names, by this step's own call and those that led the machine to it
abbrev pub StepHasCauses : StepFact
StepHasCauses who wish span turn p = HasCauses who p.under p.to p.session.before p.session.after (Ok turn)

-- so has each step of a line, and its begin where it was answered at that
abbrev pub LineHasCauses : (n : ℕ) (event : Event) (span : Span) (result : Result Reply WorldFault) → Handled n event span result → Type 0
LineHasCauses n event span result handled =
    EachStep StepHasCauses n event span result handled × BeginIsShown n event span result handled

-- .. however the line was handled
abbrev pub CausesSteps : ℕ → Event → Span → Result Reply WorldFault → Type 0
CausesSteps n event span result = (handled : Handled n event span result) → LineHasCauses n event span result handled
