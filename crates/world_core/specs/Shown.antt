-- What each step of a line shows where it ends a read, a scan or a look-up.
use Rattle.std.specs.Prelude.{ℕ, Result, Ok}
use Rattle.client_work.specs.Session.{ShowsWhole}
use Rattle.event_text.specs.declared.event.Event.{Event}
use Rattle.reply_text.specs.declared.reply.Reply.{Reply}
use Rattle.world_core.specs.declared.world.WorldFault.{WorldFault}
use Rattle.world_core.specs.EachStep.{StepFact, EachStep}
use Rattle.world_core.specs.Handled.{Handled}
use Rattle.world_core.specs.Span.{Span}

-- the value at the end of a read is what its client sees in a leaf that its own call served; the records at the end of a scan are those of its
-- leaves, each as one of its calls served it, from the first key on to the last, each key once
abbrev pub StepShows : StepFact
StepShows who wish span turn p = ShowsWhole who p.under p.to p.session.before p.session.after (Ok turn)

-- so each step of a line shows it, however the line was handled
abbrev pub ShowsSteps : ℕ → Event → Span → Result Reply WorldFault → Type 0
ShowsSteps n event span result = (handled : Handled n event span result) → EachStep StepShows n event span result handled
