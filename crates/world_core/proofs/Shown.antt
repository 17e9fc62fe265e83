-- What each step of a line shows where it ends a read, a scan or a look-up, as its session says it.
use Rattle.std.proofs.Common.{ℕ, Result}
use Rattle.client_work.specs.declared.answer.Answer.{Answer}
use Rattle.cloud_facts.specs.Words.{Turn, Caller, Seen}
use Rattle.db_base.specs.declared.wish.Wish.{Wish}
use Rattle.event_text.specs.declared.event.Event.{Event}
use Rattle.reply_text.specs.declared.reply.Reply.{Reply}
use Rattle.world_core.specs.World.{World}
use Rattle.world_core.specs.declared.world.WorldFault.{WorldFault}
use Rattle.world_core.specs.Handled.{StepsLooked}
use Rattle.world_core.specs.Shown.{StepShows, ShowsSteps}
use Rattle.world_core.specs.Span.{span_of}
use Rattle.world_core.proofs.EachAny.{asked_each}

step_shows : (who : Caller) (wish : Wish) (before after : Seen) (old new : World) (turn : Turn Answer) (p : StepsLooked who wish (span_of before after old new) turn)
    → StepShows who wish (span_of before after old new) turn p
step_shows who wish before after old new turn p = p.session.does.whole

pub shown : (n : ℕ) (event : Event) (before after : Seen) (old new : World) (result : Result Reply WorldFault) → ShowsSteps n event (span_of before after old new) result
shown n event before after old new result handled = asked_each StepShows step_shows n before after old new result handled.asked handled.answers
