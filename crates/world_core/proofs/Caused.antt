-- Each step of a line has the causes that its session's own step has.
use Rattle.std.proofs.Common.{ℕ, Result}
use Rattle.client_work.specs.declared.answer.Answer.{Answer}
use Rattle.cloud_facts.specs.Words.{Turn, Caller, Seen}
use Rattle.db_base.specs.declared.wish.Wish.{Wish}
use Rattle.event_text.specs.declared.event.Event.{Event}
use Rattle.reply_text.specs.declared.reply.Reply.{Reply}
use Rattle.world_core.specs.World.{World}
use Rattle.world_core.specs.declared.world.WorldFault.{WorldFault}
use Rattle.world_core.specs.Caused.{StepHasCauses, CausesSteps}
use Rattle.world_core.specs.Handled.{StepsLooked}
use Rattle.world_core.specs.Span.{span_of}
use Rattle.world_core.proofs.Begun.{asked_begun}
use Rattle.world_core.proofs.EachAny.{asked_each}

step_causes : (who : Caller) (wish : Wish) (before after : Seen) (old new : World) (turn : Turn Answer) (p : StepsLooked who wish (span_of before after old new) turn)
    → StepHasCauses who wish (span_of before after old new) turn p
step_causes who wish before after old new turn p = p.session.does.causes

pub caused : (n : ℕ) (event : Event) (before after : Seen) (old new : World) (result : Result Reply WorldFault) → CausesSteps n event (span_of before after old new) result
caused n event before after old new result handled =
    (asked_each StepHasCauses step_causes n before after old new result handled.asked handled.answers, asked_begun n before after old new result handled.asked handled.answers)
