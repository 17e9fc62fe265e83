use Rattle.std.proofs.Common.{ap, ◌∙◌}
use Rattle.cloud_trait.specs.declared.turn.Turn.TheVariants.{Ended}
use Rattle.client_work.proofs.Opens.{goes_on, never_nothing}
use Rattle.client_work.proofs.opening.OpeningRun.step.Goals as goal

pub unreachable-requires : goal.unreachable-requires
unreachable-requires g c =
    never_nothing c.self.inside.run _ c.step.ensures.steps.did.answer c.step.result c.step.ensures.steps.did.took (c.in-Ended-Nothing.is ∙ ap Ended c.in-Ended-Nothing.field-0-is) c.self.invariant

pub invariant_of-result : goal.invariant_of-result
invariant_of-result g c = goes_on c.self.inside.run _ c.step.ensures.steps.did.answer c.step.result c.step.ensures.steps.did.took c.in-More.is c.self.invariant
