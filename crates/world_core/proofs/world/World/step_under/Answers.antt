use Rattle.std.proofs.Common.{ap, subst}
use Rattle.cloud_trait.specs.Caller.{Caller}
use Rattle.world_core.specs.Handled.{BreaksOff}
use Rattle.world_core.proofs.world.World.step_under.Goals as goal

pub returns-in-Err-clause-short : goal.returns-in-Err-clause-short
returns-in-Err-clause-short g c = record {
  works = c.requires.works;
  left = c.step_within.new.self;
  falls = c.in-Err.ensures.short;
  breaks = subst (λ n. BreaksOff n c.step_within.new.self c.break_off.new.self) (ap (λ (w : Caller). w.session) c.who.view_is) c.break_off.ensures;
}
