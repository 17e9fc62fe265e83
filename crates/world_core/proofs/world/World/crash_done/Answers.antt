use Rattle.std.proofs.Common.{inl, refl, ap, subst}
use Rattle.cloud_trait.specs.Caller.{Caller}
use Rattle.client_work.specs.Session.{closed_session}
use Rattle.world_core.specs.Handled.{ClearsNotes, Has}
use Rattle.world_core.proofs.world.World.crash_done.Goals as goal

pub returns-clause-dies : goal.returns-clause-dies
returns-clause-dies g c = inl (record {
  world = c.step_under.new.self;
  turn = c.in_ok-turn.turn;
  steps = c.in_ok-turn.ensures.looked;
  closes = subst (λ n. Has n closed_session c.step_under.new.self c.die.new.self) (ap (λ (w : Caller). w.session) c.who.view_is) c.die.ensures.closes;
  notes = subst (λ n. ClearsNotes n c.step_under.new.self c.die.new.self) (ap (λ (w : Caller). w.session) c.who.view_is) c.die.ensures.notes;
  replies = refl;
})
