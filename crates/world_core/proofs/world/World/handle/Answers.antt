use Rattle.world_core.specs.declared.asked.Asked.TheVariants.{Session, Sweep}
use Rattle.world_core.proofs.Texts.{has_text}
use Rattle.world_core.proofs.world.World.handle.Goals as goal

pub returns-in-Session-clause-handled : goal.returns-in-Session-clause-handled
returns-in-Session-clause-handled g c = record {
  asked = Session c.in-Session.number c.in-Session.request;
  asks = c.in-Session.ensures;
  answers = c.ask.ensures.answers;
  text = has_text c.args.n (Session c.in-Session.number c.in-Session.request) (g.C.Cloud.seen c.args.cloud.now) (g.C.Cloud.seen c.ask.new.cloud)
      c.args.self.now c.ask.new.self c.ask.result c.ask.ensures.answers;
}

pub returns-in-Sweep-clause-handled : goal.returns-in-Sweep-clause-handled
returns-in-Sweep-clause-handled g c = record {
  asked = Sweep c.in-Sweep.tree;
  asks = c.in-Sweep.ensures;
  answers = c.sweep_of.ensures.answers;
  text = has_text c.args.n (Sweep c.in-Sweep.tree) (g.C.Cloud.seen c.args.cloud.now) (g.C.Cloud.seen c.sweep_of.new.cloud)
      c.args.self.now c.sweep_of.new.self c.sweep_of.result c.sweep_of.ensures.answers;
}
