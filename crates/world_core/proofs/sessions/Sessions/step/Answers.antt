use Rattle.std.proofs.Common.{ap, ◌∙◌}
use Rattle.cloud_trait.specs.Caller.{Caller}
use Rattle.world_core.proofs.Placing.{changes_there, works_there}
use Rattle.world_core.proofs.sessions.Sessions.step.Goals as goal

pub step_at_work-requires : goal.step_at_work-requires
step_at_work-requires g c =
    works_there g.S.SessionCalls.acting c.args.who.session c.place_of.result c.args.self.now c.self.inside.list.items c.index_mut.result.now
    c.self.view_is c.self.invariant (c.place_of.ensures.is ∙ ap (λ (w : Caller). w.session) c.who.view_is) c.place_of.ensures.within c.index_mut.ensures.value c.requires

pub returns : goal.returns
returns g c =
    changes_there g.S.SessionCalls.acting _ c.args.who.session c.place_of.result c.args.self.now c.self.inside.list.items c.index_mut.result.now c.step_at_work.new.self
    c.self.view_is c.self.invariant (c.place_of.ensures.is ∙ ap (λ (w : Caller). w.session) c.who.view_is) c.place_of.ensures.within c.index_mut.ensures.value c.step_at_work.ensures
