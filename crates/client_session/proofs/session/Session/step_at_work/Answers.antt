use Rattle.client_session.proofs.Stepped.{known_on, stepped}
use Rattle.client_session.proofs.session.Session.step_at_work.Goals as goal

pub returns : goal.returns
returns g c = rw c.handed.ensures (
    stepped c.args.who _ _ (g.H.Hand.work c.self.inside.work) _ c.self.inside.buffer _ c.self.inside.cache _ _ c.self.inside.shown _ _ _ _ c.phase.ensures c.phase-2.ensures
    c.drop_noted.ensures c.drop_kept.ensures c.self.invariant c.step-turn.ensures.steps c.step-turn.ensures.shows c.step-turn.ensures.machine c.args.self.now c.self.view_is)

pub invariant_of-self : goal.invariant_of-self
invariant_of-self g c =
    known_on c.args.who _ _ (g.H.Hand.work c.self.inside.work) _ c.self.inside.buffer _ c.self.inside.cache _ _ c.self.inside.shown _ _ _ _ c.phase.ensures c.phase-2.ensures
    c.drop_noted.ensures c.drop_kept.ensures c.self.invariant c.step-turn.ensures.steps c.step-turn.ensures.shows c.step-turn.ensures.machine
