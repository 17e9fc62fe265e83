use Rattle.std.proofs.Common.{ap}
use Rattle.client_session.proofs.BrokenOff.{broken, known_broken}
use Rattle.client_session.proofs.session.Session.break_off.Goals as goal

pub returns : goal.returns
returns g c =
    broken (g.H.Hand.work c.self.inside.work) _ _ c.self.inside.buffer _ c.self.inside.cache _ c.self.inside.shown _ _ (ap g.H.Hand.work c.replace-work.ensures.value)
    c.break_off.ensures c.phase.ensures c.phase-2.ensures c.drop_noted.ensures c.drop_kept.ensures c.args.self.now c.self.view_is

pub invariant_of-self : goal.invariant_of-self
invariant_of-self g c =
    known_broken (g.H.Hand.work c.self.inside.work) _ _ c.self.inside.buffer _ c.self.inside.cache _ c.self.inside.shown _ _ (ap g.H.Hand.work c.replace-work.ensures.value)
    c.break_off.ensures c.phase.ensures c.phase-2.ensures c.drop_noted.ensures c.drop_kept.ensures
