use Rattle.std.proofs.Common.{ap, ◌∙◌}
use Rattle.client_work.specs.Session.{settling_session}
use Rattle.world_core.proofs.Settling.{becomes_in}
use Rattle.world_core.proofs.sessions.Sessions.settle.Goals as goal

pub returns-clause-ok : goal.returns-clause-ok
returns-clause-ok g c =
    becomes_in g.S.SessionCalls.acting settling_session c.args.number c.place_of.result c.args.self.now c.self.inside.list.items c.put.new.place c.self.view_is c.self.invariant c.place_of.ensures.is c.place_of.ensures.within
    (ap g.S.SessionCalls.acting c.put.ensures ∙ c.in_ok-session.ensures.ok)
