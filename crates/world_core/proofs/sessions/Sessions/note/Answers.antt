use Rattle.world_core.proofs.Placing.{changes_there}
use Rattle.world_core.proofs.sessions.Sessions.note.Goals as goal

pub returns : goal.returns
returns g c =
    changes_there g.S.SessionCalls.acting _ c.args.number c.place_of.result c.args.self.now c.self.inside.list.items c.index_mut.result.now c.noted.new.session
    c.self.view_is c.self.invariant c.place_of.ensures.is c.place_of.ensures.within c.index_mut.ensures.value c.noted.ensures
