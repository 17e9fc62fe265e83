use Rattle.cloud_trait.specs.Call.{ask_of}
use Rattle.world_core.proofs.Going.{at_work}
use Rattle.world_core.proofs.world.World.works.Goals as goal

pub returns-clause-works : goal.returns-clause-works
returns-clause-works g c = at_work ask_of c.in_hand.result c.args.number c.args.self.now.sessions (g.S.SessionCalls.acting c.session.result.now) c.is_some.result c.session.ensures c.in_hand.ensures c.is_some.ensures
