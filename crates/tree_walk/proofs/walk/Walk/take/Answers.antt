use Rattle.tree_walk.proofs.Stepped.{accept_on}
use Rattle.tree_walk.proofs.walk.Walk.take.Goals as goal

pub returns-in-Ok-accept-clause-served : goal.returns-in-Ok-accept-clause-served
returns-in-Ok-accept-clause-served c = accept_on c.args.cache.now c.accept.new.self c.object.result c.is_leaf.result c.in-Ok.bytes c.accept.result c.accept.ensures
