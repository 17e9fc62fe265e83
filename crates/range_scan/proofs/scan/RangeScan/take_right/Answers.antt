use Rattle.std.proofs.Common.{true}
use Rattle.tree_walk.proofs.Stepped.{accept_on}
use Rattle.range_scan.proofs.scan.RangeScan.take_right.Goals as goal

pub returns-in-Ok-accept-clause-served : goal.returns-in-Ok-accept-clause-served
returns-in-Ok-accept-clause-served c = accept_on c.args.cache.now c.accept.new.self c.object.result true c.in-Ok.bytes c.accept.result c.accept.ensures
