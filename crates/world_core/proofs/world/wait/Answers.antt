use Rattle.world_core.proofs.GrowthLemmas.{grows_wait}
use Rattle.world_core.proofs.QuotaLemmas.{spends_wait}
use Rattle.world_core.proofs.world.wait.Goals as goal

pub returns-clause-grows : goal.returns-clause-grows
returns-clause-grows g c = λ n. grows_wait n c.args.ticks (g.C.Cloud.seen c.args.cloud.now) (g.C.Cloud.seen c.wait.new.self) c.wait.ensures.waited

pub returns-clause-spends : goal.returns-clause-spends
returns-clause-spends g c = λ quota. spends_wait quota c.args.ticks (g.C.Cloud.seen c.args.cloud.now) (g.C.Cloud.seen c.wait.new.self) c.wait.ensures.waited
