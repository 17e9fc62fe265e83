use Rattle.std.proofs.Common.{rules}
use Rattle.world_core.proofs.QuotaLemmas.{spends_taken}
use Rattle.world_core.proofs.world.World.step_within.Goals as goal

pub returns-clause-spends : goal.returns-clause-spends
returns-clause-spends g c =
    spends_taken c.args.who c.args.wish (g.C.Cloud.seen c.args.cloud.now) (g.C.Cloud.seen c.step_looked.new.cloud) c.args.self.now c.step_looked.new.self c.step_looked.result
    c.args.quota.now c.take.new.self (c.if-not-take.ensures.taken (search rules)) c.step_looked.ensures.looked c.step_looked.ensures.short
