use Rattle.std.proofs.Common.{sym}
use Rattle.route_plan.proofs.Indexes.{any_found, any_missing}
use Rattle.route_plan.proofs.index.PendingIndex.has.Goals as goal

pub returns-in-Some : goal.returns-in-Some
returns-in-Some c = record { has = sym (any_found c.args.self.now c.args.tree c.args.key.now _ (sym c.in-Some.ensures)) }

pub returns-in-None : goal.returns-in-None
returns-in-None c = record { has = sym (any_missing c.args.self.now c.args.tree c.args.key.now (sym c.in-None.ensures)) }
