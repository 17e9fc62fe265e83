use Rattle.world_audit.specs.Look.{Looked}
use Rattle.dump_take.proofs.Resting.{TreesSeen}
use Rattle.dump_take.proofs.trees.check_trees.Given as goal

abbrev pub invariant-loop-number : goal.invariant-loop-number
invariant-loop-number g l = Looked (g.C.Cloud.seen l.fn.cloud) (g.C.Cloud.seen l.cloud) × TreesSeen (g.C.Cloud.seen l.fn.cloud) l.number
