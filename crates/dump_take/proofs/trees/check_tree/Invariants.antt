use Rattle.world_audit.specs.Look.{Looked}
use Rattle.dump_take.proofs.Resting.{TreeSeen}
use Rattle.dump_take.proofs.trees.check_tree.Given as goal

abbrev pub invariant-loop-page : goal.invariant-loop-page
invariant-loop-page g l = Looked (g.C.Cloud.seen l.fn.cloud) (g.C.Cloud.seen l.cloud) × TreeSeen (g.C.Cloud.seen l.fn.cloud) l.tree l.initial.bytes l.page
