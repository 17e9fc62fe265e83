use Rattle.world_audit.specs.Look.{Looked}
use Rattle.dump_take.proofs.Dumping.{Collects}
use Rattle.dump_take.proofs.contents.all_contents.Given as goal

abbrev pub invariant-loop-number : goal.invariant-loop-number
invariant-loop-number g l = Looked (g.C.Cloud.seen l.fn.cloud) (g.C.Cloud.seen l.cloud) × Collects (g.C.Cloud.seen l.fn.cloud) l.number l.trees
