use Rattle.world_audit.specs.Look.{Looked}
use Rattle.dump_take.proofs.Resting.{HeadsSeen}
use Rattle.dump_take.proofs.heads.check_heads.Given as goal

abbrev pub invariant-loop-number : goal.invariant-loop-number
invariant-loop-number g l = Looked (g.C.Cloud.seen l.fn.cloud) (g.C.Cloud.seen l.cloud) × HeadsSeen (g.C.Cloud.seen l.fn.cloud) l.number
