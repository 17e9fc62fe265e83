use Rattle.std.proofs.Common.{◌-◌, ◌^◌, length}
use Rattle.world_audit.specs.Look.{Looked}
use Rattle.world_audit.proofs.Answered.{Reaches}
use Rattle.world_audit.proofs.leaves.contents.Given as goal

abbrev pub invariant-loop-walk : goal.invariant-loop-walk
invariant-loop-walk g l =
    Looked (g.C.Cloud.seen l.fn.cloud) (g.C.Cloud.seen l.cloud)
    × Reaches (g.C.Cloud.seen l.fn.cloud) l.tree l.visited.keys l.page l.walk.low l.walk.contents

abbrev pub decreases-loop-walk : goal.decreases-loop-walk
decreases-loop-walk g l = 2 ^ 63 - length l.visited.keys
