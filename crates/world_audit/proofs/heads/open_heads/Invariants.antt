use Rattle.std.proofs.Common.{◌≤◌}
use Rattle.world_audit.specs.Look.{Looked}
use Rattle.world_audit.proofs.Answered.{Totals}
use Rattle.world_audit.proofs.heads.open_heads.Given as goal

abbrev pub invariant-loop-number : goal.invariant-loop-number
invariant-loop-number g l =
    Looked (g.C.Cloud.seen l.fn.cloud) (g.C.Cloud.seen l.cloud) × (l.heads ≤ l.number)
    × Totals (g.C.Cloud.seen l.fn.cloud) l.tree l.committed l.number l.heads
