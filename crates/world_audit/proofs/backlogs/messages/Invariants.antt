use Rattle.std.proofs.Common.{◌≡◌}
use Rattle.std.specs.Prelude.{Some, min}
use Rattle.cloud_trait.specs.State.{CloudState, greatest}
use Rattle.world_audit.specs.Look.{Looked}
use Rattle.world_audit.specs.Counts.{messages_below}
use Rattle.world_audit.proofs.backlogs.messages.Given as goal

abbrev pub invariant-loop-page : goal.invariant-loop-page
invariant-loop-page g l =
    Looked (g.C.Cloud.seen l.fn.cloud) (g.C.Cloud.seen l.cloud)
    × ((s : CloudState) → (g.C.Cloud.seen l.fn.cloud).state ≡ Some s → l.sum ≡ min (messages_below s l.tree l.page) greatest)
