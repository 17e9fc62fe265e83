use Rattle.std.proofs.Common.{length}
use Rattle.schedule_run.specs.Generated.{HandlesFirst}
use Rattle.schedule_run.proofs.generated.take_each.Given as goal

-- the events before those that are left were handled
abbrev pub invariant-loop-event : goal.invariant-loop-event
invariant-loop-event g l = HandlesFirst l.fn.events l.left (g.C.Cloud.seen l.fn.cloud) (g.C.Cloud.seen l.cloud) l.play

abbrev pub decreases-loop-event : goal.decreases-loop-event
decreases-loop-event g l = length l.left
