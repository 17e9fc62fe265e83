use Rattle.std.proofs.Common.{take}
use Rattle.load_plan.specs.Events.{checkpoints_of}
use Rattle.schedule_run.specs.Load.{IsAmong}
use Rattle.schedule_run.proofs.LoadLemmas.{checkpoints_left}
use Rattle.schedule_run.proofs.load.checkpoint_part.Given as goal

-- the checkpoints of the records so far were made, and those of the others are left
abbrev pub invariant-loop-seen : goal.invariant-loop-seen
invariant-loop-seen g l =
    IsAmong (checkpoints_of (take 200 l.fn.part)) (checkpoints_left l.seen l.last l.left) (g.C.Cloud.seen l.fn.cloud) (g.C.Cloud.seen l.cloud) l.fn.play l.play
