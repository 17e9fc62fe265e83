use Rattle.world_core.specs.Span.{span_of}
use Rattle.std.specs.Prelude.{length}
use Rattle.world_core.specs.Quota.{SpendsQuota}
use Rattle.world_core.specs.Stands.{Grows}
use Rattle.world_core.proofs.Checkpointing.{headway, IsGoing}
use Rattle.world_core.proofs.world.World.work_down.Given as goal

-- the checkpoints so far, and what they leave of earlier lines and take of the quota
abbrev pub invariant-checkpoints : goal.invariant-checkpoints
invariant-checkpoints g l =
    let seen = g.C.Cloud.seen in
    record {
      going : IsGoing l.fn.who l.fn.queues l.left (headway l.most l.done l.passed) (span_of (seen l.fn.cloud) (seen l.cloud) l.fn.self l.self);
      grows : Grows l.fn.who.event (seen l.fn.cloud) (seen l.cloud);
      spends : SpendsQuota (seen l.fn.cloud) (seen l.cloud) l.fn.quota l.quota;
    }

-- the queues that are left
abbrev pub decreases-checkpoints : goal.decreases-checkpoints
decreases-checkpoints g l = length l.left
