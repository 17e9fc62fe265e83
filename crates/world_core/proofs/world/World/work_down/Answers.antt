use Rattle.std.proofs.Common.{refl, length}
use Rattle.world_core.proofs.Checkpointing.{going_first, going_more}
use Rattle.world_core.proofs.GrowthLemmas.{grows_same, grows_on}
use Rattle.world_core.proofs.QuotaLemmas.{spends_not, spends_on}
use Rattle.world_core.proofs.world.World.work_down.Goals as goal

pub checkpoints-init : goal.checkpoints-init
checkpoints-init g c =
    let seen = g.C.Cloud.seen c.args.cloud.now in
    record {
      going = going_first c.args.who c.args.queues.now (length c.args.queues.now) seen c.args.self.now refl c.requires.opened c.requires.pending;
      grows = grows_same c.args.who.event seen seen refl;
      spends = spends_not c.args.quota.now seen seen (λ x told. told);
    }

pub returns-in_err-is_done-clause-grows : goal.returns-in_err-is_done-clause-grows
returns-in_err-is_done-clause-grows g c =
    grows_on c.args.who.event (g.C.Cloud.seen c.args.cloud.now) (g.C.Cloud.seen c.checkpoints.cloud) (g.C.Cloud.seen c.checkpoint.new.cloud) c.checkpoints.invariant.grows c.checkpoint.ensures.grows

pub returns-in_err-is_done-clause-spends : goal.returns-in_err-is_done-clause-spends
returns-in_err-is_done-clause-spends g c =
    spends_on (g.C.Cloud.seen c.args.cloud.now) (g.C.Cloud.seen c.checkpoints.cloud) (g.C.Cloud.seen c.checkpoint.new.cloud) c.args.quota.now c.checkpoints.quota c.checkpoint.new.quota c.checkpoints.invariant.spends c.checkpoint.ensures.spends

pub checkpoints-preserved : goal.checkpoints-preserved
checkpoints-preserved g c = record {
  going = going_more c.args.who c.args.queues.now c.checkpoints.left.now c.in-Some.rest.now c.in-Some.queue.now (length c.args.queues.now)
      c.checkpoints.done c.checkpoints.passed c.count_if-done.result c.count_if-passed.result c.in_ok-is_done.is_done
      (g.C.Cloud.seen c.args.cloud.now) (g.C.Cloud.seen c.checkpoints.cloud) (g.C.Cloud.seen c.checkpoint.new.cloud) c.args.self.now c.checkpoints.self c.checkpoint.new.self
      c.in-Some.ensures.cases.0 c.checkpoints.invariant.going c.in_ok-is_done.ensures.ok c.count_if-done.ensures c.count_if-passed.ensures;
  grows = grows_on c.args.who.event (g.C.Cloud.seen c.args.cloud.now) (g.C.Cloud.seen c.checkpoints.cloud) (g.C.Cloud.seen c.checkpoint.new.cloud) c.checkpoints.invariant.grows c.checkpoint.ensures.grows;
  spends = spends_on (g.C.Cloud.seen c.args.cloud.now) (g.C.Cloud.seen c.checkpoints.cloud) (g.C.Cloud.seen c.checkpoint.new.cloud) c.args.quota.now c.checkpoints.quota c.checkpoint.new.quota c.checkpoints.invariant.spends c.checkpoint.ensures.spends;
}
