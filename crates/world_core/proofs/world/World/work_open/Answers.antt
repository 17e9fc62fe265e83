use Rattle.std.proofs.Common.{ap, inl, inr, refl, subst, []}
use Rattle.cloud_trait.specs.Caller.{Caller}
use Rattle.world_core.specs.Handled.{BreaksOff, no_checkpoint}
use Rattle.world_core.proofs.world.World.work_open.Goals as goal

pub returns-in-Err-clause-works : goal.returns-in-Err-clause-works
returns-in-Err-clause-works g c = inr (inr (
  refl,
  record {
    opened = c.requires;
    queues = [];
    done = 0;
    passed = 0;
    mid = g.C.Cloud.seen c.args.cloud.now;
    world = c.args.self.now;
    works = no_checkpoint;
    falls = inl (record { seen = refl; breaks = subst (λ n. BreaksOff n c.args.self.now c.break_off.new.self) (ap (λ (w : Caller). w.session) c.who.view_is) c.break_off.ensures });
  },
))
