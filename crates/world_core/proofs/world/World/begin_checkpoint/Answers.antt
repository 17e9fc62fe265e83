use Rattle.std.proofs.Common.{refl, sym, subst}
use Rattle.client_work.specs.Session.{Begins}
use Rattle.client_work.specs.declared.op.Op.{Op}
use Rattle.world_core.specs.Handled.{IsOpen}
use Rattle.world_core.specs.Sessions.{Changes}
use Rattle.world_core.specs.World.{World}
use Rattle.world_core.proofs.Checkpointing.{begins_working, begun_works}
use Rattle.world_core.proofs.world.World.begin_checkpoint.Goals as goal

pub returns-clause-begins : goal.returns-clause-begins
returns-clause-begins g c = rw (← c.self.view_is) (record {
  pending = c.requires.pending;
  right = c.checkpoint_of.ensures.right;
  session = begins_working c.args.number c.args.queue.now c.self.inside.sessions c.begin-begun.new.self c.begin-begun.result
      (subst (λ (w : World). IsOpen c.args.number w.sessions) (sym c.self.view_is) c.requires.opened) c.requires.pending
      (subst (λ (o : Op). Changes c.args.number (λ a b. Begins o a b c.begin-begun.result) c.self.inside.sessions c.begin-begun.new.self) c.checkpoint_of.ensures.is c.begin-begun.ensures);
  audit = refl;
  blind = refl;
  notes = c.begin.ensures;
})

pub returns-clause-works : goal.returns-clause-works
returns-clause-works g c =
    begun_works c.args.number c.args.queue.now c.self.inside.sessions c.begin-begun.new.self c.begin-begun.result
    (subst (λ (w : World). IsOpen c.args.number w.sessions) (sym c.self.view_is) c.requires.opened) c.requires.pending
    (subst (λ (o : Op). Changes c.args.number (λ a b. Begins o a b c.begin-begun.result) c.self.inside.sessions c.begin-begun.new.self) c.checkpoint_of.ensures.is c.begin-begun.ensures)
