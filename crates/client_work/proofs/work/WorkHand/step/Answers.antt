use Rattle.std.proofs.Common.{ap}
use Rattle.client_work.proofs.Rests.{other_work}
use Rattle.client_work.proofs.Stepped.{machine_ended, steps_ended}
use Rattle.client_work.proofs.work.WorkHand.step.Goals as goal
use Rattle.client_work.proofs.work.WorkHand.step.Goals.{in-Committing, in-Paging, in-Folding, in-Settling, in-Sweeping}

pub step_apart-requires : goal.step_apart-requires
step_apart-requires g c = other_work c.args.self.now c.requires c.in_default.not-Committing c.in_default.not-Paging c.in_default.not-Folding c.in_default.not-Settling c.in_default.not-Sweeping

pub returns-clause-steps : goal.returns-clause-steps
returns-clause-steps g c =
    rw c.handed-2.ensures (elim c.match-self.branch [
      | in-Committing w ↦
          steps_ended _ _ _ _ _ _ _ _ _ _ _ (ap g.C.Cloud.seen w.cloud-is) w.in-Committing.is w.self-is w.turn-is c.end.ensures
          (w.advance-turn.ensures.sound, c.args.cache.now, w.advance-turn.new.cache, w.advance-turn.ensures.steps)
      | in-Paging w ↦ steps_ended _ _ _ _ _ _ _ _ _ _ _ (ap g.C.Cloud.seen w.cloud-is) w.in-Paging.is w.self-is w.turn-is c.end.ensures (w.page-turn.ensures.steps w.in-Paging.field-0)
      | in-Folding w ↦ steps_ended _ _ _ _ _ _ _ _ _ _ _ (ap g.C.Cloud.seen w.cloud-is) w.in-Folding.is w.self-is w.turn-is c.end.ensures (w.fold-turn.ensures.steps w.in-Folding.field-0)
      | in-Settling w ↦ steps_ended _ _ _ _ _ _ _ _ _ _ _ (ap g.C.Cloud.seen w.cloud-is) w.in-Settling.is w.self-is w.turn-is c.end.ensures (w.step-turn.ensures.sound, w.step-turn.ensures.steps)
      | in-Sweeping w ↦ steps_ended _ _ _ _ _ _ _ _ _ _ _ (ap g.C.Cloud.seen w.cloud-is) w.in-Sweeping.is w.self-is w.turn-is c.end.ensures w.step-turn-in-Sweeping.ensures
    ])

pub returns-clause-machine : goal.returns-clause-machine
returns-clause-machine g c =
    rw c.handed-2.ensures (elim c.match-self.branch [
      | in-Committing w ↦ machine_ended _ _ _ _ _ _ _ _ _ _ _ (ap g.C.Cloud.seen w.cloud-is) w.in-Committing.is w.self-is w.turn-is c.end.ensures _ _ _ w.cache-is w.advance-turn.ensures.machine
      | in-Paging w ↦ machine_ended _ _ _ _ _ _ _ _ _ _ _ (ap g.C.Cloud.seen w.cloud-is) w.in-Paging.is w.self-is w.turn-is c.end.ensures _ _ _ w.cache-is (w.page-turn.ensures.machine w.in-Paging.field-0)
      | in-Folding w ↦ machine_ended _ _ _ _ _ _ _ _ _ _ _ (ap g.C.Cloud.seen w.cloud-is) w.in-Folding.is w.self-is w.turn-is c.end.ensures _ _ _ w.cache-is (w.fold-turn.ensures.machine w.in-Folding.field-0)
      | in-Settling w ↦ machine_ended _ _ _ _ _ _ _ _ _ _ _ (ap g.C.Cloud.seen w.cloud-is) w.in-Settling.is w.self-is w.turn-is c.end.ensures _ _ _ w.cache-is tt
      | in-Sweeping w ↦ machine_ended _ _ _ _ _ _ _ _ _ _ _ (ap g.C.Cloud.seen w.cloud-is) w.in-Sweeping.is w.self-is w.turn-is c.end.ensures _ _ _ w.cache-is tt
    ])
