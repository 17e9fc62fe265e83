use Rattle.std.proofs.Common.{Result, refl, sym, subst, ◌∙◌}
use Rattle.schedule_run.specs.Outside.{effects}
use Rattle.schedule_run.specs.declared.settling.SettleFault.{SettleFault}
use Rattle.schedule_run.specs.Settling.{out_handling, SettleEnded}
use Rattle.schedule_run.proofs.SettlingLemmas.{settle_shown, settle_stopped}
use Rattle.schedule_run.proofs.WriteLemmas.{settle_fails, settle_writes}
use Rattle.schedule_run.proofs.settling.settle_in.Goals as goal

pub returns-in-Ok-clause-went : goal.returns-in-Ok-clause-went
returns-in-Ok-clause-went g c =
    let At : Result (Unit {0}) SettleFault → Type 0 = λ r. SettleEnded r (effects (g.O.Sink.told c.args.sink.now) (g.C.Cloud.seen c.args.cloud.now)) (effects (g.O.Sink.told c.write_reply-written.new.sink) (g.C.Cloud.seen c.take.new.cloud)) in
    subst At (sym c.end_of-end.ensures) (settle_shown _ _ _ _ _ _ _ _ c.requires c.in-Ok.ensures c.write_reply-written.ensures)

pub returns-clause-went : goal.returns-clause-went
returns-clause-went g c = out_handling (settle_stopped _ _ _ _ c.requires c.in-Err.ensures) refl

pub returns-in-Ok-clause-writes : goal.returns-in-Ok-clause-writes
returns-in-Ok-clause-writes g c = rw c.end_of-end.ensures (settle_writes _ _ _ _ _ c.write_reply-written.ensures)

pub returns-in-Ok-clause-write_fault : goal.returns-in-Ok-clause-write_fault
returns-in-Ok-clause-write_fault g c = λ e. settle_fails _ _ _ _ _ c.write_reply-written.ensures (sym c.end_of-end.ensures ∙ e)
