use Rattle.std.proofs.Common.{Err}
use Rattle.schedule_run.proofs.LoadCalls.{plain_both, plain_first, load_calls}
use Rattle.schedule_run.proofs.LoadCompleting.{completes_so}
use Rattle.schedule_run.proofs.LoadEnds.{ended_by, ended_looking, few_left}
use Rattle.schedule_run.proofs.LoadLeaves.{ended_leaves}
use Rattle.schedule_run.specs.Load.{out_before}
use Rattle.schedule_run.specs.declared.load.LoadStop.TheVariants.{Memory}
use Rattle.schedule_run.proofs.load.load.Goals as goal

pub returns-in-Ok-within-clause-went : goal.returns-in-Ok-within-clause-went
returns-in-Ok-within-clause-went g c =
    ended_by c.args.dump.now.trees c.load_in.result _ _ _ _ _ c.in-Ok.ensures c.in-Ok-within.ensures.fresh (few_left c.in-Ok-within.play c.args.most c.in-Ok-within.ensures.left c.requires.bounded) c.load_in.ensures

pub returns-in-Ok-within-clause-calls : goal.returns-in-Ok-within-clause-calls
returns-in-Ok-within-clause-calls g c =
    let start = g.C.Cloud.seen c.args.cloud.now in
    let mid = g.C.Cloud.seen c.look_first.new.cloud in
    let now = g.C.Cloud.seen c.load_in.new.cloud in
    plain_both start mid now (plain_first c.look_first.result start mid c.look_first.ensures)
    (load_calls c.args.dump.now.trees c.load_in.result mid now c.in-Ok-within.play c.load_in.new.play c.load_in.ensures)

pub returns-in-Ok-within-clause-leaves : goal.returns-in-Ok-within-clause-leaves
returns-in-Ok-within-clause-leaves g c =
    ended_leaves c.args.dump.now.trees c.load_in.result _ _ c.requires.dumpable
    (ended_by c.args.dump.now.trees c.load_in.result _ _ _ _ _ c.in-Ok.ensures c.in-Ok-within.ensures.fresh (few_left c.in-Ok-within.play c.args.most c.in-Ok-within.ensures.left c.requires.bounded) c.load_in.ensures)

pub returns-in-Ok-within-clause-complete : goal.returns-in-Ok-within-clause-complete
returns-in-Ok-within-clause-complete g c =
    completes_so c.load_in.result c.args.dump.now.trees _ _
    (ended_by c.args.dump.now.trees c.load_in.result _ _ _ _ _ c.in-Ok.ensures c.in-Ok-within.ensures.fresh (few_left c.in-Ok-within.play c.args.most c.in-Ok-within.ensures.left c.requires.bounded) c.load_in.ensures)

pub returns-in-Err-within-clause-complete : goal.returns-in-Err-within-clause-complete
returns-in-Err-within-clause-complete g c = completes_so (Err Memory) c.args.dump.now.trees _ _ (out_before c.in-Ok.ensures)
