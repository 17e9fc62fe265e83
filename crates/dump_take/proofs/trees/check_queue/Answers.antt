use Rattle.std.proofs.lemmas.Result.{err_from_is_err_and}
use Rattle.dump_take.proofs.Resting.{queue_slip, queue_rests, queue_waits}
use Rattle.dump_take.proofs.Sights.{sees_queue}
use Rattle.dump_take.proofs.trees.check_queue.Goals as goal

pub returns-in_err-backlog-clause-found : goal.returns-in_err-backlog-clause-found
returns-in_err-backlog-clause-found g c =
    let p = err_from_is_err_and c.from_residual.result c.from_residual.ensures.1 in
    rw (p.1, p.2) (queue_slip _ c.args.queue c.in_err-backlog.field-0.0 c.in_err-backlog.ensures.only)

pub returns-then-branch-eq0-clause-found : goal.returns-then-branch-eq0-clause-found
returns-then-branch-eq0-clause-found g c =
    queue_rests _ c.args.queue c.in_ok-backlog.field-0 c.if-branch-eq0.true (sees_queue _ c.args.queue c.in_ok-backlog.field-0 c.in_ok-backlog.ensures.length)

pub returns-clause-found : goal.returns-clause-found
returns-clause-found g c =
    queue_waits _ c.args.queue c.in_ok-backlog.field-0 c.not_quiet_queue.result c.if-branch-eq0.false c.not_quiet_queue.ensures (sees_queue _ c.args.queue c.in_ok-backlog.field-0 c.in_ok-backlog.ensures.length)
