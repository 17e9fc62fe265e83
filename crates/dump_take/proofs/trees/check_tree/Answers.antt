use Rattle.std.proofs.Common.{◌≡◌, ℕ, Err, arith, subst}
use Rattle.dump_take.specs.Quiet.{IsDrained}
use Rattle.dump_take.specs.Parts.{QueueFound}
use Rattle.std.proofs.lemmas.Result.{err_from_is_err_and}
use Rattle.world_audit.proofs.Looks.{looked_on}
use Rattle.dump_take.proofs.Resting.{TreeSeen, tree_slip, root_seen, root_stops, tree_rests, queues_on, queues_stop}
use Rattle.dump_take.proofs.Sights.{sees_object, queue_behind}
use Rattle.dump_take.proofs.trees.check_tree.Goals as goal

pub loop-page-init : goal.loop-page-init
loop-page-init g c = (
  c.peek.ensures.looked,
  root_seen _ c.args.tree c.in_ok-bytes.bytes (sees_object _ _ c.in_ok-bytes.bytes c.in_ok-bytes.ensures.newest c.in_ok-bytes.ensures.shown),
)

pub loop-page-preserved : goal.loop-page-preserved
loop-page-preserved g c = (
  looked_on _ _ _ c.loop-page.invariant.0 c.check_queue.ensures.looked,
  queues_on _ c.args.tree c.in_ok-bytes.bytes c.loop-page.page c.loop-page.invariant.1 (queue_behind _ _ _ _ (λ queue s. IsDrained s queue) c.loop-page.invariant.0 c.queue_at.ensures c.in_ok-check_queue.ensures.found),
)

pub returns-in_err-bytes-clause-found : goal.returns-in_err-bytes-clause-found
returns-in_err-bytes-clause-found g c =
    let p = err_from_is_err_and c.from_residual.result c.from_residual.ensures.1 in
    rw (p.1, p.2) (tree_slip _ c.args.tree c.in_err-bytes.field-0.0 c.in_err-bytes.ensures.only)

pub returns-in_err-next-clause-found : goal.returns-in_err-next-clause-found
returns-in_err-next-clause-found g c =
    let p = err_from_is_err_and c.from_residual-in_err-next.result c.from_residual-in_err-next.ensures.1 in
    rw (p.1, p.2) (root_stops _ c.args.tree c.in_ok-bytes.bytes c.in_err-next.field-0.0 c.in_err-next.ensures.err
    (root_seen _ c.args.tree c.in_ok-bytes.bytes (sees_object _ _ c.in_ok-bytes.bytes c.in_ok-bytes.ensures.newest c.in_ok-bytes.ensures.shown)))

pub returns-in_err-check_queue-clause-found : goal.returns-in_err-check_queue-clause-found
returns-in_err-check_queue-clause-found g c =
    let p = err_from_is_err_and c.from_residual-in_err-check_queue.result c.from_residual-in_err-check_queue.ensures.1 in
    rw (p.1, p.2) (queues_stop _ c.args.tree c.in_ok-bytes.bytes c.loop-page.page c.loop-page.invariant.1 c.in_ok-next.next c.in_ok-next.ensures.ok c.loop-page-test.true
    c.in_err-check_queue.field-0.0 (queue_behind _ _ _ _ (λ queue s. QueueFound queue (Err c.in_err-check_queue.field-0.0) s) c.loop-page.invariant.0 c.queue_at.ensures c.in_err-check_queue.ensures.found))

pub returns-clause-found : goal.returns-clause-found
returns-clause-found g c =
    let all : c.loop-page.page ≡ c.in_ok-next.next = omega (arith, c.loop-page-test.false, c.loop-page.auto.page-end) in
    tree_rests _ c.args.tree c.in_ok-bytes.bytes c.in_ok-next.next c.in_ok-next.ensures.ok
    (subst (λ (n : ℕ). TreeSeen (g.C.Cloud.seen c.args.cloud.now) c.args.tree c.in_ok-bytes.bytes n) all c.loop-page.invariant.1)
