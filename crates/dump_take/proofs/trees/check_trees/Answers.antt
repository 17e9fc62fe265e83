use Rattle.std.proofs.Common.{◌≡◌, ℕ, arith, subst}
use Rattle.std.proofs.lemmas.Result.{err_from_is_err_and}
use Rattle.world_audit.proofs.Looks.{looked_on, looked_not}
use Rattle.dump_take.proofs.Resting.{TreesSeen, trees_none, trees_on, trees_end, trees_stop}
use Rattle.dump_take.proofs.Sights.{sees_behind}
use Rattle.dump_take.proofs.trees.check_trees.Goals as goal

pub loop-number-init : goal.loop-number-init
loop-number-init g c = (looked_not _, trees_none _)

pub loop-number-preserved : goal.loop-number-preserved
loop-number-preserved g c = (
  looked_on _ _ _ c.loop-number.invariant.0 c.check_tree.ensures.looked,
  trees_on _ c.loop-number.number c.in-Ok.tree c.in-Ok.ensures.ok (omega (arith, c.loop-number-test.true)) c.loop-number.invariant.1
      (sees_behind _ _ _ _ _ c.loop-number.invariant.0 c.in_ok-check_tree.ensures.found),
)

pub returns-in_err-check_tree-clause-found : goal.returns-in_err-check_tree-clause-found
returns-in_err-check_tree-clause-found g c =
    let p = err_from_is_err_and c.from_residual.result c.from_residual.ensures.1 in
    rw (p.1, p.2) (trees_stop _ c.loop-number.number c.in-Ok.tree c.in-Ok.ensures.ok (omega (arith, c.loop-number-test.true)) c.loop-number.invariant.1
    c.in_err-check_tree.field-0.0 (sees_behind _ _ _ _ _ c.loop-number.invariant.0 c.in_err-check_tree.ensures.found))

pub returns-clause-found : goal.returns-clause-found
returns-clause-found g c =
    let all : c.loop-number.number ≡ 16 = omega (arith, c.loop-number-test.false, c.loop-number.auto.number-end) in
    trees_end _ (subst (λ (n : ℕ). TreesSeen (g.C.Cloud.seen c.args.cloud.now) n) all c.loop-number.invariant.1)
