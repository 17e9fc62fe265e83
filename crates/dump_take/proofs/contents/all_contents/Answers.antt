use Rattle.std.proofs.Common.{◌≡◌, ℕ, arith, subst, sym, inr}
use Rattle.std.proofs.lemmas.Result.{err_from_is_err_and}
use Rattle.world_audit.proofs.Answered.{shown_behind}
use Rattle.world_audit.proofs.Looks.{looked_on, looked_not}
use Rattle.dump_take.proofs.Dumping.{Collects, collects_none, collects_on, contents_stop, contents_slip, contents_end, dumpable}
use Rattle.dump_take.proofs.contents.all_contents.Goals as goal

pub loop-number-init : goal.loop-number-init
loop-number-init g c = (looked_not _, subst (Collects _ 0) (sym c.new-trees.ensures) (collects_none _))

pub loop-number-preserved : goal.loop-number-preserved
loop-number-preserved g c = (
  looked_on _ _ _ c.loop-number.invariant.0 c.contents.ensures.looked,
  collects_on _ c.loop-number.number c.in-Ok.tree c.in-Ok.ensures.ok (omega (arith, c.loop-number-test.true)) c.loop-number.trees c.loop-number.invariant.1
      c.in_ok-records.records (shown_behind _ _ _ _ c.loop-number.invariant.0 c.in_ok-records.ensures.found) _ c.in_ok-add_tree.ensures.ok,
)

pub returns-in_err-records-clause-found : goal.returns-in_err-records-clause-found
returns-in_err-records-clause-found g c =
    let p = err_from_is_err_and c.from_residual.result c.from_residual.ensures.1 in
    rw (p.1, p.2) (contents_stop _ c.loop-number.number c.in-Ok.tree c.in-Ok.ensures.ok (omega (arith, c.loop-number-test.true)) c.loop-number.trees c.loop-number.invariant.1
    c.in_err-records.field-0.0 (shown_behind _ _ _ _ c.loop-number.invariant.0 c.in_err-records.ensures.found))

pub returns-in_err-add_tree-clause-found : goal.returns-in_err-add_tree-clause-found
returns-in_err-add_tree-clause-found g c =
    let p = err_from_is_err_and c.from_residual-in_err-add_tree.result c.from_residual-in_err-add_tree.ensures.1 in
    rw (p.1, p.2) (contents_slip _ c.in_err-add_tree.field-0.0 (inr c.in_err-add_tree.ensures.memory))

pub returns-clause-found : goal.returns-clause-found
returns-clause-found g c =
    let all : c.loop-number.number ≡ 16 = omega (arith, c.loop-number-test.false, c.loop-number.auto.number-end) in
    contents_end _ c.loop-number.trees (subst (λ (n : ℕ). Collects (g.C.Cloud.seen c.args.cloud.now) n c.loop-number.trees) all c.loop-number.invariant.1)

pub returns-clause-dumpable : goal.returns-clause-dumpable
returns-clause-dumpable g c =
    let all : c.loop-number.number ≡ 16 = omega (arith, c.loop-number-test.false, c.loop-number.auto.number-end) in
    dumpable (g.C.Cloud.seen c.args.cloud.now) c.loop-number.trees (subst (λ (n : ℕ). Collects (g.C.Cloud.seen c.args.cloud.now) n c.loop-number.trees) all c.loop-number.invariant.1)
