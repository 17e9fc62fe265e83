use Rattle.std.proofs.Common.{◌≡◌, ℕ, refl, arith, subst}
use Rattle.std.proofs.lemmas.Result.{err_from_is_err_and}
use Rattle.world_audit.proofs.Looks.{looked_on, looked_not, told_behind}
use Rattle.world_audit.proofs.Answered.{Totals, totals_none, totals_more, heads_end, heads_slip, heads_stop_here}
use Rattle.world_audit.proofs.heads.open_heads.Goals as goal

pub loop-number-init : goal.loop-number-init
loop-number-init g c = (looked_not _, omega arith, totals_none _ c.args.tree c.args.committed.now)

pub loop-number-preserved : goal.loop-number-preserved
loop-number-preserved g c = (
  looked_on _ _ _ c.loop-number.invariant.0 c.peek.ensures.looked,
  omega (arith, c.in_ok-here.ensures.most, c.loop-number.invariant.1),
  totals_more _ c.args.tree c.args.committed.now c.loop-number.number c.loop-number.heads c.in-Ok.client c.in_ok-bytes.bytes c.loop-number.invariant.2
      c.in-Ok.ensures.ok (told_behind _ _ _ c.in_ok-bytes.bytes c.loop-number.invariant.0 c.in_ok-bytes.ensures.newest c.in_ok-bytes.ensures.shown) c.in_ok-here.here c.in_ok-here.ensures.ok c.in_ok-here.ensures.read,
)

pub returns-in_err-here-clause-found : goal.returns-in_err-here-clause-found
returns-in_err-here-clause-found g c =
    let p = err_from_is_err_and c.from_residual-in_err-here.result c.from_residual-in_err-here.ensures.1 in
    heads_stop_here _ c.args.tree c.args.committed.now c.loop-number.number c.loop-number.heads c.in-Ok.client c.in_ok-bytes.bytes c.loop-number.invariant.2
    c.in-Ok.ensures.ok (told_behind _ _ _ c.in_ok-bytes.bytes c.loop-number.invariant.0 c.in_ok-bytes.ensures.newest c.in_ok-bytes.ensures.shown)
    c.from_residual-in_err-here.result c.in_err-here.field-0.0 (rw (p.1, p.2) refl)
    (record { some = omega (arith, c.in-Ok.ensures.ok); most = omega (arith, c.in-Ok.ensures.ok, c.loop-number-test.true) }) c.in_err-here.ensures.stopped

pub returns-clause-found : goal.returns-clause-found
returns-clause-found g c =
    heads_end _ c.args.tree c.args.committed.now c.loop-number.heads
    (let all : c.loop-number.number ≡ 64 = omega (arith, c.loop-number-test.false, c.loop-number.auto.number-end) in
    subst (λ (n : ℕ). Totals (g.C.Cloud.seen c.args.cloud.now) c.args.tree c.args.committed.now n c.loop-number.heads) all c.loop-number.invariant.2)

pub returns-in_err-bytes-clause-found : goal.returns-in_err-bytes-clause-found
returns-in_err-bytes-clause-found g c =
    let p = err_from_is_err_and c.from_residual.result c.from_residual.ensures.1 in
    heads_slip _ c.args.tree c.args.committed.now c.from_residual.result c.in_err-bytes.field-0.0 (rw (p.1, p.2) refl) c.in_err-bytes.ensures.only
