use Rattle.std.proofs.Common.{◌≡◌, ℕ, arith, subst}
use Rattle.std.proofs.lemmas.Result.{err_from_is_err_and}
use Rattle.world_audit.proofs.Looks.{looked_on, looked_not}
use Rattle.dump_take.proofs.Resting.{HeadsSeen, heads_none, heads_on, heads_end, heads_stop, heads_slip}
use Rattle.dump_take.proofs.Sights.{object_behind}
use Rattle.dump_take.proofs.heads.check_heads.Goals as goal

pub loop-number-init : goal.loop-number-init
loop-number-init g c = (looked_not _, heads_none _)

pub loop-number-preserved : goal.loop-number-preserved
loop-number-preserved g c = (
  looked_on _ _ _ c.loop-number.invariant.0 c.peek.ensures.looked,
  heads_on _ c.loop-number.number c.in-Ok.client c.in_ok-bytes.bytes c.in-Ok.ensures.ok (omega (arith, c.loop-number-test.true)) c.loop-number.invariant.1
      (object_behind _ _ _ c.in_ok-bytes.bytes c.loop-number.invariant.0 c.in_ok-bytes.ensures.newest c.in_ok-bytes.ensures.shown)
      c.in_ok-check_head.ensures.rests,
)

pub returns-in_err-bytes-clause-found : goal.returns-in_err-bytes-clause-found
returns-in_err-bytes-clause-found g c =
    let p = err_from_is_err_and c.from_residual.result c.from_residual.ensures.1 in
    rw (p.1, p.2) (heads_slip _ c.in_err-bytes.field-0.0 c.in_err-bytes.ensures.only)

pub returns-in_err-check_head-clause-found : goal.returns-in_err-check_head-clause-found
returns-in_err-check_head-clause-found g c =
    let p = err_from_is_err_and c.from_residual-in_err-check_head.result c.from_residual-in_err-check_head.ensures.1 in
    rw (p.1, p.2) (heads_stop _ c.loop-number.number c.in-Ok.client c.in_ok-bytes.bytes c.in-Ok.ensures.ok (omega (arith, c.loop-number-test.true)) c.loop-number.invariant.1
    (object_behind _ _ _ c.in_ok-bytes.bytes c.loop-number.invariant.0 c.in_ok-bytes.ensures.newest c.in_ok-bytes.ensures.shown)
    c.in_err-check_head.field-0.0 c.in_err-check_head.ensures.stops)

pub returns-clause-found : goal.returns-clause-found
returns-clause-found g c =
    let all : c.loop-number.number ≡ 64 = omega (arith, c.loop-number-test.false, c.loop-number.auto.number-end) in
    heads_end _ (subst (λ (n : ℕ). HeadsSeen (g.C.Cloud.seen c.args.cloud.now) n) all c.loop-number.invariant.1)
