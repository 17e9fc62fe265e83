use Rattle.std.proofs.Common.{ℕ, ◌≡◌, map, subst, arith}
use Rattle.std.proofs.lemmas.Result.{err_from_is_err_and}
use Rattle.db_base.specs.declared.names.ObjName.TheVariants.{Head}
use Rattle.load_plan.specs.FirstLook.{numbers, LookedAtAll}
use Rattle.load_plan.proofs.LookLemmas.{all_none, head_names, looked_more, looked_upto}
use Rattle.load_plan.proofs.first_look.look_at_heads.Goals as goal

pub loop-number-init : goal.loop-number-init
loop-number-init g c = all_none _

pub loop-number-preserved : goal.loop-number-preserved
loop-number-preserved g c = looked_more (map Head) head_names c.loop-number.number c.in-Ok.client _ _ _ c.in-Ok.ensures.ok c.loop-number.invariant c.in_ok-look.ensures

pub returns-in_err-look : goal.returns-in_err-look
returns-in_err-look g c =
    let p = err_from_is_err_and c.from_residual.result c.from_residual.ensures.1 in
    rw (p.1, p.2) (looked_upto (map Head) head_names c.loop-number.number c.in-Ok.client 64 _ _ _ _ c.loop-number-test.true c.in-Ok.ensures.ok c.loop-number.invariant c.in_err-look.ensures)

pub returns : goal.returns
returns g c =
    let all : c.loop-number.number ≡ 64 = omega (arith, c.loop-number-test.false, c.loop-number.auto.number-end) in
    subst (λ (n : ℕ). LookedAtAll (map Head (numbers 1 n)) (g.C.Cloud.seen c.args.cloud.now) (g.C.Cloud.seen c.loop-number.cloud)) all c.loop-number.invariant
