use Rattle.std.proofs.Common.{ℕ, ◌≡◌, [], ◌∷◌, subst, arith}
use Rattle.std.proofs.lemmas.Result.{err_from_is_err_and}
use Rattle.db_base.specs.declared.names.ObjName.TheVariants.{Tree, Page}
use Rattle.load_plan.specs.FirstLook.{numbers, tree_names, LookedAtAll}
use Rattle.load_plan.proofs.LookLemmas.{all_none, all_on, ends_before, ends_on, both_names, looked_more, looked_upto}
use Rattle.load_plan.proofs.first_look.look_at_trees.Goals as goal

pub loop-number-init : goal.loop-number-init
loop-number-init g c = all_none _

pub loop-number-preserved : goal.loop-number-preserved
loop-number-preserved g c =
    let page = rw c.first.ensures at c.in_ok-look-2.ensures in
    looked_more tree_names both_names c.loop-number.number c.in-Ok.tree _ _ _ c.in-Ok.ensures.ok c.loop-number.invariant
    (all_on (Tree c.in-Ok.tree ∷ []) (Page c.in-Ok.tree 1 ∷ []) _ _ _ c.in_ok-look.ensures page)

pub returns-in_err-look : goal.returns-in_err-look
returns-in_err-look g c =
    let p = err_from_is_err_and c.from_residual.result c.from_residual.ensures.1 in
    rw (p.1, p.2)
    (looked_upto tree_names both_names c.loop-number.number c.in-Ok.tree 16 _ _ _ _ c.loop-number-test.true c.in-Ok.ensures.ok c.loop-number.invariant
    (ends_before (Tree c.in-Ok.tree ∷ []) (Page c.in-Ok.tree 1 ∷ []) _ _ _ c.in_err-look.ensures))

pub returns-in_err-look-2 : goal.returns-in_err-look-2
returns-in_err-look-2 g c =
    let p = err_from_is_err_and c.from_residual-in_err-look-2.result c.from_residual-in_err-look-2.ensures.1 in
    let page = rw c.first.ensures at c.in_err-look-2.ensures in
    rw (p.1, p.2)
    (looked_upto tree_names both_names c.loop-number.number c.in-Ok.tree 16 _ _ _ _ c.loop-number-test.true c.in-Ok.ensures.ok c.loop-number.invariant
    (ends_on (Tree c.in-Ok.tree ∷ []) (Page c.in-Ok.tree 1 ∷ []) _ _ _ _ c.in_ok-look.ensures page))

pub returns : goal.returns
returns g c =
    let all : c.loop-number.number ≡ 16 = omega (arith, c.loop-number-test.false, c.loop-number.auto.number-end) in
    subst (λ (n : ℕ). LookedAtAll (tree_names (numbers 1 n)) (g.C.Cloud.seen c.args.cloud.now) (g.C.Cloud.seen c.loop-number.cloud)) all c.loop-number.invariant
