use Rattle.std.proofs.Common.{refl}
use Rattle.std.proofs.lemmas.Result.{err_from_is_err_and}
use Rattle.world_audit.proofs.Looks.{looked_on}
use Rattle.dump_take.proofs.Sights.{sees_behind}
use Rattle.dump_take.proofs.Taking.{takes, takes_trees, takes_contents, takes_all}
use Rattle.dump_take.proofs.take.take_dump.Goals as goal

pub returns-in_err-check_heads-clause-taken : goal.returns-in_err-check_heads-clause-taken
returns-in_err-check_heads-clause-taken g c =
    let p = err_from_is_err_and c.from_residual.result c.from_residual.ensures.1 in
    takes _ _ c.in_err-check_heads.field-0.0 (rw (p.1, p.2) refl) c.in_err-check_heads.ensures.found

pub returns-in_err-check_trees-clause-taken : goal.returns-in_err-check_trees-clause-taken
returns-in_err-check_trees-clause-taken g c =
    let p = err_from_is_err_and c.from_residual-in_err-check_trees.result c.from_residual-in_err-check_trees.ensures.1 in
    takes_trees _ _ c.in_ok-check_heads.ensures.found c.in_err-check_trees.field-0.0 (rw (p.1, p.2) refl)
    (sees_behind _ _ _ _ _ c.in_ok-check_heads.ensures.looked c.in_err-check_trees.ensures.found)

pub returns-in_err-trees-clause-taken : goal.returns-in_err-trees-clause-taken
returns-in_err-trees-clause-taken g c =
    let p = err_from_is_err_and c.from_residual-in_err-trees.result c.from_residual-in_err-trees.ensures.1 in
    takes_contents _ _ c.in_ok-check_heads.ensures.found (sees_behind _ _ _ _ _ c.in_ok-check_heads.ensures.looked c.in_ok-check_trees.ensures.found)
    c.in_err-trees.field-0.0 (rw (p.1, p.2) refl)
    (sees_behind _ _ _ _ _ (looked_on _ _ _ c.in_ok-check_heads.ensures.looked c.in_ok-check_trees.ensures.looked) c.in_err-trees.ensures.found)

pub returns-clause-taken : goal.returns-clause-taken
returns-clause-taken g c =
    takes_all _ _ c.in_ok-check_heads.ensures.found (sees_behind _ _ _ _ _ c.in_ok-check_heads.ensures.looked c.in_ok-check_trees.ensures.found)
    _ refl (sees_behind _ _ _ _ _ (looked_on _ _ _ c.in_ok-check_heads.ensures.looked c.in_ok-check_trees.ensures.looked) c.in_ok-trees.ensures.found)
