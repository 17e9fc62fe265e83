use Rattle.std.proofs.Common.{map}
use Rattle.std.proofs.lemmas.Result.{err_from_is_err_and}
use Rattle.db_base.specs.declared.names.ObjName.TheVariants.{Head}
use Rattle.load_plan.specs.FirstLook.{numbers, tree_names}
use Rattle.load_plan.proofs.LookLemmas.{ends_before, looks_on}
use Rattle.load_plan.proofs.first_look.look_first.Goals as goal

pub returns-in_err-look_at_heads : goal.returns-in_err-look_at_heads
returns-in_err-look_at_heads g c =
    let p = err_from_is_err_and c.from_residual.result c.from_residual.ensures.1 in
    rw (p.1, p.2) (ends_before (map Head (numbers 1 64)) (tree_names (numbers 1 16)) _ _ _ c.in_err-look_at_heads.ensures)

pub returns : goal.returns
returns g c = looks_on (map Head (numbers 1 64)) (tree_names (numbers 1 16)) _ _ _ _ c.in_ok-look_at_heads.ensures c.look_at_trees.ensures
