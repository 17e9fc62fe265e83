use Rattle.std.proofs.Common.{refl}
use Rattle.std.proofs.lemmas.Result.{err_from_is_err_and}
use Rattle.leaf_view.specs.Leaf.{leaf_head}
use Rattle.leaf_view.proofs.head.head_at.Goals as goal

pub returns-in_err-rest : goal.returns-in_err-rest
unfolding leaf_head
returns-in_err-rest c =
    let p = err_from_is_err_and c.from_residual.result c.from_residual.ensures.1 in
    rw (p.1, p.2, c.in_err-rest.ensures) refl

pub returns-in_err-format : goal.returns-in_err-format
unfolding leaf_head
returns-in_err-format c =
    let p = err_from_is_err_and c.from_residual-in_err-format.result c.from_residual-in_err-format.ensures.1 in
    rw (p.1, p.2, c.in_ok-rest.ensures, c.in_err-format.ensures.gives) refl

pub returns-in_err-version : goal.returns-in_err-version
unfolding leaf_head
returns-in_err-version c =
    let p = err_from_is_err_and c.from_residual-in_err-version.result c.from_residual-in_err-version.ensures.1 in
    rw (p.1, p.2, c.in_ok-rest.ensures, c.in_ok-format.ensures.gives, c.in_err-version.ensures.gives) refl

pub returns-in_err-low : goal.returns-in_err-low
unfolding leaf_head
returns-in_err-low c =
    let p = err_from_is_err_and c.from_residual-in_err-low.result c.from_residual-in_err-low.ensures.1 in
    rw (p.1, p.2, c.in_ok-rest.ensures, c.in_ok-format.ensures.gives, c.in_ok-version.ensures.gives, c.in_err-low.ensures.gives) refl

pub returns-in_err-right : goal.returns-in_err-right
unfolding leaf_head
returns-in_err-right c =
    let p = err_from_is_err_and c.from_residual-in_err-right.result c.from_residual-in_err-right.ensures.1 in
    rw (p.1, p.2, c.in_ok-rest.ensures, c.in_ok-format.ensures.gives, c.in_ok-version.ensures.gives, c.in_ok-low.ensures.gives, c.in_err-right.ensures.gives) refl

pub returns-in_err-high : goal.returns-in_err-high
unfolding leaf_head
returns-in_err-high c =
    let p = err_from_is_err_and c.from_residual-in_err-high.result c.from_residual-in_err-high.ensures.1 in
    rw (p.1, p.2, c.in_ok-rest.ensures, c.in_ok-format.ensures.gives, c.in_ok-version.ensures.gives, c.in_ok-low.ensures.gives, c.in_ok-right.ensures.gives, c.in_err-high.ensures) refl
