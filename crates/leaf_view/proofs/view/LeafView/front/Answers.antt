use Rattle.std.proofs.Common.{refl, arith}
use Rattle.std.proofs.lemmas.Result.{err_from_is_err_and}
use Rattle.std.specs.Option.{option_copied}
use Rattle.leaf_view.specs.Leaf.{Head, head_of}
use Rattle.leaf_view.proofs.Exact.{done_exact}
use Rattle.leaf_view.proofs.Reading.{head_fails, done_fails, is_known}
use Rattle.leaf_view.proofs.view.LeafView.front.Goals as goal

pub returns-in_err-head : goal.returns-in_err-head
returns-in_err-head c =
    let p = err_from_is_err_and c.from_residual.result c.from_residual.ensures.1 in
    rw (p.1, p.2) (head_fails c.args.bytes.now c.in_err-head.field-0.0.left c.in_err-head.ensures)

pub skip_list-requires : goal.skip_list-requires
skip_list-requires c κs = ((refl, tt), done_exact)

pub returns-in_err-records : goal.returns-in_err-records
returns-in_err-records c =
    let p = err_from_is_err_and c.from_residual-in_err-records.result c.from_residual-in_err-records.ensures.1 in
    rw (p.1, p.2) (done_fails c.args.bytes.now _ c.in_ok-head.done.now c.in_err-records.field-0.0.left c.in_ok-head.ensures c.in_err-records.ensures)

pub invariant_of-result : goal.invariant_of-result
invariant_of-result c =
    let head : Head = head_of (c.in_ok-head.head.format, (c.in_ok-head.head.version, (c.in_ok-head.head.low.now, (c.in_ok-head.head.right, option_copied c.in_ok-head.head.high)))) in
    (is_known c.args.bytes.now head c.in_ok-head.done.now c.in_ok-records.records.now (λ i. omega (arith, c.type_inv.bytes i)) c.requires c.in_ok-head.ensures c.in_ok-records.ensures).sound

pub returns : goal.returns
returns c =
    let head : Head = head_of (c.in_ok-head.head.format, (c.in_ok-head.head.version, (c.in_ok-head.head.low.now, (c.in_ok-head.head.right, option_copied c.in_ok-head.head.high)))) in
    (is_known c.args.bytes.now head c.in_ok-head.done.now c.in_ok-records.records.now (λ i. omega (arith, c.type_inv.bytes i)) c.requires c.in_ok-head.ensures c.in_ok-records.ensures).is
