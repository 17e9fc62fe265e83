use Rattle.std.proofs.Common.{◌≡◌, true, false, eqb, length, refl, arith}
use Rattle.std.proofs.lemmas.Result.{err_from_is_err_and}
use Rattle.std.specs.Option.{option_copied}
use Rattle.leaf_view.specs.Leaf.{Head, head_of}
use Rattle.leaf_view.proofs.Exact.{done_exact}
use Rattle.leaf_view.proofs.Reading.{head_fails, done_fails, records_fail, goes_on, is_read}
use Rattle.leaf_view.proofs.view.LeafView.whole.Goals as goal

pub returns-in_err-head : goal.returns-in_err-head
returns-in_err-head c =
    let p = err_from_is_err_and c.from_residual.result c.from_residual.ensures.1 in
    rw (p.1, p.2) (head_fails c.args.bytes.now c.in_err-head.field-0.0.left c.in_err-head.ensures)

pub skip_list-requires : goal.skip_list-requires
skip_list-requires c κs = ((refl, tt), done_exact)

pub returns-in_err-records : goal.returns-in_err-records
returns-in_err-records c =
    let p = err_from_is_err_and c.from_residual-in_err-records.result c.from_residual-in_err-records.ensures.1 in
    rw (p.1, p.2) (done_fails c.args.bytes.now _ c.in_ok-head.done.now c.in_err-records.field-0.0.left c.in_ok-head.ensures c.in_err-records.ensures)

pub returns-in_err-rest : goal.returns-in_err-rest
returns-in_err-rest c =
    let p = err_from_is_err_and c.from_residual-in_err-rest.result c.from_residual-in_err-rest.ensures.1 in
    let head : Head = head_of (c.in_ok-head.head.format, (c.in_ok-head.head.version, (c.in_ok-head.head.low.now, (c.in_ok-head.head.right, option_copied c.in_ok-head.head.high)))) in
    rw (p.1, p.2) (records_fail c.args.bytes.now head c.in_ok-head.done.now c.in_ok-records.records.now c.in_err-rest.field-0.0.left c.in_ok-head.ensures c.in_ok-records.ensures c.in_err-rest.ensures)

pub returns-then-not-is_empty : goal.returns-then-not-is_empty
returns-then-not-is_empty c =
    let head : Head = head_of (c.in_ok-head.head.format, (c.in_ok-head.head.version, (c.in_ok-head.head.low.now, (c.in_ok-head.head.right, option_copied c.in_ok-head.head.high)))) in
    let more : eqb (length c.in_ok-rest.rest.now) 0 ≡ false = cc (c.if-not-is_empty.ensures) in
    rw c.at.ensures (goes_on c.args.bytes.now head c.in_ok-head.done.now c.in_ok-records.records.now c.in_ok-rest.rest.now c.in_ok-head.ensures c.in_ok-records.ensures c.in_ok-rest.ensures more)

pub invariant_of-result : goal.invariant_of-result
invariant_of-result c =
    let head : Head = head_of (c.in_ok-head.head.format, (c.in_ok-head.head.version, (c.in_ok-head.head.low.now, (c.in_ok-head.head.right, option_copied c.in_ok-head.head.high)))) in
    let end : eqb (length c.in_ok-rest.rest.now) 0 ≡ true = cc (c.if-not-is_empty.ensures) in
    (is_read c.args.bytes.now head c.in_ok-head.done.now c.in_ok-records.records.now c.in_ok-rest.rest.now (λ i. omega (arith, c.type_inv.bytes i)) c.in_ok-head.ensures c.in_ok-records.ensures c.in_ok-rest.ensures end).sound

pub returns : goal.returns
returns c =
    let head : Head = head_of (c.in_ok-head.head.format, (c.in_ok-head.head.version, (c.in_ok-head.head.low.now, (c.in_ok-head.head.right, option_copied c.in_ok-head.head.high)))) in
    let end : eqb (length c.in_ok-rest.rest.now) 0 ≡ true = cc (c.if-not-is_empty.ensures) in
    (is_read c.args.bytes.now head c.in_ok-head.done.now c.in_ok-records.records.now c.in_ok-rest.rest.now (λ i. omega (arith, c.type_inv.bytes i)) c.in_ok-head.ensures c.in_ok-records.ensures c.in_ok-rest.ensures end).is
