use Rattle.std.proofs.Common.{◌≡◌, true, Ok, arith}
use Rattle.std.proofs.lemmas.Result.{err_from_is_err_and}
use Rattle.byte_format.specs.Format.{more_at}
use Rattle.byte_format.proofs.Loops.{begins_kept, next_of, goes_on_kept, item_faults, last_of}
use Rattle.byte_format.proofs.owned.owned_list.Goals as goal

pub items-init : goal.items-init
items-init g c = rw c.new-items.ensures.items (begins_kept _ c.args.may_end c.args.bytes.now (λ i. omega (arith, c.type_inv.bytes i)))

pub returns-in_err-item : goal.returns-in_err-item
returns-in_err-item g c =
    let more : more_at c.items.may_stop c.items.rest.now ≡ Ok (true, c.in_ok-more.behind.now) = cc (c.in_ok-more.ensures) in
    let read = rw (c.last.ensures.value, c.as_slice.ensures.value) at c.in_err-item.ensures in
    let p = err_from_is_err_and c.from_residual-in_err-item.result c.from_residual-in_err-item.ensures.1 in
    rw (p.1, p.2) (item_faults c.in_err-item.field-0.0 _ _ c.items.may_stop c.items.items.items c.items.rest.now c.in_ok-more.behind.now c.items.invariant more read)

pub items-smaller : goal.items-smaller
items-smaller g c =
    let more : more_at c.items.may_stop c.items.rest.now ≡ Ok (true, c.in_ok-more.behind.now) = cc (c.in_ok-more.ensures) in
    let read = rw (c.last.ensures.value, c.as_slice.ensures.value) at c.in_ok-item.ensures in
    omega (arith, (next_of _ c.requires c.items.may_stop (last_of c.items.items.items) c.items.rest.now c.in_ok-more.behind.now c.in_ok-item.item c.in_ok-item.behind.now c.items.invariant.fits more read).less)

pub items-preserved : goal.items-preserved
items-preserved g c =
    let more : more_at c.items.may_stop c.items.rest.now ≡ Ok (true, c.in_ok-more.behind.now) = cc (c.in_ok-more.ensures) in
    let read = rw (c.last.ensures.value, c.as_slice.ensures.value) at c.in_ok-item.ensures in
    rw c.in_ok-push.ensures.items (goes_on_kept _ c.requires _ c.items.may_stop c.items.items.items c.items.rest.now c.in_ok-more.behind.now c.in_ok-item.item c.in_ok-item.behind.now c.items.invariant more read)
