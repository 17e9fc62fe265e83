use Rattle.std.proofs.Common.{◌≡◌, true, None, Ok, arith}
use Rattle.byte_format.specs.Format.{more_at}
use Rattle.byte_format.proofs.Loops.{begins, next_of, goes_on}
use Rattle.byte_format.proofs.list.skip_list.Goals as goal

pub items-init : goal.items-init
items-init g c = begins _ c.args.may_end None c.args.bytes.now (λ i. omega (arith, c.type_inv.bytes i))

pub items-smaller : goal.items-smaller
items-smaller g c =
    let more : more_at c.items.may_stop c.items.rest.now ≡ Ok (true, c.in_ok-more.behind.now) = cc (c.in_ok-more.ensures) in
    let read = rw c.as_ref.ensures.value at c.in_ok-item.ensures in
    omega (arith, (next_of _ c.requires c.items.may_stop c.items.before c.items.rest.now c.in_ok-more.behind.now c.in_ok-item.item c.in_ok-item.behind.now c.items.invariant.fits more read).less)

pub items-preserved : goal.items-preserved
items-preserved g c =
    let more : more_at c.items.may_stop c.items.rest.now ≡ Ok (true, c.in_ok-more.behind.now) = cc (c.in_ok-more.ensures) in
    let read = rw c.as_ref.ensures.value at c.in_ok-item.ensures in
    goes_on _ c.requires _ c.items.may_stop c.items.before c.items.rest.now c.in_ok-more.behind.now c.in_ok-item.item c.in_ok-item.behind.now c.items.invariant more read
