use Rattle.std.proofs.Common.{◌≡◌, true, false, Ok, arith}
use Rattle.byte_format.specs.Format.{more_at}
use Rattle.byte_format.proofs.Plain.{more_of, ended_of, split_is, item_of}
use Rattle.leaf_view.specs.Leaf.{plain_done}
use Rattle.leaf_view.proofs.Exact.{plain_done_exact}
use Rattle.leaf_view.proofs.done_rules.split_done.Goals as goal

pub unreachable-requires : goal.unreachable-requires
unreachable-requires c = more_of plain_done c.args.bytes.now c.in_default.field-0.left c.requires c.in_default.ensures

pub returns-then-not-more : goal.returns-then-not-more
returns-then-not-more c =
    let more : more_at true c.args.bytes.now ≡ Ok (false, c.in-Ok.rest.now) = cc (c.in-Ok.ensures) in
    ended_of plain_done c.args.bytes.now c.in-Ok.rest.now more

pub unreachable-requires-in_default-done_at : goal.unreachable-requires-in_default-done_at
unreachable-requires-in_default-done_at c =
    let more : more_at true c.args.bytes.now ≡ Ok (true, c.in-Ok.rest.now) = cc (c.in-Ok.ensures) in
    item_of plain_done plain_done_exact c.args.bytes.now c.in-Ok.rest.now c.in_default-done_at.field-0.left (λ i. omega (arith, c.type_inv.bytes i)) c.requires more c.in_default-done_at.ensures

pub returns : goal.returns
returns c =
    let more : more_at true c.args.bytes.now ≡ Ok (true, c.in-Ok.rest.now) = cc (c.in-Ok.ensures) in
    split_is plain_done plain_done_exact c.args.bytes.now c.in-Ok.rest.now (c.in-Ok-done_at.item, c.in-Ok-done_at.rest.now) (λ i. omega (arith, c.type_inv.bytes i)) c.requires more c.in-Ok-done_at.ensures
