use Rattle.std.proofs.Common.{◌≡◌, true, false, Ok, arith}
use Rattle.byte_format.specs.Format.{more_at}
use Rattle.byte_format.proofs.Plain.{more_of, ended_of, split_is, item_of}
use Rattle.leaf_view.specs.Leaf.{plain_entry}
use Rattle.leaf_view.proofs.Exact.{plain_entry_exact}
use Rattle.leaf_view.proofs.Spelled.{all-behind}
use Rattle.leaf_view.proofs.entry.split_entry.Goals as goal

pub unreachable-requires : goal.unreachable-requires
unreachable-requires c = more_of (plain_entry c.args.format) c.args.bytes.now c.in_default.field-0.left c.requires c.in_default.ensures

pub returns-then-not-more-clause-first : goal.returns-then-not-more-clause-first
returns-then-not-more-clause-first c =
    let more : more_at true c.args.bytes.now ≡ Ok (false, c.in-Ok.rest.now) = cc (c.in-Ok.ensures) in
    ended_of (plain_entry c.args.format) c.args.bytes.now c.in-Ok.rest.now more

pub unreachable-requires-in_default-entry_at : goal.unreachable-requires-in_default-entry_at
unreachable-requires-in_default-entry_at c =
    let more : more_at true c.args.bytes.now ≡ Ok (true, c.in-Ok.rest.now) = cc (c.in-Ok.ensures) in
    item_of (plain_entry c.args.format) (plain_entry_exact c.args.format) c.args.bytes.now c.in-Ok.rest.now c.in_default-entry_at.field-0.left (λ i. omega (arith, c.type_inv.bytes i)) c.requires more c.in_default-entry_at.ensures

pub returns-clause-first : goal.returns-clause-first
returns-clause-first c =
    let more : more_at true c.args.bytes.now ≡ Ok (true, c.in-Ok.rest.now) = cc (c.in-Ok.ensures) in
    split_is (plain_entry c.args.format) (plain_entry_exact c.args.format) c.args.bytes.now c.in-Ok.rest.now (c.in-Ok-entry_at.entry, c.in-Ok-entry_at.rest.now) (λ i. omega (arith, c.type_inv.bytes i)) c.requires more c.in-Ok-entry_at.ensures

pub returns-clause-all : goal.returns-clause-all
returns-clause-all c =
    let more : more_at true c.args.bytes.now ≡ Ok (true, c.in-Ok.rest.now) = cc (c.in-Ok.ensures) in
    λ all. all-behind c.args.format c.args.bytes.now c.in-Ok.rest.now (c.in-Ok-entry_at.entry, c.in-Ok-entry_at.rest.now) (λ i. omega (arith, c.type_inv.bytes i)) c.requires more c.in-Ok-entry_at.ensures all
