use Rattle.std.proofs.Common.{◌≡◌, ◌<◌, ◌≤◌, length, inl, arith, ap}
use Rattle.node_codec.specs.Node.{plain_entry}
use Rattle.node_codec.specs.Plain.{items_of}
use Rattle.node_codec.proofs.NodeLemmas.{plain_entry_exact}
use Rattle.node_codec.proofs.PlainLemmas.{fewer_items}
use Rattle.node_codec.proofs.entry_list.count_entries.Goals as goal

pub count-count-requires-clause-fits : goal.count-count-requires-clause-fits
count-count-requires-clause-fits c =
    let fewer : length (items_of plain_entry c.args.entries.now) < length c.args.entries.now = fewer_items plain_entry plain_entry_exact c.args.entries.now (λ i. omega (arith, c.type_inv.entries i)) c.requires in
    let same : length c.of.result ≡ length (items_of plain_entry c.args.entries.now) = ap length c.of.ensures in
    inl (omega arith)

pub prove-unreachable-requires : goal.prove-unreachable-requires
prove-unreachable-requires c =
    let fewer : length (items_of plain_entry c.args.entries.now) < length c.args.entries.now = fewer_items plain_entry plain_entry_exact c.args.entries.now (λ i. omega (arith, c.type_inv.entries i)) c.requires in
    let same : length c.of.result ≡ length (items_of plain_entry c.args.entries.now) = ap length c.of.ensures in
    let bound : c.count-count.result ≤ length c.of.result = c.count-count.ensures.bound in
    omega arith
