use Rattle.std.proofs.Common.{arith}
use Rattle.node_codec.proofs.KnownLemmas.{tree_checked_parts}
use Rattle.node_codec.proofs.tree_view.tree_at.Goals as goal

pub view-requires : goal.view-requires
view-requires c =
    let f = c.in_ok-front.front in
    let entries = c.in_ok-check_entries.ensures in
    tree_checked_parts f.version f.next f.level f.cursor.now f.entries.now c.args.bytes.now (λ i. omega (arith, c.type_inv.bytes i)) c.in_ok-front.ensures.ok c.in_ok-front.ensures.numbers entries.gives entries.listed
