use Rattle.std.proofs.Common.{arith}
use Rattle.std.specs.Option.{option_copied}
use Rattle.node_codec.proofs.KnownLemmas.{inner_checked_parts}
use Rattle.node_codec.proofs.inner_view.inner_at.Goals as goal

pub view-requires : goal.view-requires
view-requires c =
    let f = c.in_ok-front.front in
    let entries = c.in_ok-check_entries.ensures in
    inner_checked_parts f.version f.level f.low.now f.right (option_copied f.high) f.entries.now c.args.bytes.now (λ i. omega (arith, c.type_inv.bytes i)) c.in_ok-front.ensures.ok entries.gives entries.listed
