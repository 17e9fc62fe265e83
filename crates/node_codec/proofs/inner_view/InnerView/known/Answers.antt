use Rattle.std.proofs.Common.{sym, ◌∙◌, arith}
use Rattle.std.specs.Option.{option_copied}
use Rattle.byte_format.proofs.Steps.{never_err}
use Rattle.byte_format.proofs.Wholes.{whole_only}
use Rattle.node_codec.specs.Inner.{inner_format}
use Rattle.node_codec.proofs.InnerLemmas.{inner_exact}
use Rattle.node_codec.proofs.KnownLemmas.{inner_known_parts, inner_known}
use Rattle.node_codec.proofs.inner_view.InnerView.known.Goals as goal

pub unreachable-requires : goal.unreachable-requires
unreachable-requires c =
    never_err c.requires.0 c.in_default.field-0.left (sym (whole_only inner_format inner_exact c.args.bytes.now c.requires.0 c.requires.1) ∙ c.in_default.ensures.err)

pub view-requires : goal.view-requires
view-requires c =
    let f = c.in-Ok.front in
    inner_known_parts f.version f.level f.low.now f.right (option_copied f.high) f.entries.now c.args.bytes.now (λ i. omega (arith, c.type_inv.bytes i)) c.in-Ok.ensures.ok c.requires

pub returns : goal.returns
returns c =
    let f = c.in-Ok.front in
    rw c.view.ensures (inner_known f.version f.level f.low.now f.right (option_copied f.high) f.entries.now c.args.bytes.now (λ i. omega (arith, c.type_inv.bytes i)) c.in-Ok.ensures.ok c.requires)
