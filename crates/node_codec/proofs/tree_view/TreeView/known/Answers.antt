use Rattle.std.proofs.Common.{sym, ◌∙◌, arith}
use Rattle.byte_format.proofs.Steps.{never_err}
use Rattle.byte_format.proofs.Wholes.{whole_only}
use Rattle.node_codec.specs.Tree.{tree_format}
use Rattle.node_codec.proofs.TreeLemmas.{tree_exact}
use Rattle.node_codec.proofs.KnownLemmas.{tree_known_parts, tree_known}
use Rattle.node_codec.proofs.tree_view.TreeView.known.Goals as goal

pub unreachable-requires : goal.unreachable-requires
unreachable-requires c =
    never_err c.requires.0 c.in_default.field-0.left (sym (whole_only tree_format tree_exact c.args.bytes.now c.requires.0 c.requires.1) ∙ c.in_default.ensures.err)

pub view-requires : goal.view-requires
view-requires c =
    let f = c.in-Ok.front in
    tree_known_parts f.version f.next f.level f.cursor.now f.entries.now c.args.bytes.now (λ i. omega (arith, c.type_inv.bytes i)) c.in-Ok.ensures.ok c.in-Ok.ensures.numbers c.requires

pub returns : goal.returns
returns c =
    let f = c.in-Ok.front in
    rw c.view.ensures (tree_known f.version f.next f.level f.cursor.now f.entries.now c.args.bytes.now (λ i. omega (arith, c.type_inv.bytes i)) c.in-Ok.ensures.ok c.in-Ok.ensures.numbers c.requires)
