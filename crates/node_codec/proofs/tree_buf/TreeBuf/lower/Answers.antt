use Rattle.std.proofs.Common.{◌<◌, ◌+◌, List, ℕ, sym, ap, subst, ◌∙◌, arith}
use Rattle.node_codec.specs.Node.{Entry}
use Rattle.node_codec.specs.Tree.{Tree, tree_in, raised_root}
use Rattle.node_codec.proofs.InnerLemmas.{node_parts}
use Rattle.node_codec.proofs.TreeLemmas.{parts_lowered}
use Rattle.node_codec.proofs.tree_buf.TreeBuf.lower.Goals as goal

pub first-node-requires : goal.first-node-requires
first-node-requires c = let b = c.self.inside in node_parts b.version b.next b.level b.cursor.items b.entries.items c.self.invariant

pub invariant_of-root : goal.invariant_of-root
invariant_of-root c =
    let b = c.self.inside in
    let higher : b.level < 255 = subst (λ (t : Tree). t.level < 255) (sym c.self.view_is) c.requires.level in
    let below : c.args.page < b.next = subst (λ (t : Tree). c.args.page < t.next) (sym c.self.view_is) c.requires.page in
    (parts_lowered b.version b.next b.level c.get-number.result b.cursor.items b.entries.items c.in_ok-root.root.items c.self.invariant higher (omega arith) (omega arith) c.in_ok-root.ensures).0

pub returns-clause-root : goal.returns-clause-root
returns-clause-root c =
    let b = c.self.inside in
    let higher : b.level < 255 = subst (λ (t : Tree). t.level < 255) (sym c.self.view_is) c.requires.level in
    let below : c.args.page < b.next = subst (λ (t : Tree). c.args.page < t.next) (sym c.self.view_is) c.requires.page in
    let old : Tree = tree_in b.version b.next b.level b.cursor.items b.entries.items in
    let items = (parts_lowered b.version b.next b.level c.get-number.result b.cursor.items b.entries.items c.in_ok-root.root.items c.self.invariant higher (omega arith) (omega arith) c.in_ok-root.ensures).1 in
    ap (λ (es : List Entry). record old { level = b.level + 1; entries = es }) items ∙ ap (λ (p : ℕ). raised_root p old) c.get-number.ensures.number ∙ ap (raised_root c.args.page) c.self.view_is
