use Rattle.std.proofs.Common.{◌≡◌, ◌<◌, ◌-◌, List, ℕ, [], None, true, false, sym, ap, ◌∙◌, arith}
use Rattle.byte_format.specs.Format.{list_fits}
use Rattle.node_codec.specs.Node.{Entry, plain_entry, entry, with_entry}
use Rattle.node_codec.specs.Plain.{items_of}
use Rattle.node_codec.specs.Tree.{Tree, tree_in, with_child}
use Rattle.node_codec.proofs.EntryLemmas.{spelled}
use Rattle.node_codec.proofs.TreeLemmas.{one_more_fits, parts_with_entries, items_spelled, with_child_is}
use Rattle.node_codec.proofs.tree_buf.TreeBuf.add.Goals as goal

pub invariant_of-self : goal.invariant_of-self
invariant_of-self c =
    let b = c.self.inside in
    let key = c.args.low.now in
    let page = c.get-number.result in
    let xs = with_entry key page (items_of plain_entry b.entries.items) in
    let fits : list_fits false (entry [] None (b.next - 1)) None xs ≡ true = one_more_fits b.version b.next b.level b.cursor.items b.entries.items key page c.self.invariant c.requires (omega arith) (omega arith) in
    parts_with_entries b.version b.next b.level b.cursor.items b.entries.items c.in_ok-self-inside.field-0.items xs c.self.invariant fits
    (c.in_ok-self-inside.ensures ∙ ap (λ (bs : List ℕ). spelled (with_entry key page (items_of plain_entry bs))) c.as_slice-entries.ensures.value)

pub returns-clause-ok : goal.returns-clause-ok
returns-clause-ok c =
    let b = c.self.inside in
    let key = c.args.low.now in
    let page = c.get-number.result in
    let xs = with_entry key page (items_of plain_entry b.entries.items) in
    let fits : list_fits false (entry [] None (b.next - 1)) None xs ≡ true = one_more_fits b.version b.next b.level b.cursor.items b.entries.items key page c.self.invariant c.requires (omega arith) (omega arith) in
    let items : items_of plain_entry c.in_ok-self-inside.field-0.items ≡ xs = items_spelled [] None (b.next - 1) xs c.in_ok-self-inside.field-0.items fits
    (c.in_ok-self-inside.ensures ∙ ap (λ (bs : List ℕ). spelled (with_entry key page (items_of plain_entry bs))) c.as_slice-entries.ensures.value) in
    let old : Tree = tree_in b.version b.next b.level b.cursor.items b.entries.items in
    let below : page < b.next = omega arith in
    ap (λ (es : List Entry). record old { entries = es }) items ∙ sym (with_child_is key page old below) ∙ ap (λ (p : ℕ). with_child key p old) c.get-number.ensures.number ∙ ap (with_child key c.args.page) c.self.view_is
