use Rattle.std.proofs.Common.{◌≡◌, List, ℕ, None, true, false, ap, ◌∙◌, arith}
use Rattle.byte_format.specs.Format.{greatest, list_fits}
use Rattle.byte_format.specs.Order.{bytes_below, below_bound}
use Rattle.node_codec.specs.Node.{Entry, plain_entry, entry, with_entry}
use Rattle.node_codec.specs.Plain.{items_of}
use Rattle.node_codec.specs.Inner.{Inner, inner_in}
use Rattle.node_codec.proofs.EntryLemmas.{spelled}
use Rattle.node_codec.proofs.TreeLemmas.{items_spelled}
use Rattle.node_codec.proofs.InnerLemmas.{inner_one_more_fits, inner_with_entries}
use Rattle.node_codec.proofs.inner_buf.InnerBuf.add.Goals as goal

pub invariant_of-self : goal.invariant_of-self
invariant_of-self c =
    let b = c.self.inside in
    let key = c.args.low.now in
    let page = c.get-number.result in
    let xs = with_entry key page (items_of plain_entry b.entries.items) in
    let inside : bytes_below key b.low ≡ false = ap (λ (n : Inner). bytes_below key n.low) c.self.view_is ∙ c.requires.from_low in
    let bound : below_bound key b.high ≡ true = ap (λ (n : Inner). below_bound key n.high) c.self.view_is ∙ c.requires.to_high in
    let fits : list_fits false (entry b.low b.high greatest) None xs ≡ true = inner_one_more_fits b.version b.level b.low b.right b.high b.entries.items key page c.self.invariant c.requires.short inside bound (omega arith) (omega arith) in
    inner_with_entries b.version b.level b.low b.right b.high b.entries.items c.in_ok-self-inside.field-0.items xs c.self.invariant fits
    (c.in_ok-self-inside.ensures ∙ ap (λ (bs : List ℕ). spelled (with_entry key page (items_of plain_entry bs))) c.as_slice-entries.ensures.value)

pub returns-clause-ok : goal.returns-clause-ok
returns-clause-ok c =
    let b = c.self.inside in
    let key = c.args.low.now in
    let page = c.get-number.result in
    let xs = with_entry key page (items_of plain_entry b.entries.items) in
    let inside : bytes_below key b.low ≡ false = ap (λ (n : Inner). bytes_below key n.low) c.self.view_is ∙ c.requires.from_low in
    let bound : below_bound key b.high ≡ true = ap (λ (n : Inner). below_bound key n.high) c.self.view_is ∙ c.requires.to_high in
    let fits : list_fits false (entry b.low b.high greatest) None xs ≡ true = inner_one_more_fits b.version b.level b.low b.right b.high b.entries.items key page c.self.invariant c.requires.short inside bound (omega arith) (omega arith) in
    let items : items_of plain_entry c.in_ok-self-inside.field-0.items ≡ xs = items_spelled b.low b.high greatest xs c.in_ok-self-inside.field-0.items fits
    (c.in_ok-self-inside.ensures ∙ ap (λ (bs : List ℕ). spelled (with_entry key page (items_of plain_entry bs))) c.as_slice-entries.ensures.value) in
    let old : Inner = inner_in b.version b.level b.low b.right b.high b.entries.items in
    ap (λ (es : List Entry). record old { entries = es }) items ∙ ap (λ (p : ℕ). record old { entries = with_entry key p old.entries }) c.get-number.ensures.number
    ∙ ap (λ (n : Inner). record n { entries = with_entry key c.args.page n.entries }) c.self.view_is
