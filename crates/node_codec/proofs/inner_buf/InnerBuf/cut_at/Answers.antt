use Rattle.std.proofs.Common.{◌<◌, List, [], ℕ, length, take, drop, sym, ap, subst, ◌∙◌, arith}
use Rattle.node_codec.specs.Node.{plain_entry}
use Rattle.node_codec.specs.Plain.{items_of}
use Rattle.node_codec.specs.Inner.{Inner, inner_in, left_node, right_node, first_low_of}
use Rattle.std.specs.Prelude.{unwrap_or}
use Rattle.node_codec.proofs.EntryLemmas.{spelled}
use Rattle.node_codec.proofs.InnerLemmas.{cut_low, cut_node, left_parts, left_is, right_whole, right_parts, right_is}
use Rattle.node_codec.proofs.inner_buf.InnerBuf.cut_at.Goals as goal

pub first_low-low-requires : goal.first_low-low-requires
first_low-low-requires c =
    let b = c.self.inside in
    let short : c.args.count < length (items_of plain_entry b.entries.items) = subst (λ (n : Inner). c.args.count < length n.entries) (sym c.self.view_is) c.requires.left in
    let k = cut_node b.version b.level b.low b.right b.high b.entries.items c.args.count c.self.invariant c.requires.some short in
    let back = c.in_ok-front.ensures.back ∙ ap (λ (bs : List ℕ). spelled (drop c.args.count (items_of plain_entry bs))) c.as_slice.ensures.value in
    rw c.as_slice-2.ensures.value (right_whole b.version b.level b.low b.right b.high b.entries.items c.args.count c.self.invariant k c.in_ok-front.back.items back)

pub invariant_of-left : goal.invariant_of-left
invariant_of-left c =
    let b = c.self.inside in
    let short : c.args.count < length (items_of plain_entry b.entries.items) = subst (λ (n : Inner). c.args.count < length n.entries) (sym c.self.view_is) c.requires.left in
    let k = cut_node b.version b.level b.low b.right b.high b.entries.items c.args.count c.self.invariant c.requires.some short in
    let front = c.in_ok-front.ensures.front ∙ ap (λ (bs : List ℕ). spelled (take c.args.count (items_of plain_entry bs))) c.as_slice.ensures.value in
    let back = c.in_ok-front.ensures.back ∙ ap (λ (bs : List ℕ). spelled (drop c.args.count (items_of plain_entry bs))) c.as_slice.ensures.value in
    let low = c.first_low-low.ensures ∙ ap (λ (bs : List ℕ). unwrap_or (first_low_of (items_of plain_entry bs)) []) c.as_slice-2.ensures.value in
    let key = cut_low b.low b.high c.args.count (items_of plain_entry b.entries.items) c.in_ok-front.back.items c.first_low-low.result.now k back low in
    left_parts b.version b.level b.low b.right b.high b.entries.items c.args.count c.self.invariant k c.get-number.result c.in_ok-high.high c.in_ok-front.front.items (omega arith) (omega arith) (c.in_ok-high.ensures ∙ key) front

pub invariant_of-right : goal.invariant_of-right
invariant_of-right c =
    let b = c.self.inside in
    let short : c.args.count < length (items_of plain_entry b.entries.items) = subst (λ (n : Inner). c.args.count < length n.entries) (sym c.self.view_is) c.requires.left in
    let k = cut_node b.version b.level b.low b.right b.high b.entries.items c.args.count c.self.invariant c.requires.some short in
    let back = c.in_ok-front.ensures.back ∙ ap (λ (bs : List ℕ). spelled (drop c.args.count (items_of plain_entry bs))) c.as_slice.ensures.value in
    let low = c.first_low-low.ensures ∙ ap (λ (bs : List ℕ). unwrap_or (first_low_of (items_of plain_entry bs)) []) c.as_slice-2.ensures.value in
    let key = cut_low b.low b.high c.args.count (items_of plain_entry b.entries.items) c.in_ok-front.back.items c.first_low-low.result.now k back low in
    right_parts b.version b.level b.low b.right b.high b.entries.items c.args.count c.self.invariant k c.in_ok-low.low c.in_ok-front.back.items (c.in_ok-low.ensures ∙ key) back

pub returns-clause-left : goal.returns-clause-left
returns-clause-left c =
    let b = c.self.inside in
    let short : c.args.count < length (items_of plain_entry b.entries.items) = subst (λ (n : Inner). c.args.count < length n.entries) (sym c.self.view_is) c.requires.left in
    let k = cut_node b.version b.level b.low b.right b.high b.entries.items c.args.count c.self.invariant c.requires.some short in
    let front = c.in_ok-front.ensures.front ∙ ap (λ (bs : List ℕ). spelled (take c.args.count (items_of plain_entry bs))) c.as_slice.ensures.value in
    let back = c.in_ok-front.ensures.back ∙ ap (λ (bs : List ℕ). spelled (drop c.args.count (items_of plain_entry bs))) c.as_slice.ensures.value in
    let low = c.first_low-low.ensures ∙ ap (λ (bs : List ℕ). unwrap_or (first_low_of (items_of plain_entry bs)) []) c.as_slice-2.ensures.value in
    let key = cut_low b.low b.high c.args.count (items_of plain_entry b.entries.items) c.in_ok-front.back.items c.first_low-low.result.now k back low in
    let old : Inner = inner_in b.version b.level b.low b.right b.high b.entries.items in
    left_is b.version b.level b.low b.right b.high b.entries.items c.args.count c.self.invariant k c.get-number.result c.in_ok-high.high c.in_ok-front.front.items (c.in_ok-high.ensures ∙ key) front
    ∙ ap (λ (p : ℕ). left_node c.args.count p old) c.get-number.ensures.number ∙ ap (left_node c.args.count c.args.right) c.self.view_is

pub returns-clause-right : goal.returns-clause-right
returns-clause-right c =
    let b = c.self.inside in
    let short : c.args.count < length (items_of plain_entry b.entries.items) = subst (λ (n : Inner). c.args.count < length n.entries) (sym c.self.view_is) c.requires.left in
    let k = cut_node b.version b.level b.low b.right b.high b.entries.items c.args.count c.self.invariant c.requires.some short in
    let back = c.in_ok-front.ensures.back ∙ ap (λ (bs : List ℕ). spelled (drop c.args.count (items_of plain_entry bs))) c.as_slice.ensures.value in
    let low = c.first_low-low.ensures ∙ ap (λ (bs : List ℕ). unwrap_or (first_low_of (items_of plain_entry bs)) []) c.as_slice-2.ensures.value in
    let key = cut_low b.low b.high c.args.count (items_of plain_entry b.entries.items) c.in_ok-front.back.items c.first_low-low.result.now k back low in
    right_is b.version b.level b.low b.right b.high b.entries.items c.args.count c.self.invariant k c.in_ok-low.low c.in_ok-front.back.items (c.in_ok-low.ensures ∙ key) back ∙ ap (right_node c.args.count) c.self.view_is
