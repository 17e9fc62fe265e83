use Rattle.std.proofs.Common.{◌≡◌, ◌++◌, true, false, sym, ap, ◌∙◌, List, ℕ}
use Rattle.byte_format.specs.Order.{bytes_below, bytes_same}
use Rattle.node_codec.specs.Node.{plain_entry, entry_bytes}
use Rattle.node_codec.specs.Plain.{items_of}
use Rattle.node_codec.proofs.NodeLemmas.{plain_entry_exact}
use Rattle.node_codec.proofs.PlainLemmas.{whole_list_is, whole_behind}
use Rattle.node_codec.proofs.EntryLemmas.{added_here, added_there, added_goes_on, here_before, here_last}
use Rattle.node_codec.proofs.entry_list.add_one_more.Goals as goal

pub returns-then-is_below : goal.returns-then-is_below
returns-then-is_below c =
    let e = c.in-Some.entry in
    let left = items_of plain_entry c.entries.rest.now in
    let below : bytes_below c.args.low.now e.0 ≡ true = ap (bytes_below c.args.low.now) (sym c.low-next.ensures.value) ∙ sym c.is_below.ensures ∙ c.if-is_below.true in
    added_here c.args.low.now c.args.page (items_of plain_entry c.args.entries.now) c.entries.out.items c.entries.rest.now c.push_last.new.out.items left c.entries.invariant.2
    (here_before c.args.low.now c.args.page left e (items_of plain_entry c.in-Some.behind.now) c.in-Some.ensures.items below)
    (whole_list_is plain_entry plain_entry_exact c.entries.rest.now c.entries.invariant.0 c.entries.invariant.1) c.in_ok-push_last.ensures

pub returns-then-is_same : goal.returns-then-is_same
returns-then-is_same c =
    let e = c.in-Some.entry in
    let left = items_of plain_entry c.entries.rest.now in
    let below : bytes_below c.args.low.now e.0 ≡ false = ap (bytes_below c.args.low.now) (sym c.low-next.ensures.value) ∙ sym c.is_below.ensures ∙ c.if-is_below.false in
    let same : bytes_same c.args.low.now e.0 ≡ true = ap (bytes_same c.args.low.now) (sym c.low-next.ensures.value) ∙ sym c.is_same.ensures ∙ c.if-is_same.true in
    added_there c.args.low.now c.args.page (items_of plain_entry c.args.entries.now) c.entries.out.items c.entries.rest.now c.try_add.new.out.items left e (items_of plain_entry c.in-Some.behind.now) c.entries.invariant.2
    c.in-Some.ensures.items below same (whole_list_is plain_entry plain_entry_exact c.entries.rest.now c.entries.invariant.0 c.entries.invariant.1) c.in_ok-try_add.ensures

pub entries-preserved : goal.entries-preserved
entries-preserved c =
    let e = c.in-Some.entry in
    let left = items_of plain_entry c.entries.rest.now in
    let below : bytes_below c.args.low.now e.0 ≡ false = ap (bytes_below c.args.low.now) (sym c.low-next.ensures.value) ∙ sym c.is_below.ensures ∙ c.if-is_below.false in
    let same : bytes_same c.args.low.now e.0 ≡ false = ap (bytes_same c.args.low.now) (sym c.low-next.ensures.value) ∙ sym c.is_same.ensures ∙ c.if-is_same.false in
    let written : c.push_entry.new.out.items ≡ c.entries.out.items ++ entry_bytes e.0 e.1 =
    c.in_ok-push_entry.ensures ∙ ap (λ (low : List ℕ). c.entries.out.items ++ entry_bytes low c.get.result) c.low-next.ensures.value ∙ ap (λ (page : ℕ). c.entries.out.items ++ entry_bytes e.0 page) (c.get.ensures.number ∙ c.page.ensures) in (
      c.in-Some.ensures.fits,
      whole_behind plain_entry c.entries.rest.now e c.in-Some.behind.now c.entries.invariant.1 c.in-Some.ensures,
      added_goes_on c.args.low.now c.args.page (items_of plain_entry c.args.entries.now) c.entries.out.items c.push_entry.new.out.items left e (items_of plain_entry c.in-Some.behind.now) c.entries.invariant.2 c.in-Some.ensures.items below same written,
    )

pub returns : goal.returns
returns c =
    let left = items_of plain_entry c.entries.rest.now in
    added_here c.args.low.now c.args.page (items_of plain_entry c.args.entries.now) c.entries.out.items c.entries.rest.now c.push_last-2.new.out.items left c.entries.invariant.2
    (here_last c.args.low.now c.args.page left c.in_default.ensures) (whole_list_is plain_entry plain_entry_exact c.entries.rest.now c.entries.invariant.0 c.entries.invariant.1) c.in_ok-push_last-2.ensures
