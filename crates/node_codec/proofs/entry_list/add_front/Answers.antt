use Rattle.std.proofs.Common.{◌≡◌, ◌++◌, ◌-◌, suc, ap, ◌∙◌, List, ℕ, arith}
use Rattle.node_codec.specs.Node.{plain_entry, entry_bytes}
use Rattle.node_codec.specs.Plain.{items_of}
use Rattle.node_codec.proofs.NodeLemmas.{plain_entry_exact}
use Rattle.node_codec.proofs.PlainLemmas.{whole_list_is, whole_behind}
use Rattle.node_codec.proofs.EntryLemmas.{cut_goes_on, cut_done, cut_over, spelled}
use Rattle.node_codec.proofs.entry_list.add_front.Goals as goal

pub returns-then-left-eq0-clause-front : goal.returns-then-left-eq0-clause-front
returns-then-left-eq0-clause-front c =
    let left = items_of plain_entry c.entries.rest.now in
    c.in_ok-try_add_u8.ensures ∙ (cut_done c.args.count (items_of plain_entry c.args.entries.now) c.entries.front.items c.entries.left left c.entries.invariant.2 c.if-left-eq0.true).front

pub returns-then-left-eq0-clause-back : goal.returns-then-left-eq0-clause-back
returns-then-left-eq0-clause-back c =
    let left = items_of plain_entry c.entries.rest.now in
    whole_list_is plain_entry plain_entry_exact c.entries.rest.now c.entries.invariant.0 c.entries.invariant.1
    ∙ ap spelled (cut_done c.args.count (items_of plain_entry c.args.entries.now) c.entries.front.items c.entries.left left c.entries.invariant.2 c.if-left-eq0.true).back

pub entries-preserved : goal.entries-preserved
entries-preserved c =
    let e = c.in-Some.entry in
    let left = items_of plain_entry c.entries.rest.now in
    let written : c.push_entry.new.out.items ≡ c.entries.front.items ++ entry_bytes e.0 e.1 =
    c.in_ok-push_entry.ensures ∙ ap (λ (low : List ℕ). c.entries.front.items ++ entry_bytes low c.get.result) c.low.ensures.value ∙ ap (λ (page : ℕ). c.entries.front.items ++ entry_bytes e.0 page) (c.get.ensures.number ∙ c.page.ensures) in
    let count : c.entries.left ≡ suc (c.entries.left - 1) = omega arith in (
      c.in-Some.ensures.fits,
      whole_behind plain_entry c.entries.rest.now e c.in-Some.behind.now c.entries.invariant.1 c.in-Some.ensures,
      cut_goes_on c.args.count (items_of plain_entry c.args.entries.now) c.entries.front.items c.push_entry.new.out.items c.entries.left (c.entries.left - 1) left e (items_of plain_entry c.in-Some.behind.now) c.entries.invariant.2 c.in-Some.ensures.items count written,
    )

pub returns-clause-front : goal.returns-clause-front
returns-clause-front c =
    let left = items_of plain_entry c.entries.rest.now in
    c.in_ok-try_add_u8-2.ensures ∙ (cut_over c.args.count (items_of plain_entry c.args.entries.now) c.entries.front.items c.entries.left left c.entries.invariant.2 c.in_default.ensures).front

pub returns-clause-back : goal.returns-clause-back
returns-clause-back c =
    let left = items_of plain_entry c.entries.rest.now in
    whole_list_is plain_entry plain_entry_exact c.entries.rest.now c.entries.invariant.0 c.entries.invariant.1
    ∙ ap spelled (cut_over c.args.count (items_of plain_entry c.args.entries.now) c.entries.front.items c.entries.left left c.entries.invariant.2 c.in_default.ensures).back
