use Rattle.std.proofs.Common.{◌≡◌, ◌++◌, List, ℕ, sym, ap, ◌∙◌}
use Rattle.std.specs.Ordering.{nat_cmp}
use Rattle.std.specs.BTreeMap.{insert_entry}
use Rattle.node_codec.specs.Node.{plain_number}
use Rattle.node_codec.specs.Plain.{items_of}
use Rattle.node_codec.proofs.NodeLemmas.{insert_next}
use Rattle.node_codec.proofs.client_number.cursor_of.Goals as goal

pub numbers-preserved : goal.numbers-preserved
numbers-preserved c =
    let first = c.in-Some.first in
    let rest = items_of plain_number c.in-Some.behind.now in
    let set : c.set.new.self ≡ insert_entry nat_cmp c.numbers.cursor first.0 first.1 = cc (c.in_ok-set.ensures.ok, c.client.ensures, c.number.ensures) in
    let whole : c.numbers.cursor ++ items_of plain_number c.numbers.rest.now ≡ items_of plain_number c.args.numbers.now = c.numbers.invariant.1 in (
      c.in-Some.ensures.list,
      ap (λ (xs : List (ℕ × ℕ)). xs ++ rest) set
          ∙ insert_next c.numbers.cursor first.0 first.1 rest (items_of plain_number c.args.numbers.now) c.requires.fits (ap (λ (xs : List (ℕ × ℕ)). c.numbers.cursor ++ xs) (sym c.in-Some.ensures.items) ∙ whole),
    )
