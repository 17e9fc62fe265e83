-- Leaves, other pages and roots keep what holds of the copies: cursors only rise.
use Rattle.std.proofs.Common.{◌+◌, ◌≤◌, ℕ, List, refl, arith}
use Rattle.cloud_facts.specs.Words.{IsClient, Inner, Tree, CloudState, Link, Store, Node}
use Rattle.cloud_trait.specs.State.{IsEmptyCloud}
use Rattle.cloud_facts.specs.Copies.Copies.{IsCopy, Copies}
use Rattle.cloud_facts.specs.Numbers.Numbers.{Numbers}
use Rattle.cloud_facts.proofs.Numbers.Known.{cursor_unlinked}
use Rattle.cloud_facts.proofs.Book.Empty.{empty_store}
use Rattle.cloud_facts.proofs.Book.GrowthLemmas.{leaf_grows, cursor_grows}
use Rattle.cloud_facts.proofs.Book.Names.{at2_by}
use Rattle.cloud_facts.proofs.Book.Places.{in_none}
use Rattle.cloud_facts.specs.Book.Book.{empty_book}
use Rattle.cloud_facts.specs.Book.Effects.{Taking, after_leaf, after_page, after_inner, after_root, after_raise, after_removal}
use Rattle.cloud_facts.specs.Book.Growth.{Grows}
use Rattle.cloud_facts.specs.Book.Premises.{Takes, LandsFirst, CoversApplied}
use Rattle.cloud_facts.specs.Book.Telling.{tally_of, queue_of}

-- ---- leaves

pub leaf_keeps : (st : Store) (p : Taking) → Takes st p → Copies st → Copies (after_leaf p st)
leaf_keeps st p takes h = record {
  in_turn = h.in_turn;
  unmarked = λ tree page client number place is above first.
      h.unmarked tree page client number place is
      (let rises = grows.cursor tree page client is in omega (arith, rises, above)) first;
  ways = h.ways;
}
  where
    grows : Grows st (after_leaf p st)
    grows = leaf_grows st p takes.ranges.link (takes.ranges.place, takes.ranges.linked) takes.ranges.page_is

-- ---- other pages

-- a page that is in no chain had the cursor 0
pub page_keeps : (st : Store) (tree page : ℕ) (node : Node) (own : ℕ → ℕ) → LandsFirst st tree page own → Numbers st → Copies st
    → Copies (after_page tree page node own st)
page_keeps st tree page node own lands numbers h = record {
  in_turn = h.in_turn;
  unmarked = λ t p client number place is above first.
      h.unmarked t p client number place is (let rises = cursor t p client is in omega (arith, rises, above)) first;
  ways = h.ways;
}
  where
    cursor : (t p client : ℕ) → IsClient client → st.tally.cursor t p client ≤ (after_page tree page node own st).tally.cursor t p client
    cursor t p client is =
        at2_by (λ t p f. st.tally.cursor t p client ≤ f client) tree page own st.tally.cursor
        (let none = cursor_unlinked st numbers tree page client is lands.page_is (λ link there e. lands.unlinked 0 link there e) in omega (arith, none))
        (λ t p. omega arith) t p

pub inner_keeps : (st : Store) (tree page : ℕ) (inner : Inner) (pieces : List Link) → Copies st → Copies (after_inner tree page inner pieces st)
inner_keeps st tree page inner pieces h = record { in_turn = h.in_turn; unmarked = h.unmarked; ways = h.ways }

pub removal_keeps : (st : Store) (tree page : ℕ) → Copies st → Copies (after_removal tree page st)
removal_keeps st tree page h = record { in_turn = h.in_turn; unmarked = h.unmarked; ways = h.ways }

-- ---- roots

pub root_keeps : (st : Store) (tree : ℕ) (root : Tree) → CoversApplied st tree root → Copies st → Copies (after_root tree root st)
root_keeps st tree root covers h = record {
  in_turn = h.in_turn;
  unmarked = λ t p client number place is above first.
      h.unmarked t p client number place is (let rises = cursor_grows st tree root covers t p client is in omega (arith, rises, above)) first;
  ways = h.ways;
}

pub raise_keeps : (st : Store) (tree : ℕ) (root : Tree) (level : ℕ) (links : List Link) → CoversApplied st tree root → Copies st
    → Copies (after_raise tree root level links st)
raise_keeps st tree root level links covers h =
    let k = root_keeps st tree root covers h in
    record { in_turn = k.in_turn; unmarked = k.unmarked; ways = k.ways }

-- ---- the beginning

pub empty_copies : (s : CloudState) → IsEmptyCloud s → Copies (empty_store s)
empty_copies s empty = record {
  in_turn = λ tree page client number place some c. absurd (none tree page client (number + 1) place c);
  unmarked = λ tree page client number place is above first. absurd (none tree page client number place first.copy);
  ways = λ q r b copy. absurd (in_none empty_book.log q refl (b.i, b.one));
}
  where
    none : (tree page client number place : ℕ) → IsCopy ((tally_of empty_book s).posts tree page) client number place → ⊥
    none tree page client number place c = in_none ((tally_of empty_book s).posts tree page) c.message (empty.messages (queue_of tree page)) (place, c.there)
