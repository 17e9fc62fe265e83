-- What follows from the numbers, for others to cite.
use Rattle.std.proofs.Common.{◌≡◌, ◌<◌, ◌≤◌, ◌⊎◌, ⊎_elim, inl, inr, ℕ, Bool, true, false, cond, ◌==◌, ◌&&◌, max, refl, sym, subst, arith, eqb-true}
use Rattle.std.proofs.lemmas.Bool.{and_parts, cases_lt}
use Rattle.cloud_facts.specs.Words.{IsClient, AtomicRec, Link, Store, IsIn}
use Rattle.leaf_edit.specs.Raised.{greatest_of}
use Rattle.cloud_facts.specs.Book.Effects.{Taking, after_leaf}
use Rattle.cloud_facts.specs.Book.Premises.{Takes}
use Rattle.cloud_facts.specs.Book.Records.{key_in, count_of, IsApplied}
use Rattle.cloud_facts.specs.Numbers.Numbers.{Numbers}
use Rattle.cloud_facts.proofs.Numbers.Kept.{never_routed}
use Rattle.cloud_facts.proofs.Numbers.Queues.{record_determined, number_within, number_some, number_taken, HasNumber}
use Rattle.cloud_facts.proofs.Numbers.Runs.{HasItem, run_has}

module _ (st : Store) (n : Numbers st) where
  -- a record of the log is determined by its queue, client and number
  pub record_is : (r q : AtomicRec) → IsIn st.book.log r → IsIn st.book.log q → r.tree ≡ q.tree → r.page ≡ q.page → r.client ≡ q.client → r.number ≡ q.number → r ≡ q
  record_is r q in_r in_q tree page client number =
      record_determined st.book.log n.in_order r q in_r in_q (record { client_is = client; tree_is = tree; page_is = page }) number

  -- numbers are from 1 to the count of their queue, and each of these is that of a record
  pub is_counted : (r : AtomicRec) → IsIn st.book.log r → (1 ≤ r.number) × (r.number ≤ count_of r.tree r.page r.client st.book.log)
  is_counted r logged = (number_some st.book.log n.in_order r logged, number_within st.book.log n.in_order r logged)

  pub has_number : (tree page client number : ℕ) → 1 ≤ number → number ≤ count_of tree page client st.book.log → HasNumber st.book.log tree page client number
  has_number tree page client number some most = number_taken st.book.log n.in_order tree page client number some most

  -- no record was ever routed to a page that is in no leaf chain
  pub none_unlinked : (tree page client : ℕ) → 1 < page → ((link : Link) → IsIn (st.book.chain tree 0) link → link.page ≡ page → ⊥)
      → count_of tree page client st.book.log ≡ 0
  none_unlinked tree page client above none =
      ⊎_elim
      (λ some. let r = has_number tree page client 1 (omega arith) some in
      absurd (never_routed st tree page above none r.of (n.placed r.of r.logged).routed r.is.tree_is r.is.page_is))
      (λ upto. omega (arith, upto)) (cases_lt 0 (count_of tree page client st.book.log))

  -- so its cursor is 0
  pub cursor_unlinked : (tree page client : ℕ) → IsClient client → 1 < page → ((link : Link) → IsIn (st.book.chain tree 0) link → link.page ≡ page → ⊥)
      → st.tally.cursor tree page client ≡ 0
  cursor_unlinked tree page client is above none =
      let within = n.cursor_within tree page client is in
      let nothing = none_unlinked tree page client above none in
      omega (arith, within, nothing)

  -- a record that a leaf applied was applied before, or is of the run's queue, has a key of the range and an item in the run
  pub record IsOfRun (p : Taking) (r : AtomicRec) : Type 0 where
    pub tree_is : r.tree ≡ p.tree
    pub page_is : r.page ≡ p.queue
    pub in_range : p.range (key_in r) ≡ true
    pub item : HasItem st p.tree p.queue p.run r

  pub newly_applied : (p : Taking) → Takes st p → (r : AtomicRec) → IsIn st.book.log r → IsApplied (after_leaf p st).tally r → IsApplied st.tally r ⊎ IsOfRun p r
  newly_applied p t r logged low = on (((r.tree == p.tree) && (r.page == p.queue)) && p.range (key_in r)) refl low
    where
      on : (b : Bool) → (((r.tree == p.tree) && (r.page == p.queue)) && p.range (key_in r)) ≡ b
          → r.number ≤ cond b (max (st.tally.done r.tree (key_in r) r.page r.client) (greatest_of p.run r.client)) (st.tally.done r.tree (key_in r) r.page r.client)
          → IsApplied st.tally r ⊎ IsOfRun p r
      on false e within = inl within
      on true e within =
          ⊎_elim
          (λ above. ⊎_elim (λ past. inr (run past above)) (λ covered. inl (n.covered r logged covered)) (cases_lt (st.tally.cursor r.tree r.page r.client) r.number))
          (λ below. inl below)
          (cases_lt (st.tally.done r.tree (key_in r) r.page r.client) r.number)
        where
          both : (((r.tree == p.tree) && (r.page == p.queue)) ≡ true) × (p.range (key_in r) ≡ true)
          both = and_parts ((r.tree == p.tree) && (r.page == p.queue)) (p.range (key_in r)) e

          tree_is : r.tree ≡ p.tree
          tree_is = eqb-true r.tree p.tree (and_parts (r.tree == p.tree) (r.page == p.queue) both.0).0

          page_is : r.page ≡ p.queue
          page_is = eqb-true r.page p.queue (and_parts (r.tree == p.tree) (r.page == p.queue) both.0).1

          run : st.tally.cursor r.tree r.page r.client < r.number → st.tally.done r.tree (key_in r) r.page r.client < r.number → IsOfRun p r
          run past above =
              let c = t.consecutive r.client (n.placed r logged).client in
              let covered : c.0 ≤ st.tally.cursor r.tree r.page r.client =
              subst (λ a. c.0 ≤ st.tally.cursor a r.page r.client) (sym tree_is) (subst (λ a. c.0 ≤ st.tally.cursor p.tree a r.client) (sym page_is) (c.1).covered) in
              record {
                tree_is = tree_is;
                page_is = page_is;
                in_range = both.1;
                item = run_has st p.tree p.queue n.in_order p.run t.items r.client c.0 c.1 r logged (record { client_is = refl; tree_is = tree_is; page_is = page_is })
                    (omega (arith, covered, past)) (omega (arith, within, above));
              }
