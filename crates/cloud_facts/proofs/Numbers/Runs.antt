-- The items of a run are committed records: which one an item is, and how far a run leads.
use Rattle.std.proofs.Common.{◌≡◌, ◌+◌, ◌<◌, ◌≤◌, ℕ, suc, List, [], ◌∷◌, count_by, max, refl, sym, ap, subst, ◌∙◌, Bool, true, false, cond, ◌==◌, arith, eqb, eqb-true}
use Rattle.std.proofs.lemmas.Bool.{and_parts}
use Rattle.std.proofs.lemmas.List.Sums.{sum_by-cons}
use Rattle.db_base.specs.Change.{key_of}
use Rattle.leaf_edit.specs.Raised.{greatest_of}
use Rattle.cloud_facts.specs.Words.{AtomicRec, PuItem, Store, IsIn}
use Rattle.log_codec.specs.declared.record.PuRec.{PuRec}
use Rattle.route_plan.specs.Record.{pu_record_of}
use Rattle.run_cursor.specs.Run.{is_at}
use Rattle.cloud_facts.specs.Book.Premises.{IsItemOf, IsConsecutive}
use Rattle.cloud_facts.specs.Book.Records.{key_in, count_of}
use Rattle.cloud_facts.proofs.Numbers.Queues.{InOrder, IsOfQueue, number_within, record_determined}

-- ---- what is counted is there

pub counted_there : {X : Type 0} (p : X → Bool) (xs : List X) → 1 ≤ count_by p xs → (x : X) × IsIn xs x × (p x ≡ true)
counted_there p [] some = absurd (omega (arith, some))
counted_there {X = X} p (x ∷ xs) some = on (p x) refl (subst (λ n. 1 ≤ n) (sum_by-cons (λ z. cond (p z) 1 0) x xs) some) (λ rest. counted_there p xs rest)
  where
    on : (b : Bool) → p x ≡ b → 1 ≤ cond b 1 0 + count_by p xs → (1 ≤ count_by p xs → (y : X) × IsIn xs y × (p y ≡ true))
        → (y : X) × IsIn (x ∷ xs) y × (p y ≡ true)
    on true e more again = (x, (0, refl), e)
    on false e more again = let rest = again (omega (arith, more)) in (rest.0, (suc rest.1.0, rest.1.1), rest.2)

-- ---- the greatest number

-- where each number of the client in a run is at most this, the greatest is
pub greatest_upto : (client most : ℕ) (run : List PuItem) → ((x : PuItem) → IsIn run x → x.rec.client ≡ client → x.rec.number ≤ most) → greatest_of run client ≤ most
greatest_upto client most [] all = omega arith
greatest_upto client most (x ∷ xs) all = on (eqb x.rec.client client) refl (greatest_upto client most xs (λ y is own. all y (suc is.0, is.1) own))
  where
    on : (b : Bool) → eqb x.rec.client client ≡ b → greatest_of xs client ≤ most → max (cond b x.rec.number 0) (greatest_of xs client) ≤ most
    on true e again = omega (arith, all x (0, refl) (eqb-true x.rec.client client e), again)
    on false e again = omega (arith, again)

module _ (st : Store) (tree queue : ℕ) where
  -- an item's record
  pub item_client : (x : PuItem) (i : IsItemOf st tree queue x) → i.of.client ≡ x.rec.client
  item_client x i = sym (ap (λ (p : PuRec). p.client) i.rec_is)

  pub item_number : (x : PuItem) (i : IsItemOf st tree queue x) → i.of.number ≡ x.rec.number
  item_number x i = sym (ap (λ (p : PuRec). p.number) i.rec_is)

  pub item_key : (x : PuItem) (i : IsItemOf st tree queue x) → key_in i.of ≡ key_of x.rec.change
  item_key x i = sym (ap (λ (p : PuRec). key_of p.change) i.rec_is)

  pub item_queue : (x : PuItem) (i : IsItemOf st tree queue x) → IsOfQueue tree queue x.rec.client i.of
  item_queue x i = record { client_is = item_client x i; tree_is = i.tree_is; page_is = i.page_is }

  -- an item has no number above the count of its queue
  pub item_within : InOrder st.book.log → (x : PuItem) (i : IsItemOf st tree queue x) → x.rec.number ≤ count_of tree queue x.rec.client st.book.log
  item_within in_order x i =
      let within : i.of.number ≤ count_of i.of.tree i.of.page i.of.client st.book.log = number_within st.book.log in_order i.of i.logged in
      let same : count_of i.of.tree i.of.page i.of.client st.book.log ≡ count_of tree queue x.rec.client st.book.log =
      ap (λ t. count_of t i.of.page i.of.client st.book.log) i.tree_is
      ∙ (ap (λ p. count_of tree p i.of.client st.book.log) i.page_is ∙ ap (λ c. count_of tree queue c st.book.log) (item_client x i)) in
      let number = item_number x i in
      omega (arith, within, same, number)

  pub run_within : InOrder st.book.log → (run : List PuItem) → ((x : PuItem) → IsIn run x → IsItemOf st tree queue x) → (client : ℕ)
      → greatest_of run client ≤ count_of tree queue client st.book.log
  run_within in_order run items client =
      greatest_upto client (count_of tree queue client st.book.log) run
      (λ x is own. subst (λ c. x.rec.number ≤ count_of tree queue c st.book.log) own (item_within in_order x (items x is)))

  -- the item that a record of the queue has in a run
  pub record HasItem (run : List PuItem) (r : AtomicRec) : Type 0 where
    pub item : PuItem
    pub there : IsIn run item
    pub rec_is : item.rec ≡ pu_record_of r

  -- each record above what the run begins behind and up to the client's greatest number has an item in it
  pub run_has : InOrder st.book.log → (run : List PuItem) → ((x : PuItem) → IsIn run x → IsItemOf st tree queue x) → (client from : ℕ)
      → IsConsecutive st tree queue run client from → (r : AtomicRec) → IsIn st.book.log r → IsOfQueue tree queue client r
      → from < r.number → r.number ≤ greatest_of run client → HasItem run r
  run_has in_order run items client from c r logged is above most =
      let one = c.each r.number above most in
      let found = counted_there (is_at client r.number) run (omega (arith, one)) in
      let parts = and_parts (found.0.rec.client == client) (found.0.rec.number == r.number) found.2 in
      let item = items found.0 found.1 in
      let own : item.of.client ≡ client = item_client found.0 item ∙ eqb-true found.0.rec.client client parts.0 in
      let number : item.of.number ≡ r.number = item_number found.0 item ∙ eqb-true found.0.rec.number r.number parts.1 in
      let queue_is : IsOfQueue r.tree r.page r.client item.of = record {
        client_is = own ∙ sym is.client_is;
        tree_is = item.tree_is ∙ sym is.tree_is;
        page_is = item.page_is ∙ sym is.page_is;
      } in
      let same : item.of ≡ r = record_determined st.book.log in_order item.of r item.logged logged queue_is number in
      record { item = found.0; there = found.1; rec_is = item.rec_is ∙ ap pu_record_of same }
