-- What a leaf lacks of a run: of a client and key the committed records of the queue behind what the leaf has, in the order of commit.
use Rattle.std.proofs.Common.{◌≡◌, ◌+◌, ◌-◌, ◌<◌, ◌≤◌, ℕ, zero, suc, Bool, true, false, cond, ◌==◌, ◌&&◌, max, List, ◌∷◌, map, take, drop, filter, find, count_by, Some, refl, sym, ap, ap₂, subst, ◌∙◌, arith, eq-eqb, eqb-true}
use Rattle.std.specs.Prelude.{nat_lt}
use Rattle.std.specs.Str.{bytes_eq}
use Rattle.std.proofs.lemmas.Bool.{and_parts, and_from, ltb-true, lt-ltb}
use Rattle.std.proofs.lemmas.Slice.Eq.{bytes_eq-Decides}
use Rattle.db_base.specs.Change.{key_of}
use Rattle.leaf_edit.specs.Raised.{greatest_of}
use Rattle.cloud_facts.specs.Words.{Entry, AtomicRec, PuItem, Store, StandsAt}
use Rattle.log_codec.specs.declared.record.PuRec.{PuRec}
use Rattle.route_plan.specs.Record.{pu_record_of}
use Rattle.run_cursor.specs.Run.{is_at}
use Rattle.cloud_facts.specs.Book.Effects.{Taking, is_lacking, lacking, taken_entry, taken_entries}
use Rattle.cloud_facts.specs.Book.Premises.{IsItemOf, IsConsecutive, Takes}
use Rattle.cloud_facts.specs.Book.Records.{key_in, of_queue, entry_of, entries_of}
use Rattle.cloud_facts.specs.Numbers.Numbers.{Numbers}
use Rattle.cloud_facts.proofs.Numbers.Lists.{filter_agree}
use Rattle.cloud_facts.proofs.Numbers.Queues.{IsOfQueue, seat}
use Rattle.cloud_facts.proofs.Numbers.Runs.{item_key, item_number, item_queue}
use Rattle.cloud_facts.specs.Orders.Order.{is_entry_of, entries_of_key}
use Rattle.cloud_facts.proofs.Orders.Behind.{is_behind, none-behind, rise-sorted, AtNext, at-next, behind-next}
use Rattle.cloud_facts.proofs.Orders.Filters.{filter-map, filter-twice, same_test, take-next, found, found_in, found_passes}

-- whether a record has a key
abbrev pub has_key : List ℕ → AtomicRec → Bool
has_key key r = bytes_eq (key_in r) key

-- the client's records of the queue that have the key, of the next so many behind a number
abbrev pub window : Store → ℕ → ℕ → ℕ → List ℕ → ℕ → ℕ → List AtomicRec
window st tree queue client key k n = filter (has_key key) (take k (drop n (of_queue tree queue client st.book.log)))

-- the entry of a record of a tree's queue
abbrev entry_with : PuRec → ℕ → Entry
entry_with rec tree = record { client = rec.client; epoch = rec.epoch; txn = rec.txn; tree = tree; change = rec.change }

-- one more item is one more entry
joined : (tree : ℕ) (x : PuItem) (r : AtomicRec) (ys : List PuItem) (rs : List AtomicRec) (b : Bool) → taken_entry tree x ≡ entry_of r
    → map (taken_entry tree) ys ≡ entries_of rs → map (taken_entry tree) (cond b (x ∷ ys) ys) ≡ entries_of (cond b (r ∷ rs) rs)
joined tree x r ys rs true same again = ap₂ (λ a l. a ∷ l) same again
joined tree x r ys rs false same again = again

module _ (st : Store) (p : Taking) (n : Numbers st) (t : Takes st p) (client : ℕ) (key : List ℕ) (from : ℕ) (c : IsConsecutive st p.tree p.queue p.run client from) where
  -- an item's entry is that of its record
  entry_is : (x : PuItem) (i : IsItemOf st p.tree p.queue x) → taken_entry p.tree x ≡ entry_of i.of
  entry_is x i = ap (λ (rec : PuRec). entry_with rec p.tree) i.rec_is ∙ ap (λ a. entry_with (pu_record_of i.of) a) (sym i.tree_is)

  step : (k m : ℕ) (x : PuItem) → count_by (is_at client (m + 1)) p.run ≡ 1 → find (is_at client (m + 1)) p.run ≡ Some x
      → map (taken_entry p.tree) (filter (is_behind client key (m + 1)) p.run) ≡ entries_of (window st p.tree p.queue client key k (m + 1))
      → map (taken_entry p.tree) (filter (is_behind client key m) p.run) ≡ entries_of (window st p.tree p.queue client key (suc k) m)
  step k m x one is again =
      ap (λ ys. map (taken_entry p.tree) ys) (behind-next client key m p.run x (rise-sorted p.run t.sorted) one is)
      ∙ (joined p.tree x i.of (filter (is_behind client key (m + 1)) p.run) rest (bytes_eq (key_of x.rec.change) key) (entry_is x i) again
      ∙ (ap (λ a. entries_of (cond (bytes_eq a key) (i.of ∷ rest) rest)) (sym (item_key st p.tree p.queue x i))
      ∙ sym (ap (λ rs. entries_of (filter (has_key key) rs)) (take-next queue m k i.of there))))
    where
      queue : List AtomicRec
      queue = of_queue p.tree p.queue client st.book.log

      rest : List AtomicRec
      rest = window st p.tree p.queue client key k (m + 1)

      i : IsItemOf st p.tree p.queue x
      i = t.items x (found_in (is_at client (m + 1)) p.run x is)

      next : AtNext client key m x
      next = at-next client key m x (found_passes (is_at client (m + 1)) p.run x is)

      there : StandsAt queue m i.of
      there =
          let s = seat st.book.log n.in_order p.tree p.queue client i.of i.logged (subst (λ a. IsOfQueue p.tree p.queue a i.of) next.own (item_queue st p.tree p.queue x i)) in
          let own = item_number st p.tree p.queue x i in
          let number = next.at in
          let place : s.place ≡ m = omega (arith, own, number, s.number_is) in
          subst (λ j. StandsAt queue j i.of) place s.there

  behind : (k m : ℕ) → from ≤ m → greatest_of p.run client - m ≡ k
      → map (taken_entry p.tree) (filter (is_behind client key m) p.run) ≡ entries_of (window st p.tree p.queue client key k m)
  behind zero m above left = ap (λ ys. map (taken_entry p.tree) ys) (none-behind client key m p.run (omega (arith, left)))
  behind (suc k) m above left =
      let one = c.each (m + 1) (omega (arith, above)) (omega (arith, left)) in
      let at = found (is_at client (m + 1)) p.run (omega (arith, one)) in
      step k m at.0 one at.1 (behind k (m + 1) (omega (arith, above)) (omega (arith, left)))

  -- an item is lacked and of the client and key where it is behind that number
  lacks : p.range key ≡ true → (i : ℕ) (x : PuItem) → StandsAt p.run i x
      → (is_lacking st.tally p x && is_entry_of p.tree key client (taken_entry p.tree x)) ≡ is_behind client key (max (st.tally.done p.tree key p.queue client) from) x
  lacks inside i x at = same_test (is_lacking st.tally p x && is_entry_of p.tree key client (taken_entry p.tree x)) (is_behind client key first x) there back
    where
      own : Bool
      own = x.rec.client == client

      has : Bool
      has = bytes_eq (key_of x.rec.change) key

      first : ℕ
      first = max (st.tally.done p.tree key p.queue client) from

      done : ℕ
      done = st.tally.done p.tree (key_of x.rec.change) p.queue x.rec.client

      same_done : key_of x.rec.change ≡ key → x.rec.client ≡ client → done ≡ st.tally.done p.tree key p.queue client
      same_done k e = ap (λ a. st.tally.done p.tree a p.queue x.rec.client) k ∙ ap (λ a. st.tally.done p.tree key p.queue a) e

      there : (is_lacking st.tally p x && is_entry_of p.tree key client (taken_entry p.tree x)) ≡ true → is_behind client key first x ≡ true
      there h =
          let both = and_parts (is_lacking st.tally p x) (is_entry_of p.tree key client (taken_entry p.tree x)) h in
          let lacked = and_parts (p.range (key_of x.rec.change)) (nat_lt done x.rec.number) both.0 in
          let entry = and_parts (own && (p.tree == p.tree)) has both.1 in
          let mine = and_parts own (p.tree == p.tree) entry.0 in
          let client_is : x.rec.client ≡ client = eqb-true x.rec.client client mine.0 in
          let above = ltb-true done x.rec.number lacked.1 in
          let past = c.above x (i, at) client_is in
          let same = same_done ((bytes_eq-Decides (key_of x.rec.change) key).0 entry.1) client_is in
          and_from own (has && nat_lt first x.rec.number) mine.0 (and_from has (nat_lt first x.rec.number) entry.1 (lt-ltb first x.rec.number (larger done (st.tally.done p.tree key p.queue client) from x.rec.number same above past)))
        where
          larger : (d e f x : ℕ) → d ≡ e → d < x → f < x → max e f < x
          larger d e f x same above past = omega (arith, same, above, past)

      back : is_behind client key first x ≡ true → (is_lacking st.tally p x && is_entry_of p.tree key client (taken_entry p.tree x)) ≡ true
      back h =
          let both = and_parts own (has && nat_lt first x.rec.number) h in
          let keyed = and_parts has (nat_lt first x.rec.number) both.1 in
          let key_is : key_of x.rec.change ≡ key = (bytes_eq-Decides (key_of x.rec.change) key).0 keyed.0 in
          let above = ltb-true first x.rec.number keyed.1 in
          let same = same_done key_is (eqb-true x.rec.client client both.0) in
          and_from (is_lacking st.tally p x) (is_entry_of p.tree key client (taken_entry p.tree x))
          (and_from (p.range (key_of x.rec.change)) (nat_lt done x.rec.number) (subst (λ a. p.range a ≡ true) (sym key_is) inside)
          (lt-ltb done x.rec.number (smaller done (st.tally.done p.tree key p.queue client) from x.rec.number same above)))
          (and_from (own && (p.tree == p.tree)) has (and_from own (p.tree == p.tree) both.0 (eq-eqb p.tree p.tree refl)) keyed.0)
        where
          smaller : (d e f x : ℕ) → d ≡ e → max e f < x → d < x
          smaller d e f x same above = omega (arith, same, above)

  -- the entries that the leaf takes of the client and key
  pub lacked_entries : p.range key ≡ true
      → entries_of_key p.tree key client (taken_entries st.tally p)
      ≡ entries_of (window st p.tree p.queue client key (greatest_of p.run client - max (st.tally.done p.tree key p.queue client) from) (max (st.tally.done p.tree key p.queue client) from))
  lacked_entries inside =
      let test : Entry → Bool = is_entry_of p.tree key client in
      let taken : PuItem → Entry = taken_entry p.tree in
      let upto : ℕ = max (st.tally.done p.tree key p.queue client) from in
      filter-map test taken (lacking st.tally p)
      ∙ (ap (λ ys. map taken ys)
      (filter-twice (λ x. test (taken x)) (is_lacking st.tally p) p.run
      ∙ filter_agree (λ x. is_lacking st.tally p x && test (taken x)) (is_behind client key upto) p.run (lacks inside))
      ∙ behind (greatest_of p.run client - upto) upto (omega arith) refl)
