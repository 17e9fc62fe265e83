-- Of the records that the newest head of a client counts none is missing in its ATOMIC queue.
use Rattle.std.proofs.Common.{◌≡◌, ◌≢◌, ◌+◌, ◌-◌, ◌<◌, ◌≤◌, ◌==◌, ◌&&◌, ◌||◌, ℕ, Bool, true, false, cond, eqb, eqb-true, List, [], ◌∷◌, length, map, filter, Option, Some, None, refl, sym, ap, subst, ◌∙◌, arith}
use Rattle.std.specs.List.{AllByRecursion, IsDistinct, list_any}
use Rattle.std.proofs.lemmas.Bool.{and_parts, and_from, eq-eqb, ne_eqb}
use Rattle.std.proofs.lemmas.List.{length-map}
use Rattle.std.proofs.lemmas.Map.Keys.{IsDistinct-cons}
use Rattle.std.proofs.lemmas.Map.Steps.{length-le_from_distinct_below}
use Rattle.cloud_trait.specs.Delivery.{WasSent, unmarked}
use Rattle.cloud_trait.specs.declared.message.Message.{Message}
use Rattle.cloud_facts.specs.Words.{IsClient, AtomicRec, Head, Posted, Store, StandsAt}
use Rattle.head_codec.specs.declared.head.Phase.{Phase}
use Rattle.head_codec.specs.declared.head.Phase.TheVariants.{Settled, Open}
use Rattle.log_codec.proofs.AtomicLaws.{atomic_of-some}
use Rattle.log_codec.specs.Atomic.{atomic_of}
use Rattle.cloud_facts.specs.Book.Records.{under_way}
use Rattle.cloud_facts.specs.Lefts.Left.{IsWayAt, HasWay, AreLogged, Leaves}
use Rattle.cloud_facts.proofs.Lefts.Ways.{of_ways}
use Rattle.cloud_facts.proofs.Numbers.Ways.{is_way, way_epoch, way_txn}
use Rattle.session_facts.proofs.Machines.Openings.Messages.{sent_message}
use Rattle.session_facts.proofs.Machines.Openings.Sends.{there_at}
use Rattle.session_facts.proofs.Machines.Openings.Unmarked.{IsAscending, unmarked_ascend, ascending_others, unmarked_any}
use Rattle.recover_run.specs.declared.wanted.Wanted.{Wanted}
use Rattle.recover_run.specs.Emptying.{IsUptoEpoch, HasNoLater}
use Rattle.recover_run.specs.Gathering.{count_of, wanted_of, is_of}
use Rattle.recover_run.specs.Missing.{IsComplete, is_of_head, is_of_some, is_indexed, is_indexed_some}
use Rattle.recover_run.proofs.Finding.{unmarked_sent}
use Rattle.recover_run.proofs.KeptRecords.{all_so}

-- ---- fewer than a receive brings are of one transaction

-- the index of a message's record
abbrev index_of : Option AtomicRec → ℕ
index_of (Some r) = r.index
index_of None = 0

abbrev index_in : Message → ℕ
index_in m = index_of (atomic_of m.bytes)

index_low : (m : Message) → index_in m < 201
index_low m = on (atomic_of m.bytes) refl
  where
    on : (o : Option AtomicRec) → atomic_of m.bytes ≡ o → index_of o < 201
    on (Some r) e = let p = (atomic_of-some m.bytes r e).0.position in omega (arith, p.within, p.few)
    on None e = omega arith

indices_low : (ms : List Message) (q : ℕ) → list_any (eqb q) (map index_in ms) ≡ true → q < 201
indices_low [] q e = absurd (cc)
indices_low (m ∷ ms) q e = on (eqb q (index_in m)) refl e (λ h. indices_low ms q h)
  where
    on : (b : Bool) → eqb q (index_in m) ≡ b → (b || list_any (eqb q) (map index_in ms)) ≡ true → (list_any (eqb q) (map index_in ms) ≡ true → q < 201) → q < 201
    on true same h rest = let low = index_low m in let is : q ≡ index_in m = eqb-true q (index_in m) same in omega (arith, low, is)
    on false other h rest = rest h

module _ (st : Store) (client : ℕ) (w : Wanted) (logged : AreLogged st client) where
  abbrev ms : List Posted
  ms = st.tally.logged client

  -- two messages of the transaction whose indices agree are one
  one_index : (x y : Message) → WasSent ms x → WasSent ms y → is_of_head w x ≡ true → is_of_head w y ≡ true → index_in x ≡ index_in y → x.id ≡ y.id
  one_index x y was_x was_y of_x of_y same = on (atomic_of x.bytes) (atomic_of y.bytes) refl refl of_x of_y same
    where
      on : (a b : Option AtomicRec) → atomic_of x.bytes ≡ a → atomic_of y.bytes ≡ b → is_of_some w a ≡ true → is_of_some w b ≡ true → index_of a ≡ index_of b → x.id ≡ y.id
      on (Some a) (Some b) e f of_a of_b i =
          let pa = and_parts (a.epoch == w.epoch) (a.txn == w.txn) of_a in
          let pb = and_parts (b.epoch == w.epoch) (b.txn == w.txn) of_b in
          logged.distinct x.id y.id a b (sent_message ms x a was_x e) (sent_message ms y b was_y f)
          (eqb-true a.epoch w.epoch pa.0 ∙ sym (eqb-true b.epoch w.epoch pb.0)) (eqb-true a.txn w.txn pa.1 ∙ sym (eqb-true b.txn w.txn pb.1)) i
      on (Some a) None e f of_a of_b i = absurd (cc)
      on None b e f of_a of_b i = absurd (cc)

  -- the indices of those behind a message are others
  other_indices : (x : Message) → WasSent ms x → is_of_head w x ≡ true → (ys : List Message) → AllByRecursion (WasSent ms) ys → AllByRecursion (λ (y : Message). y.id ≢ x.id) ys
      → AllByRecursion (λ k. eqb (index_in x) k ≡ false) (map index_in (filter (is_of_head w) ys))
  other_indices x was of_x [] sent apart = tt
  other_indices x was of_x (y ∷ ys) sent apart = on (is_of_head w y) refl (other_indices x was of_x ys sent.1 apart.1)
    where
      on : (b : Bool) → is_of_head w y ≡ b → AllByRecursion (λ k. eqb (index_in x) k ≡ false) (map index_in (filter (is_of_head w) ys))
          → AllByRecursion (λ k. eqb (index_in x) k ≡ false) (map index_in (cond b (y ∷ filter (is_of_head w) ys) (filter (is_of_head w) ys)))
      on true of_y rest = (ne_eqb (index_in x) (index_in y) (λ same. apart.0 (sym (one_index x y was sent.0 of_x of_y same))), rest)
      on false other rest = rest

  indices_apart : (n : ℕ) (xs : List Message) → AllByRecursion (WasSent ms) xs → IsAscending n xs → IsDistinct eqb (map index_in (filter (is_of_head w) xs))
  unfolding IsDistinct
  indices_apart n [] sent up = tt
  indices_apart n (x ∷ xs) sent up = on (is_of_head w x) refl (indices_apart (x.id + 1) xs sent.1 up.1)
    where
      on : (b : Bool) → is_of_head w x ≡ b → IsDistinct eqb (map index_in (filter (is_of_head w) xs))
          → IsDistinct eqb (map index_in (cond b (x ∷ filter (is_of_head w) xs) (filter (is_of_head w) xs)))
      on true of_x rest =
          IsDistinct-cons eqb (index_in x) (map index_in (filter (is_of_head w) xs))
          (other_indices x sent.0 of_x xs sent.1 (ascending_others (x.id + 1) x.id xs up.1 (omega arith))) rest
      on false other rest = rest

  few_of_head : length (filter (is_of_head w) (unmarked ms)) ≤ 255
  few_of_head =
      let short : length (map index_in (filter (is_of_head w) (unmarked ms))) ≤ 201 =
      length-le_from_distinct_below (map index_in (filter (is_of_head w) (unmarked ms))) 201 (indices_apart 1 (unmarked ms) (unmarked_sent ms) (unmarked_ascend 1 ms))
      (indices_low (filter (is_of_head w) (unmarked ms))) in
      omega (arith, short, length-map (filter (is_of_head w) (unmarked ms)) index_in)

-- ---- each record is there

module _ (st : Store) (client : ℕ) (h : Head) (leaves : Leaves st) (is : IsClient client) (newest : st.tally.head client ≡ h) where
  -- the record of an index
  indexed : (count n : ℕ) → h.phase ≡ Open count → 1 ≤ n → n ≤ count → list_any (is_indexed (wanted_of h) n) (unmarked (st.tally.logged client)) ≡ true
  indexed count n opens some within = at_way (ways.each (n - 1) way.0 way.1)
    where
      ways : HasWay st client count
      ways = leaves.ways client count is (ap (λ (k : Head). k.phase) newest ∙ opens)

      way : (r : AtomicRec) × StandsAt (under_way st.tally client st.book.log) (n - 1) r
      way = let whole = ways.length_is in there_at (under_way st.tally client st.book.log) (n - 1) (omega (arith, some, within, whole))

      under : is_way h way.0 ≡ true
      under = let own = of_ways st.tally client st.book.log (n - 1) way.0 way.1 in subst (λ (k : Head). is_way k way.0 ≡ true) (ap st.tally.head own.0 ∙ newest) own.1

      at_way : IsWayAt (st.tally.logged client) count (n - 1) way.0 → list_any (is_indexed (wanted_of h) n) (unmarked (st.tally.logged client)) ≡ true
      at_way w =
          unmarked_any (is_indexed (wanted_of h) n) 1 (st.tally.logged client) w.logged_is.place w.logged_is.message w.logged_is.there w.logged_is.unmarked
          (λ id. ap (is_indexed_some (wanted_of h) n) w.logged_is.reads ∙ passes w.index_is)
        where
          passes : way.0.index ≡ n - 1 + 1 → (is_of (wanted_of h) way.0 && (way.0.index == n)) ≡ true
          passes at =
              and_from (is_of (wanted_of h) way.0) (way.0.index == n)
              (and_from (way.0.epoch == h.epoch) (way.0.txn == h.txn) (eq-eqb way.0.epoch h.epoch (way_epoch h way.0 under)) (eq-eqb way.0.txn h.txn (way_txn h way.0 under)))
              (eq-eqb way.0.index n (omega (arith, at, some)))

  pub no_later : HasNoLater h.epoch (st.tally.logged client)
  no_later =
      all_so (WasSent (st.tally.logged client)) (IsUptoEpoch h.epoch)
      (λ m was rec e. subst (λ (k : Head). rec.epoch ≤ k.epoch) newest ((leaves.logged client is).early m.id rec (sent_message (st.tally.logged client) m rec was e)))
      (unmarked (st.tally.logged client)) (unmarked_sent (st.tally.logged client))

  pub none_missing : IsComplete (wanted_of h) (st.tally.logged client)
  none_missing = record {
    each = λ n some within. on h.phase refl n some within;
    past = no_later;
    few = few_of_head st client (wanted_of h) (leaves.logged client is);
  }
    where
      on : (p : Phase) → h.phase ≡ p → (n : ℕ) → 1 ≤ n → n ≤ count_of h.phase → list_any (is_indexed (wanted_of h) n) (unmarked (st.tally.logged client)) ≡ true
      on Settled e n some within = let none : count_of h.phase ≡ 0 = ap count_of e in absurd (omega (arith, some, within, none))
      on (Open count) e n some within = let is_count : count_of h.phase ≡ count = ap count_of e in indexed count n e some (omega (arith, within, is_count))
