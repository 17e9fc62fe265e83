-- A head that lands: the numbers of the records that it adds to the log.
use Rattle.std.proofs.Common.{◌≡◌, ◌+◌, ◌≤◌, ℕ, List, [], ◌++◌, length, take, count_by, sym, ap, ap₂, subst, ◌∙◌, ◌⊎◌, inl, inr, false, cond, ◌==◌, ◌&&◌, arith, eq-eqb, eqb-true}
use Rattle.std.proofs.lemmas.Bool.{cond_both, and_left, eqb-false, ne_eqb}
use Rattle.std.proofs.lemmas.List.{map-append}
use Rattle.std.proofs.lemmas.List.Sums.{length-filter}
use Rattle.cloud_facts.specs.Words.{IsClient, Entry, AtomicRec, Head, Store, IsIn, StandsAt}
use Rattle.history.specs.Legal.{AreSame}
use Rattle.route_plan.specs.Queue.{number_of_queue}
use Rattle.route_plan.specs.Route.{goes_to}
use Rattle.cloud_facts.specs.Book.Effects.{after_head}
use Rattle.cloud_facts.specs.Book.Premises.{IsRouted, IsRecordAt, Opens, Settles, SettlesBehind}
use Rattle.cloud_facts.specs.Book.Records.{key_in, is_of_queue, of_queue, count_of, entry_of, entries_of}
use Rattle.cloud_facts.specs.Numbers.Numbers.{Numbers, IsUpto, IsOnce, IsOfRecord, IsPlaced}
use Rattle.cloud_facts.proofs.Book.Places.{get_cases}
use Rattle.cloud_facts.proofs.Numbers.Lists.{take_there, map_there, filter_there, filter_none, count_agree}
use Rattle.cloud_facts.proofs.Numbers.Routes.{routed_on}
use Rattle.cloud_facts.proofs.Numbers.Queues.{InOrder, queue_parts, of_queue-append, count_of-append, in_more}

-- what a head adds: records of its transaction, numbered behind those of the log, one for each tree and key
pub record Adds (st : Store) (client : ℕ) (head : Head) (more : List AtomicRec) : Type 0 where
  pub is_client : IsClient client
  pub records : (place : ℕ) (r : AtomicRec) → StandsAt more place r → IsRecordAt st client head more place r
  pub distinct : (i j : ℕ) (a b : AtomicRec) → StandsAt more i a → StandsAt more j b → a.tree ≡ b.tree → key_in a ≡ key_in b → i ≡ j
  pub counters : (tree page : ℕ) → number_of_queue head.counters tree page ≡ number_of_queue (st.tally.head client).counters tree page + count_by (goes_to tree page) more
  pub later : (r : AtomicRec) → IsUpto (st.tally.head client) r → IsUpto head r
  pub apart : (r : AtomicRec) → IsUpto (st.tally.head client) r → (place : ℕ) (q : AtomicRec) → StandsAt more place q → r.epoch ≡ q.epoch → r.txn ≡ q.txn → ⊥

-- ---- the new records of a queue

module _ (st : Store) (client : ℕ) (head : Head) (more : List AtomicRec) (adds : Adds st client head more) where
  -- the records before a place that go to a queue are the client's
  before : (tree page place : ℕ) → count_by (is_of_queue tree page client) (take place more) ≡ count_by (goes_to tree page) (take place more)
  before tree page place =
      count_agree (is_of_queue tree page client) (goes_to tree page) (take place more)
      (λ i r at. ap (λ b. b && goes_to tree page r) (eq-eqb r.client client (adds.records i r (take_there place more i r at)).client_is))

  new_count : (tree page : ℕ) → count_of tree page client more ≡ count_by (goes_to tree page) more
  new_count tree page =
      length-filter (is_of_queue tree page client) more
      ∙ count_agree (is_of_queue tree page client) (goes_to tree page) more
      (λ i r at. ap (λ b. b && goes_to tree page r) (eq-eqb r.client client (adds.records i r at).client_is))

  other_none : (tree page other : ℕ) → (other == client) ≡ false → of_queue tree page other more ≡ []
  other_none tree page other differ =
      filter_none (is_of_queue tree page other) more
      (λ i r at. and_left (r.client == other) (goes_to tree page r)
      (ne_eqb r.client other (λ same. eqb-false other client differ (sym same ∙ (adds.records i r at).client_is))))

  new_number : (tree page other k : ℕ) (r : AtomicRec) → StandsAt (of_queue tree page other more) k r → r.number ≡ count_of tree page other st.book.log + k + 1
  new_number tree page other k r at =
      let found = filter_there (is_of_queue tree page other) more k r at in
      let is = queue_parts tree page other r found.test in
      let new = adds.records found.place r found.there in
      let own : client ≡ other = sym new.client_is ∙ is.client_is in
      let counted : count_by (goes_to tree page) (take found.place more) ≡ k =
      sym (before tree page found.place) ∙ (ap (λ c. count_by (is_of_queue tree page c) (take found.place more)) own ∙ found.before) in
      let base : count_of r.tree r.page client st.book.log ≡ count_of tree page other st.book.log =
      ap (λ t. count_of t r.page client st.book.log) is.tree_is
      ∙ (ap (λ p. count_of tree p client st.book.log) is.page_is ∙ ap (λ c. count_of tree page c st.book.log) own) in
      let earlier : count_by (goes_to r.tree r.page) (take found.place more) ≡ k =
      ap (λ t. count_by (goes_to t r.page) (take found.place more)) is.tree_is
      ∙ (ap (λ p. count_by (goes_to tree p) (take found.place more)) is.page_is ∙ counted) in
      let sum = new.number_is in
      omega (arith, sum, base, earlier)

  new_order : InOrder st.book.log → InOrder (st.book.log ++ more)
  new_order in_order tree page other place r at = on (get_cases old new place r (subst (λ l. StandsAt l place r) (of_queue-append tree page other st.book.log more) at))
    where
      old : List AtomicRec
      old = of_queue tree page other st.book.log

      new : List AtomicRec
      new = of_queue tree page other more

      on : StandsAt old place r ⊎ ((j : ℕ) × (place ≡ length old + j) × StandsAt new j r) → r.number ≡ place + 1
      on (inl there) = in_order tree page other place r there
      on (inr p) = let number = new_number tree page other p.0 r p.2 in omega (arith, number, p.1)

  new_counters : (other tree page : ℕ) → number_of_queue (st.tally.head client).counters tree page ≡ count_of tree page client st.book.log
      → number_of_queue (st.tally.head other).counters tree page ≡ count_of tree page other st.book.log
      → number_of_queue (cond (other == client) head (st.tally.head other)).counters tree page ≡ count_of tree page other (st.book.log ++ more)
  new_counters other tree page mine same =
      cond_both (other == client) head (st.tally.head other) (λ h. number_of_queue h.counters tree page ≡ count_of tree page other (st.book.log ++ more))
      (λ e. subst (λ c. number_of_queue head.counters tree page ≡ count_of tree page c (st.book.log ++ more)) (sym (eqb-true other client e)) own)
      (λ e. same ∙ sym (count_of-append tree page other st.book.log more ∙ (ap (λ l. count_of tree page other st.book.log + length l) (other_none tree page other e) ∙ none (count_of tree page other st.book.log))))
    where
      own : number_of_queue head.counters tree page ≡ count_of tree page client (st.book.log ++ more)
      own = adds.counters tree page ∙ (ap₂ ◌+◌ mine (sym (new_count tree page)) ∙ sym (count_of-append tree page client st.book.log more))

      none : (n : ℕ) → n + 0 ≡ n
      none n = omega arith

  -- ---- no entry twice

  IsNew : Entry → Type 0
  IsNew e = (place : ℕ) × (q : AtomicRec) × StandsAt more place q × (entry_of q ≡ e)

  -- an entry of the log is not one of the new ones
  never : (r : AtomicRec) → IsPlaced st r → (q : AtomicRec) (place : ℕ) → StandsAt more place q → AreSame (entry_of r) (entry_of q) → ⊥
  never r placed q place at same =
      adds.apart r (subst (λ c. IsUpto (st.tally.head c) r) (same.client ∙ (adds.records place q at).client_is) placed.upto) place q at same.epoch same.txn

turned : (a b : Entry) → AreSame a b → AreSame b a
turned a b same = record { client = sym same.client; epoch = sym same.epoch; txn = sym same.txn; tree = sym same.tree; key = sym same.key }

module _ (st : Store) (client : ℕ) (head : Head) (more : List AtomicRec) (adds : Adds st client head more) (placed : (r : AtomicRec) → IsIn st.book.log r → IsPlaced st r) where
  old_new : (i j : ℕ) (a b : Entry) → StandsAt (entries_of st.book.log) i a → StandsAt (entries_of more) j b → AreSame a b → ⊥
  old_new i j a b at_a at_b same =
      let first = map_there entry_of st.book.log i a at_a in
      let second = map_there entry_of more j b at_b in
      never st client head more adds first.0 (placed first.0 (i, first.1)) second.0 j second.1
      (subst (λ e. AreSame e (entry_of second.0)) (sym first.2) (subst (λ e. AreSame a e) (sym second.2) same))

  new_new : (i j : ℕ) (a b : Entry) → StandsAt (entries_of more) i a → StandsAt (entries_of more) j b → AreSame a b → i ≡ j
  new_new i j a b at_a at_b same =
      let first = map_there entry_of more i a at_a in
      let second = map_there entry_of more j b at_b in
      let both : AreSame (entry_of first.0) (entry_of second.0) =
      subst (λ e. AreSame e (entry_of second.0)) (sym first.2) (subst (λ e. AreSame a e) (sym second.2) same) in
      adds.distinct i j first.0 second.0 first.1 second.1 both.tree both.key

  new_once : IsOnce (entries_of st.book.log) → IsOnce (entries_of (st.book.log ++ more))
  new_once once i j a b at_a at_b same = on (cases i a at_a) (cases j b at_b)
    where
      old : List Entry
      old = entries_of st.book.log

      Behind : ℕ → Entry → Type 0
      Behind at e = (k : ℕ) × (at ≡ length old + k) × StandsAt (entries_of more) k e

      cases : (i : ℕ) (a : Entry) → StandsAt (entries_of (st.book.log ++ more)) i a → StandsAt old i a ⊎ Behind i a
      cases i a at = get_cases old (entries_of more) i a (subst (λ l. StandsAt l i a) (map-append entry_of st.book.log more) at)

      on : StandsAt old i a ⊎ Behind i a → StandsAt old j b ⊎ Behind j b → i ≡ j
      on (inl first) (inl second) = once i j a b first second same
      on (inl first) (inr second) = absurd (old_new i second.0 a b first second.2 same)
      on (inr first) (inl second) = absurd (old_new j first.0 b a second first.2 (turned a b same))
      on (inr first) (inr second) = let one = new_new first.0 second.0 a b first.2 second.2 same in omega (arith, one, first.1, second.1)

  -- where the records stand
  new_placed : (r : AtomicRec) → IsIn (st.book.log ++ more) r → IsPlaced (after_head client head more st) r
  new_placed r logged = on (get_cases st.book.log more logged.0 r logged.1)
    where
      upto : IsUpto (st.tally.head r.client) r → IsUpto (cond (r.client == client) head (st.tally.head r.client)) r
      upto old = cond_both (r.client == client) head (st.tally.head r.client) (λ h. IsUpto h r)
          (λ e. adds.later r (subst (λ c. IsUpto (st.tally.head c) r) (eqb-true r.client client e) old)) (λ e. old)

      routed : IsRouted st.book r → IsRouted (after_head client head more st).book r
      routed old = routed_on st.book (after_head client head more st).book r (λ tree link is. is) old

      on : StandsAt st.book.log logged.0 r ⊎ ((j : ℕ) × (logged.0 ≡ length st.book.log + j) × StandsAt more j r) → IsPlaced (after_head client head more st) r
      on (inl there) = let old = placed r (logged.0, there) in record { client = old.client; tree = old.tree; upto = upto old.upto; routed = routed old.routed }
      on (inr p) =
          let new = adds.records p.0 r p.2 in
          record {
            client = subst IsClient (sym new.client_is) adds.is_client;
            tree = new.tree;
            upto = subst (λ b. IsUpto (cond b head (st.tally.head r.client)) r) (sym (eq-eqb r.client client new.client_is)) (inr (new.epoch_is, omega (arith, new.txn_is)));
            routed = routed new.routed;
          }

-- ---- the family

more_sent : (log more : List AtomicRec) (tree page : ℕ) (bytes : List ℕ) → IsOfRecord log tree page bytes → IsOfRecord (log ++ more) tree page bytes
more_sent log more tree page bytes is = record { of = is.of; logged = in_more log more is.of is.logged; tree_is = is.tree_is; page_is = is.page_is; reads = is.reads }

pub adds_keeps : (st : Store) (client : ℕ) (head : Head) (more : List AtomicRec) → Numbers st → Adds st client head more → Numbers (after_head client head more st)
adds_keeps st client head more n adds = record {
  in_order = new_order st client head more adds n.in_order;
  counters = λ other tree page. new_counters st client head more adds other tree page (n.counters client tree page) (n.counters other tree page);
  sent = λ tree page place m at. more_sent st.book.log more tree page m.bytes (n.sent tree page place m at);
  done_within = λ tree key page other c. grown tree page other (st.tally.done tree key page other) (n.done_within tree key page other c);
  cursor_within = λ tree page other c. grown tree page other (st.tally.cursor tree page other) (n.cursor_within tree page other c);
  covered = covers;
  once = new_once st client head more adds n.placed n.once;
  placed = new_placed st client head more adds n.placed;
}
  where
    grown : (tree page other number : ℕ) → number ≤ count_of tree page other st.book.log → number ≤ count_of tree page other (st.book.log ++ more)
    grown tree page other number within = let sum = count_of-append tree page other st.book.log more in omega (arith, sum, within)

    covers : (r : AtomicRec) → IsIn (st.book.log ++ more) r → r.number ≤ st.tally.cursor r.tree r.page r.client
        → r.number ≤ st.tally.done r.tree (key_in r) r.page r.client
    covers r logged low = on (get_cases st.book.log more logged.0 r logged.1)
      where
        on : StandsAt st.book.log logged.0 r ⊎ ((j : ℕ) × (logged.0 ≡ length st.book.log + j) × StandsAt more j r)
            → r.number ≤ st.tally.done r.tree (key_in r) r.page r.client
        on (inl there) = n.covered r (logged.0, there) low
        on (inr p) =
            let new = adds.records p.0 r p.2 in
            let cursor = n.cursor_within r.tree r.page client adds.is_client in
            let number = new.number_is in
            let own : r.number ≤ st.tally.cursor r.tree r.page client = subst (λ c. r.number ≤ st.tally.cursor r.tree r.page c) new.client_is low in
            absurd (omega (arith, cursor, number, own))

-- ---- the two kinds of heads

pub opens_adds : (st : Store) (client : ℕ) (head : Head) (records : List AtomicRec) → Opens st client head records → Adds st client head records
opens_adds st client head records o = record {
  is_client = o.is_client;
  records = o.records_are;
  distinct = o.distinct;
  counters = o.counters;
  later = later;
  apart = apart;
}
  where
    later : (r : AtomicRec) → IsUpto (st.tally.head client) r → IsUpto head r
    later r (inl less) = inl (omega (arith, less, o.epoch))
    later r (inr p) = inr (p.0 ∙ sym o.epoch, omega (arith, p.1, o.later))

    apart : (r : AtomicRec) → IsUpto (st.tally.head client) r → (place : ℕ) (q : AtomicRec) → StandsAt records place q → r.epoch ≡ q.epoch → r.txn ≡ q.txn → ⊥
    apart r (inl less) place q at epoch txn = let new = (o.records_are place q at).epoch_is in absurd (omega (arith, less, epoch, new, o.epoch))
    apart r (inr p) place q at epoch txn = let new = (o.records_are place q at).txn_is in absurd (omega (arith, p.1, txn, new, o.later))

pub settles_adds : (st : Store) (client : ℕ) (head : Head) → Settles st client head → Adds st client head []
settles_adds st client head s = record {
  is_client = s.is_client;
  records = λ place r at. absurd (cc);
  distinct = λ i j a b at_a at_b tree key. absurd (cc);
  counters = λ tree page. s.counters tree page ∙ none (number_of_queue (st.tally.head client).counters tree page);
  later = later s.behind;
  apart = λ r upto place q at epoch txn. absurd (cc);
}
  where
    none : (n : ℕ) → n ≡ n + 0
    none n = omega arith

    later : SettlesBehind (st.tally.head client) head → (r : AtomicRec) → IsUpto (st.tally.head client) r → IsUpto head r
    later (inl p) r (inl less) = inl (omega (arith, less, p.0))
    later (inl p) r (inr q) = inr (q.0 ∙ sym p.0, omega (arith, q.1, p.1))
    later (inr next) r (inl less) = inl (omega (arith, less, next))
    later (inr next) r (inr q) = inl (omega (arith, q.0, next))
