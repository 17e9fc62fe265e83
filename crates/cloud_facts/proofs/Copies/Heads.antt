-- A head that lands keeps what holds of the copies.
use Rattle.std.proofs.Common.{◌≡◌, ◌≢◌, ◌+◌, ◌≤◌, ◌⊎◌, inl, inr, ℕ, true, List, [], ◌++◌, length, Some, refl, sym, ap, subst, ◌∙◌, arith}
use Rattle.std.proofs.lemmas.Bool.{cases_eq}
use Rattle.std.specs.Prelude.{slice_get}
use Rattle.cloud_facts.specs.Copies.Copies.{IsSentOn, WayBefore, Copies}
use Rattle.cloud_facts.specs.Words.{AtomicRec, Head, Store, IsIn, StandsAt}
use Rattle.log_codec.specs.declared.record.PuRec.{PuRec}
use Rattle.cloud_facts.proofs.Numbers.Queues.{number_within}
use Rattle.cloud_facts.proofs.Numbers.Ways.{is_way, settled_way, way_epoch, way_txn, upto_earlier}
use Rattle.cloud_facts.specs.Numbers.Numbers.{Numbers, IsUpto}
use Rattle.route_plan.specs.Record.{pu_record_of}
use Rattle.cloud_facts.specs.Book.Effects.{after_head}
use Rattle.cloud_facts.specs.Book.Premises.{Opens, Settles}
use Rattle.cloud_facts.specs.Book.Records.{count_of}
use Rattle.cloud_facts.proofs.Book.Names.{at_same, at_other}
use Rattle.cloud_facts.proofs.Book.Places.{get_cases, in_none}

-- a record that a head opens was not sent: it has a number above the count of its queue
never_sent : (st : Store) (client : ℕ) (head : Head) (records : List AtomicRec) → Opens st client head records → Numbers st
    → (place : ℕ) (r : AtomicRec) → StandsAt records place r
    → IsSentOn st.tally r → ⊥
never_sent st client head records opens numbers place r there copy =
    let w = opens.records_are place r there in
    let sent = numbers.sent r.tree r.page copy.place copy.message copy.there in
    let both : Some (pu_record_of sent.of) ≡ Some (pu_record_of r) = sym sent.reads ∙ copy.reads in
    let same : pu_record_of sent.of ≡ pu_record_of r = cc in
    let number_is : sent.of.number ≡ r.number = ap (λ (p : PuRec). p.number) same in
    let client_is : sent.of.client ≡ client = ap (λ (p : PuRec). p.client) same ∙ w.client_is in
    let within : sent.of.number ≤ count_of sent.of.tree sent.of.page sent.of.client st.book.log = number_within st.book.log numbers.in_order sent.of sent.logged in
    let count_is : count_of sent.of.tree sent.of.page sent.of.client st.book.log ≡ count_of r.tree r.page client st.book.log =
    ap (λ t. count_of t sent.of.page sent.of.client st.book.log) sent.tree_is
    ∙ (ap (λ p. count_of r.tree p sent.of.client st.book.log) sent.page_is ∙ ap (λ c. count_of r.tree r.page c st.book.log) client_is) in
    omega (arith, number_is, within, count_is, w.number_is)

-- ---- records of a client whose head did not land

other_before : (st : Store) (client : ℕ) (head : Head) (more : List AtomicRec) → ((i : ℕ) (r : AtomicRec) → StandsAt more i r → r.client ≡ client)
    → (q r : AtomicRec) → r.client ≢ client → WayBefore (after_head client head more st).tally.head (st.book.log ++ more) q r
    → WayBefore st.tally.head st.book.log q r
other_before st client head more own q r ne b = record {
  i = b.i;
  j = b.j;
  before = b.before;
  one = old b.i q b.one (λ e. ne (sym b.client_is ∙ e));
  other = old b.j r b.other ne;
  client_is = b.client_is;
  way_one = ap (λ h. is_way h q) (sym (at_other client head st.tally.head q.client (λ e. ne (sym b.client_is ∙ e)))) ∙ b.way_one;
  way_other = ap (λ h. is_way h r) (sym (at_other client head st.tally.head r.client ne)) ∙ b.way_other;
}
  where
    old : (i : ℕ) (x : AtomicRec) → StandsAt (st.book.log ++ more) i x → (x.client ≡ client → ⊥) → StandsAt st.book.log i x
    old i x there other = on (get_cases st.book.log more i x there)
      where
        on : (slice_get st.book.log i ≡ Some x) ⊎ ((k : ℕ) × (i ≡ length st.book.log + k) × (slice_get more k ≡ Some x)) → StandsAt st.book.log i x
        on (inl h) = h
        on (inr p) = absurd (other (own p.0 x p.2))

-- ---- a head that opens

pub opens_keeps : (st : Store) (client : ℕ) (head : Head) (records : List AtomicRec) → Opens st client head records → Numbers st → Copies st
    → Copies (after_head client head records st)
opens_keeps st client head records opens numbers h = record {
  in_turn = h.in_turn;
  unmarked = h.unmarked;
  ways = λ q r b copy. on q r b copy (cases_eq r.client client);
}
  where
    own : (i : ℕ) (r : AtomicRec) → StandsAt records i r → r.client ≡ client
    own i r there = (opens.records_are i r there).client_is

    -- a record of before is of no later transaction than the head before
    never : (r : AtomicRec) → IsIn st.book.log r → r.client ≡ client → is_way head r ≡ true → ⊥
    never r logged e way =
        upto_earlier (st.tally.head client) head r (subst (λ c. IsUpto (st.tally.head c) r) e (numbers.placed r logged).upto) opens.epoch opens.later
        (way_epoch head r way) (way_txn head r way)

    on : (q r : AtomicRec) → WayBefore (after_head client head records st).tally.head (st.book.log ++ records) q r → IsSentOn st.tally r
        → (r.client ≡ client) ⊎ (r.client ≢ client) → IsSentOn st.tally q
    on q r b copy (inr ne) = h.ways q r (other_before st client head records own q r ne b) copy
    on q r b copy (inl e) = turn (get_cases st.book.log records b.j r b.other)
      where
        way : is_way head r ≡ true
        way = ap (λ g. is_way g r) (sym (at_same client head st.tally.head r.client e)) ∙ b.way_other

        turn : (slice_get st.book.log b.j ≡ Some r) ⊎ ((k : ℕ) × (b.j ≡ length st.book.log + k) × (slice_get records k ≡ Some r)) → IsSentOn st.tally q
        turn (inl there) = absurd (never r (b.j, there) e way)
        turn (inr p) = absurd (never_sent st client head records opens numbers p.0 r p.2 copy)

-- ---- a head that settles

pub settles_keeps : (st : Store) (client : ℕ) (head : Head) → Settles st client head → Copies st → Copies (after_head client head [] st)
settles_keeps st client head settles h = record {
  in_turn = h.in_turn;
  unmarked = h.unmarked;
  ways = λ q r b copy. on q r b copy (cases_eq r.client client);
}
  where
    none : (i : ℕ) (r : AtomicRec) → StandsAt [] i r → r.client ≡ client
    none i r e = absurd (in_none [] r refl (i, e))

    on : (q r : AtomicRec) → WayBefore (after_head client head [] st).tally.head (st.book.log ++ []) q r → IsSentOn st.tally r
        → (r.client ≡ client) ⊎ (r.client ≢ client) → IsSentOn st.tally q
    on q r b copy (inr ne) = h.ways q r (other_before st client head [] none q r ne b) copy
    on q r b copy (inl e) =
        absurd (settled_way head r settles.phase (ap (λ g. is_way g r) (sym (at_same client head st.tally.head r.client e)) ∙ b.way_other))
