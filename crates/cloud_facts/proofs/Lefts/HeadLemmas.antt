-- A head that lands keeps what holds of the messages.
use Rattle.std.proofs.Common.{◌≡◌, ◌≢◌, ◌≤◌, ◌⊎◌, inl, inr, ℕ, Bool, true, false, List, ◌++◌, length, refl, sym, ap, subst, ◌∙◌, arith}
use Rattle.std.proofs.lemmas.Bool.{cases_eq}
use Rattle.cloud_facts.specs.Words.{IsClient, AtomicRec, Head, Store, IsIn, StandsAt}
use Rattle.head_codec.specs.declared.head.Phase.{Phase}
use Rattle.head_codec.specs.declared.head.Phase.TheVariants.{Settled, Open}
use Rattle.cloud_facts.specs.Lefts.Left.{IsCopied, IsWaiting, WasLogged, HasWay, AreLogged, Leaves}
use Rattle.cloud_facts.proofs.Lefts.MessageLemmas.{message_of_logged}
use Rattle.cloud_facts.proofs.Lefts.Holding.{LogHolds, log_of, logged_of, WayHolds, way_of, has_way}
use Rattle.cloud_facts.proofs.Lefts.Ways.{ways_other, ways_opened}
use Rattle.cloud_facts.specs.Numbers.Numbers.{Numbers}
use Rattle.cloud_facts.proofs.Numbers.Ways.{is_way, settled_way, open_way}
use Rattle.cloud_facts.specs.Book.Effects.{after_head}
use Rattle.cloud_facts.specs.Book.Messages.{WaitsLogged, IsLogMessage}
use Rattle.cloud_facts.specs.Book.Premises.{Opens}
use Rattle.cloud_facts.specs.Book.Records.{IsApplied, IsUnderWay, IsPast, under_way, key_in, count_of}
use Rattle.cloud_facts.specs.Book.Tally.{Tally}
use Rattle.cloud_facts.proofs.Book.Names.{at_same, at_other}
use Rattle.cloud_facts.proofs.Book.Places.{in_either, in_front, in_behind}

-- ---- a record of a client whose head did not land

pub past_other : (st : Store) (client : ℕ) (head : Head) (more : List AtomicRec) (r : AtomicRec) → r.client ≢ client → IsPast (after_head client head more st).tally r → IsPast st.tally r
past_other st client head more r ne past = ap (λ h. is_way h r) (sym (at_other client head st.tally.head r.client ne)) ∙ past

pub way_other : (st : Store) (client : ℕ) (head : Head) (more : List AtomicRec) (r : AtomicRec) → r.client ≢ client → IsUnderWay st.tally r → IsUnderWay (after_head client head more st).tally r
way_other st client head more r ne way = ap (λ h. is_way h r) (at_other client head st.tally.head r.client ne) ∙ way

-- a record that is not under way
past_of : (t : Tally) (r : AtomicRec) → (IsUnderWay t r → ⊥) → IsPast t r
past_of t r never = on (is_way (t.head r.client) r) never
  where
    on : (b : Bool) → (b ≡ true → ⊥) → b ≡ false
    on true no_way = absurd (no_way refl)
    on false no_way = refl

true_or_false : true ≡ false → ⊥
true_or_false e = cc

-- ---- a head that opens

-- no record of the client was under way before
old_past : (st : Store) (client : ℕ) (head : Head) (records : List AtomicRec) → Opens st client head records → (r : AtomicRec) → r.client ≡ client → IsPast st.tally r
old_past st client head records opens r e =
    past_of st.tally r (λ way. settled_way (st.tally.head client) r opens.settled (subst (λ c. is_way (st.tally.head c) r ≡ true) e way))

-- a record that opens is under way, and not applied
new_way : (st : Store) (client : ℕ) (head : Head) (records : List AtomicRec) → Opens st client head records → (place : ℕ) (r : AtomicRec) → StandsAt records place r
    → IsUnderWay (after_head client head records st).tally r
new_way st client head records opens place r there =
    let w = opens.records_are place r there in
    ap (λ h. is_way h r) (at_same client head st.tally.head r.client w.client_is) ∙ open_way head r (length records) opens.phase w.epoch_is w.txn_is

new_unapplied : (st : Store) (client : ℕ) (head : Head) (records : List AtomicRec) → Opens st client head records → Numbers st → (place : ℕ) (r : AtomicRec) → StandsAt records place r
    → IsApplied st.tally r → ⊥
new_unapplied st client head records opens numbers place r there applied =
    let w = opens.records_are place r there in
    let is_client : IsClient r.client = subst IsClient (sym w.client_is) opens.is_client in
    let within : st.tally.done r.tree (key_in r) r.page r.client ≤ count_of r.tree r.page r.client st.book.log = numbers.done_within r.tree (key_in r) r.page r.client is_client in
    let same : count_of r.tree r.page r.client st.book.log ≡ count_of r.tree r.page client st.book.log = ap (λ c. count_of r.tree r.page c st.book.log) w.client_is in
    omega (arith, applied, within, same, w.number_is)

opened_copied : (st : Store) (client : ℕ) (head : Head) (records : List AtomicRec) → Opens st client head records → Numbers st → Leaves st
    → (r : AtomicRec) → IsIn (st.book.log ++ records) r → IsApplied st.tally r ⊎ IsPast (after_head client head records st).tally r → IsCopied st.tally r
opened_copied st client head records opens numbers h r is how = on (in_either st.book.log records r is)
  where
    past : IsIn st.book.log r → IsPast (after_head client head records st).tally r → (r.client ≡ client) ⊎ (r.client ≢ client) → IsCopied st.tally r
    past logged p (inl e) = h.copied r logged (inr (old_past st client head records opens r e))
    past logged p (inr ne) = h.copied r logged (inr (past_other st client head records r ne p))

    old : IsIn st.book.log r → IsApplied st.tally r ⊎ IsPast (after_head client head records st).tally r → IsCopied st.tally r
    old logged (inl a) = h.copied r logged (inl a)
    old logged (inr p) = past logged p (cases_eq r.client client)

    new : IsIn records r → IsApplied st.tally r ⊎ IsPast (after_head client head records st).tally r → IsCopied st.tally r
    new is (inl a) = absurd (new_unapplied st client head records opens numbers is.0 r is.1 a)
    new is (inr p) = absurd (true_or_false (sym (new_way st client head records opens is.0 r is.1) ∙ p))

    on : IsIn st.book.log r ⊎ IsIn records r → IsCopied st.tally r
    on (inl logged) = old logged how
    on (inr is) = new is how

opened_waiting : (st : Store) (client : ℕ) (head : Head) (records : List AtomicRec) → Opens st client head records → Leaves st
    → (r : AtomicRec) → IsIn (st.book.log ++ records) r → IsApplied st.tally r ⊎ (IsUnderWay (after_head client head records st).tally r ⊎ IsWaiting st.tally r)
opened_waiting st client head records opens h r is = on (in_either st.book.log records r is)
  where
    Result : Type 0
    Result = IsApplied st.tally r ⊎ (IsUnderWay (after_head client head records st).tally r ⊎ IsWaiting st.tally r)

    way : IsUnderWay st.tally r → (r.client ≡ client) ⊎ (r.client ≢ client) → IsApplied st.tally r ⊎ (IsUnderWay (after_head client head records st).tally r ⊎ IsWaiting st.tally r)
    way w (inl e) = absurd (true_or_false (sym w ∙ old_past st client head records opens r e))
    way w (inr ne) = inr (inl (way_other st client head records r ne w))

    old : IsApplied st.tally r ⊎ (IsUnderWay st.tally r ⊎ IsWaiting st.tally r) → IsApplied st.tally r ⊎ (IsUnderWay (after_head client head records st).tally r ⊎ IsWaiting st.tally r)
    old (inl a) = inl a
    old (inr (inl w)) = way w (cases_eq r.client client)
    old (inr (inr w)) = inr (inr w)

    on : IsIn st.book.log r ⊎ IsIn records r → IsApplied st.tally r ⊎ (IsUnderWay (after_head client head records st).tally r ⊎ IsWaiting st.tally r)
    on (inl logged) = old (h.waiting r logged)
    on (inr new) = inr (inl (new_way st client head records opens new.0 r new.1))

-- the messages of the transaction are its records
opened_log : (st : Store) (client : ℕ) (head : Head) (records : List AtomicRec) → Opens st client head records
    → LogHolds (st.tally.logged client) (st.tally.head client).epoch st.book.log client → LogHolds (st.tally.logged client) head.epoch (st.book.log ++ records) client
opened_log st client head records opens h = record {
  own = h.own;
  early = λ id r m. let e = h.early id r m in omega (arith, e, opens.epoch);
  distinct = h.distinct;
  committed = λ id r q m is e epoch txn. on id r q m e epoch txn (in_either st.book.log records q is);
}
  where
    on : (id : ℕ) (r q : AtomicRec) → IsLogMessage (st.tally.logged client) id r → q.client ≡ client → q.epoch ≡ r.epoch → q.txn ≡ r.txn → IsIn st.book.log q ⊎ IsIn records q
        → IsIn (st.book.log ++ records) r
    on id r q m e epoch txn (inl logged) = in_front st.book.log records r (h.committed id r q m logged e epoch txn)
    on id r q m e epoch txn (inr new) =
        let w = opens.records_are new.0 q new.1 in
        in_behind st.book.log records r (opens.messages id r m (sym epoch ∙ w.epoch_is) (sym txn ∙ w.txn_is))

-- records of another client join
other_log : (st : Store) (client : ℕ) (more : List AtomicRec) (c : ℕ) → c ≢ client → ((i : ℕ) (r : AtomicRec) → StandsAt more i r → r.client ≡ client)
    → LogHolds (st.tally.logged c) (st.tally.head c).epoch st.book.log c → LogHolds (st.tally.logged c) (st.tally.head c).epoch (st.book.log ++ more) c
other_log st client more c ne own h = record {
  own = h.own;
  early = h.early;
  distinct = h.distinct;
  committed = λ id r q m is e epoch txn. on id r q m e epoch txn (in_either st.book.log more q is);
}
  where
    on : (id : ℕ) (r q : AtomicRec) → IsLogMessage (st.tally.logged c) id r → q.client ≡ c → q.epoch ≡ r.epoch → q.txn ≡ r.txn → IsIn st.book.log q ⊎ IsIn more q
        → IsIn (st.book.log ++ more) r
    on id r q m e epoch txn (inl logged) = in_front st.book.log more r (h.committed id r q m logged e epoch txn)
    on id r q m e epoch txn (inr new) = absurd (ne (sym e ∙ own new.0 q new.1))

opened_way : (st : Store) (client : ℕ) (head : Head) (records : List AtomicRec) → Opens st client head records → (count : ℕ) → head.phase ≡ Open count
    → WayHolds (st.tally.logged client) records count
opened_way st client head records opens count phase = record {
  length_is = same;
  each = λ place r there. let w = opens.records_are place r there in record { index_is = w.index_is; count_is = w.count_is ∙ same; logged_is = w.logged };
}
  where
    count_in : Phase → ℕ
    count_in (Open n) = n
    count_in Settled = 0

    same : length records ≡ count
    same = ap count_in (sym opens.phase ∙ phase)

pub opens_keeps : (st : Store) (client : ℕ) (head : Head) (records : List AtomicRec) → Opens st client head records → Numbers st → Leaves st → Leaves (after_head client head records st)
opens_keeps st client head records opens numbers h = record {
  copied = opened_copied st client head records opens numbers h;
  waiting = opened_waiting st client head records opens h;
  ways = λ c count is phase. way c count is phase (cases_eq c client);
  logged = λ c is. log c is (cases_eq c client);
  sent = λ r is. sent r (in_either st.book.log records r is);
}
  where
    sent : (r : AtomicRec) → IsIn st.book.log r ⊎ IsIn records r → WasLogged st.tally r
    sent r (inl old) = h.sent r old
    sent r (inr (place, new)) =
        let w = opens.records_are place r new in
        message_of_logged (st.tally.logged r.client) r (subst (λ c. WaitsLogged (st.tally.logged c) r) (sym w.client_is) w.logged)

    own : (i : ℕ) (r : AtomicRec) → StandsAt records i r → r.client ≡ client
    own i r there = (opens.records_are i r there).client_is

    here : (c : ℕ) → c ≡ client → (after_head client head records st).tally.head c ≡ head
    here c e = at_same client head st.tally.head c e

    there : (c : ℕ) → c ≢ client → (after_head client head records st).tally.head c ≡ st.tally.head c
    there c ne = at_other client head st.tally.head c ne

    way : (c count : ℕ) → IsClient c → ((after_head client head records st).tally.head c).phase ≡ Open count → (c ≡ client) ⊎ (c ≢ client) → HasWay (after_head client head records st) c count
    way c count is phase (inl e) =
        let w : WayHolds (st.tally.logged client) records count = opened_way st client head records opens count (ap (λ (q : Head). q.phase) (sym (here c e)) ∙ phase) in
        let at_ways : WayHolds (st.tally.logged client) (under_way (after_head client head records st).tally client (st.book.log ++ records)) count =
        subst (λ ws. WayHolds (st.tally.logged client) ws count) (sym (ways_opened st client head records opens numbers)) w in
        has_way (after_head client head records st) c count
        (subst (λ k. WayHolds (st.tally.logged k) (under_way (after_head client head records st).tally k (st.book.log ++ records)) count) (sym e) at_ways)
    way c count is phase (inr ne) =
        let w = way_of st c count (h.ways c count is (ap (λ (q : Head). q.phase) (sym (there c ne)) ∙ phase)) in
        has_way (after_head client head records st) c count (subst (λ ws. WayHolds (st.tally.logged c) ws count) (sym (ways_other st client head records c ne own)) w)

    log : (c : ℕ) → IsClient c → (c ≡ client) ⊎ (c ≢ client) → AreLogged (after_head client head records st) c
    log c is (inl e) =
        let l : LogHolds (st.tally.logged client) head.epoch (st.book.log ++ records) client = opened_log st client head records opens (log_of st client (h.logged client opens.is_client)) in
        let at_c : LogHolds (st.tally.logged c) head.epoch (st.book.log ++ records) c = subst (λ k. LogHolds (st.tally.logged k) head.epoch (st.book.log ++ records) k) (sym e) l in
        logged_of (after_head client head records st) c (subst (λ (q : Head). LogHolds (st.tally.logged c) q.epoch (st.book.log ++ records) c) (sym (here c e)) at_c)
    log c is (inr ne) =
        logged_of (after_head client head records st) c
        (subst (λ (q : Head). LogHolds (st.tally.logged c) q.epoch (st.book.log ++ records) c) (sym (there c ne)) (other_log st client records c ne own (log_of st c (h.logged c is))))
