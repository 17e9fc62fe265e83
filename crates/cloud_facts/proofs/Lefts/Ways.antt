-- The records that are under way.
use Rattle.std.proofs.Common.{◌≡◌, ℕ, suc, Bool, true, false, cond, ◌==◌, ◌&&◌, List, [], ◌∷◌, ◌++◌, filter, length, append-nil, Some, refl, sym, ap, subst, ◌∙◌}
use Rattle.std.specs.Prelude.{slice_get}
use Rattle.std.proofs.lemmas.Bool.{and_parts, and_from, eqb-true, eq-eqb}
use Rattle.std.proofs.lemmas.List.Elements.{filter-append}
use Rattle.cloud_facts.specs.Words.{AtomicRec, Head, Store, IsIn, StandsAt}
use Rattle.cloud_facts.proofs.Numbers.Lists.{filter_there, filter_none, filter_agree}
use Rattle.cloud_facts.specs.Numbers.Numbers.{Numbers, IsUpto}
use Rattle.cloud_facts.proofs.Numbers.Ways.{is_way, open_way, way_epoch, way_txn, upto_earlier}
use Rattle.cloud_facts.specs.Book.Effects.{after_head}
use Rattle.cloud_facts.specs.Book.Premises.{Opens}
use Rattle.cloud_facts.specs.Book.Records.{is_under_way, IsUnderWay, under_way}
use Rattle.cloud_facts.specs.Book.Tally.{Tally}
use Rattle.cloud_facts.proofs.Book.Names.{at_same, at_other}

-- each is the client's, and under way
pub of_ways : (t : Tally) (client : ℕ) (log : List AtomicRec) (place : ℕ) (r : AtomicRec) → StandsAt (under_way t client log) place r → (r.client ≡ client) × IsUnderWay t r
of_ways t client log place r there =
    let p = filter_there (λ (x : AtomicRec). (x.client == client) && is_under_way t x) log place r there in
    let both = and_parts (r.client == client) (is_under_way t r) p.test in
    (eqb-true r.client client both.0, both.1)

-- what all pass the test is the list itself
filter_all : {X : Type 0} (p : X → Bool) (xs : List X) → ((i : ℕ) (x : X) → slice_get xs i ≡ Some x → p x ≡ true) → filter p xs ≡ xs
filter_all p [] all = refl
filter_all p (x ∷ xs) all =
    let rest : filter p xs ≡ xs = filter_all p xs (λ i y h. all (suc i) y h) in
    let here : p x ≡ true = all 0 x refl in
    ap (λ b. cond b (x ∷ filter p xs) (filter p xs)) here ∙ ap (λ ys. x ∷ ys) rest

-- a test that fails
false_of : (b : Bool) → (b ≡ true → ⊥) → b ≡ false
false_of true never = absurd (never refl)
false_of false never = refl

-- a test on one client
and_same : (a b c : Bool) → (a ≡ true → b ≡ c) → a && b ≡ a && c
and_same true b c same = same refl
and_same false b c same = refl

-- where another client's head lands, with records of that client
pub ways_other : (st : Store) (client : ℕ) (head : Head) (more : List AtomicRec) (c : ℕ) → (c ≡ client → ⊥) → ((i : ℕ) (r : AtomicRec) → StandsAt more i r → r.client ≡ client)
    → under_way (after_head client head more st).tally c (st.book.log ++ more) ≡ under_way st.tally c st.book.log
ways_other st client head more c ne own =
    filter-append P st.book.log more ∙ (ap (λ ys. filter P st.book.log ++ ys) none ∙ (append-nil (filter P st.book.log) ∙ filter_agree P Q st.book.log (λ i r h. agree r)))
  where
    P : AtomicRec → Bool
    P r = (r.client == c) && is_way ((after_head client head more st).tally.head r.client) r

    Q : AtomicRec → Bool
    Q r = (r.client == c) && is_way (st.tally.head r.client) r

    not_own : (r : AtomicRec) → r.client ≡ client → P r ≡ true → ⊥
    not_own r e test = ne (sym (eqb-true r.client c (and_parts (r.client == c) (is_way ((after_head client head more st).tally.head r.client) r) test).0) ∙ e)

    none : filter P more ≡ []
    none = filter_none P more (λ i r h. false_of (P r) (not_own r (own i r h)))

    agree : (r : AtomicRec) → P r ≡ Q r
    agree r =
        and_same (r.client == c) (is_way ((after_head client head more st).tally.head r.client) r) (is_way (st.tally.head r.client) r)
        (λ e. ap (λ h. is_way h r) (at_other client head st.tally.head r.client (λ k. ne (sym (eqb-true r.client c e) ∙ k))))

-- where a head opens records
pub ways_opened : (st : Store) (client : ℕ) (head : Head) (records : List AtomicRec) → Opens st client head records → Numbers st
    → under_way (after_head client head records st).tally client (st.book.log ++ records) ≡ records
ways_opened st client head records opens numbers =
    filter-append P st.book.log records ∙ (ap (λ ys. ys ++ filter P records) none ∙ filter_all P records all)
  where
    P : AtomicRec → Bool
    P r = (r.client == client) && is_way ((after_head client head records st).tally.head r.client) r

    head_is : (r : AtomicRec) → r.client ≡ client → (after_head client head records st).tally.head r.client ≡ head
    head_is r e = at_same client head st.tally.head r.client e

    old : (r : AtomicRec) → IsIn st.book.log r → P r ≡ true → ⊥
    old r logged test =
        let both = and_parts (r.client == client) (is_way ((after_head client head records st).tally.head r.client) r) test in
        let e : r.client ≡ client = eqb-true r.client client both.0 in
        let way : is_way head r ≡ true = ap (λ h. is_way h r) (sym (head_is r e)) ∙ both.1 in
        upto_earlier (st.tally.head client) head r (subst (λ c. IsUpto (st.tally.head c) r) e (numbers.placed r logged).upto) opens.epoch opens.later (way_epoch head r way) (way_txn head r way)

    none : filter P st.book.log ≡ []
    none = filter_none P st.book.log (λ i r h. false_of (P r) (old r (i, h)))

    all : (i : ℕ) (r : AtomicRec) → StandsAt records i r → P r ≡ true
    all i r h =
        let w = opens.records_are i r h in
        and_from (r.client == client) (is_way ((after_head client head records st).tally.head r.client) r) (eq-eqb r.client client w.client_is)
        (ap (λ q. is_way q r) (head_is r w.client_is) ∙ open_way head r (length records) opens.phase w.epoch_is w.txn_is)
