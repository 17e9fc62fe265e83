-- A delivering receive: the run that is taken of it leads up to each number that was received.
use Rattle.std.proofs.Common.{◌≡◌, ◌+◌, ◌<◌, ◌≤◌, ◌⊎◌, inl, inr, ℕ, zero, suc, Bool, true, false, ◌==◌, ◌&&◌, ◌||◌, List, [], ◌∷◌, take, Option, Some, None, refl, sym, ap, ◌∙◌, arith}
use Rattle.std.proofs.lemmas.Bool.{and_parts, and_from, eqb-true, eq-eqb, cases_lt}
use Rattle.std.proofs.lemmas.List.Sorted.{list_any-IsPermutation, IsPermutation-sym}
use Rattle.std.specs.List.{list_any}
use Rattle.std.specs.Prelude.{slice_get, IsPermutation}
use Rattle.cloud_facts.specs.Words.{IsClient, PuItem, Store, IsIn}
use Rattle.cloud_trait.specs.Delivery.{unmarked, IsDelivering}
use Rattle.cloud_trait.specs.declared.message.Message.{Message}
use Rattle.cloud_facts.specs.Copies.Copies.{Copies, IsAmong, AreItems}
use Rattle.cloud_facts.proofs.Copies.Receives.{received_is_run}
use Rattle.log_codec.specs.Pu.{pu_of}
use Rattle.log_codec.specs.declared.record.PuRec.{PuRec}
use Rattle.run_cursor.specs.Run.{is_at, has_number, IsTop}

-- ---- tests that something of a list passes

pub any_of : {X : Type 0} (p : X → Bool) (xs : List X) (place : ℕ) (x : X) → slice_get xs place ≡ Some x → p x ≡ true → list_any p xs ≡ true
any_of p [] place x e passes = absurd (cc)
any_of {X} p (y ∷ ys) zero x e passes = let same : y ≡ x = cc in on (p y) (ap p same ∙ passes)
  where
    on : (b : Bool) → b ≡ true → (b || list_any p ys) ≡ true
    on true h = refl
    on false h = absurd (cc)
any_of {X} p (y ∷ ys) (suc place) x e passes = on (p y) (any_of p ys place x e passes)
  where
    on : (b : Bool) → list_any p ys ≡ true → (b || list_any p ys) ≡ true
    on true h = refl
    on false h = h

pub of_any : {X : Type 0} (p : X → Bool) (xs : List X) → list_any p xs ≡ true → (x : X) × IsIn xs x × (p x ≡ true)
of_any p [] some = absurd (cc)
of_any {X} p (y ∷ ys) some = on (p y) refl some (λ h. of_any p ys h)
  where
    on : (b : Bool) → p y ≡ b → (b || list_any p ys) ≡ true → (list_any p ys ≡ true → (x : X) × IsIn ys x × (p x ≡ true))
        → (x : X) × IsIn (y ∷ ys) x × (p x ≡ true)
    on true e some again = (y, (0, refl), e)
    on false e some again = let h = again some in (h.0, (suc h.1.0, h.1.1), h.2)

-- ---- messages in another order

-- bytes spell a client's record of a number
abbrev spells : ℕ → ℕ → Option PuRec → Bool
spells client number None = false
spells client number (Some rec) = (rec.client == client) && (rec.number == number)

among_of : (messages : List Message) (client number : ℕ) (m : Message) → IsIn messages m → (o : Option PuRec) → pu_of m.bytes ≡ o
    → spells client number o ≡ true
    → IsAmong messages client number
among_of messages client number m is None e h = absurd (cc)
among_of messages client number m is (Some rec) e h =
    let both = and_parts (rec.client == client) (rec.number == number) h in
    record { message = m; rec = rec; there = is; reads = e; client_is = eqb-true rec.client client both.0; number_is = eqb-true rec.number number both.1 }

pub among_moved : (xs ys : List Message) (client number : ℕ) → IsPermutation xs ys → IsAmong xs client number → IsAmong ys client number
among_moved xs ys client number moves a =
    let test : spells client number (pu_of a.message.bytes) ≡ true =
    ap (λ o. spells client number o) a.reads
    ∙ and_from (a.rec.client == client) (a.rec.number == number) (eq-eqb a.rec.client client a.client_is) (eq-eqb a.rec.number number a.number_is) in
    let before : list_any (λ (m : Message). spells client number (pu_of m.bytes)) xs ≡ true =
    any_of (λ (m : Message). spells client number (pu_of m.bytes)) xs a.there.0 a.message a.there.1 test in
    let after : list_any (λ (m : Message). spells client number (pu_of m.bytes)) ys ≡ true =
    sym (list_any-IsPermutation (λ (m : Message). spells client number (pu_of m.bytes)) xs ys moves) ∙ before in
    let found = of_any (λ (m : Message). spells client number (pu_of m.bytes)) ys after in
    among_of ys client number found.0 found.1 (pu_of found.0.bytes) refl found.2

-- ---- what is delivered

-- where a client's number is delivered, so is each behind the cursor up to it
pub delivered_is_run : (st : Store) → Copies st → (tree page client most : ℕ) → IsClient client
    → (answer : List Message) → IsDelivering (st.tally.posts tree page) most answer → (number upto : ℕ) → st.tally.cursor tree page client < number
    → number ≤ upto
    → IsAmong answer client upto → IsAmong answer client number
delivered_is_run st h tree page client most is answer delivers number upto above up among =
    among_moved (take most (unmarked (st.tally.posts tree page))) answer client number delivers
    (received_is_run st h tree page client most is number upto above up
    (among_moved answer (take most (unmarked (st.tally.posts tree page))) client upto
    (IsPermutation-sym (take most (unmarked (st.tally.posts tree page))) answer delivers) among))

-- so the run behind a number that the cursor does not pass leads up to each number that was received
pub top_covers : (st : Store) → Copies st → (tree page client most : ℕ) → IsClient client
    → (answer : List Message) → IsDelivering (st.tally.posts tree page) most answer → (received : List PuItem) → AreItems answer received
    → (from last : ℕ) → st.tally.cursor tree page client ≤ from → IsTop from received client last
    → (x : PuItem) → IsIn received x → x.rec.client ≡ client → x.rec.number ≤ last
top_covers st h tree page client most is answer delivers received items from last low top x there own = on (cases_lt last x.rec.number)
  where
    never : true ≡ false → ⊥
    never e = cc

    among : IsAmong answer client x.rec.number
    among = let m = items.of x there in record { message = m.0; rec = x.rec; there = m.1; reads = m.2; client_is = own; number_is = refl }

    next : last < x.rec.number → IsAmong answer client (last + 1)
    next less =
        delivered_is_run st h tree page client most is answer delivers (last + 1) x.rec.number
        (let up = top.upward in omega (arith, low, up)) (omega (arith, less)) among

    found : IsAmong answer client (last + 1) → has_number received client (last + 1) ≡ true
    found a =
        let y = items.all a.message a.rec a.there a.reads in
        let client_is : y.0.rec.client ≡ client = ap (λ (p : PuRec). p.client) y.2 ∙ a.client_is in
        let number_is : y.0.rec.number ≡ last + 1 = ap (λ (p : PuRec). p.number) y.2 ∙ a.number_is in
        any_of (is_at client (last + 1)) received y.1.0 y.0 y.1.1
        (and_from (y.0.rec.client == client) (y.0.rec.number == last + 1) (eq-eqb y.0.rec.client client client_is) (eq-eqb y.0.rec.number (last + 1) number_is))

    on : (last < x.rec.number) ⊎ (x.rec.number ≤ last) → x.rec.number ≤ last
    on (inl less) = absurd (never (sym (found (next less)) ∙ top.stops))
    on (inr within) = within
