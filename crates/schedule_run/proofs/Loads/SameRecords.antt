-- Records in the order of their keys that have the same values are the same.
use Rattle.std.proofs.Common.{◌≡◌, ℕ, zero, suc, Bool, true, false, List, [], ◌∷◌, Option, Some, None, refl, sym, ap, subst, ◌∙◌, cond}
use Rattle.byte_format.specs.Order.{bytes_below, bytes_same}
use Rattle.byte_format.proofs.OrderLemmas.{same_is, same_itself}
use Rattle.db_base.specs.Value.{Value}
use Rattle.leaf_view.specs.Fits.{Ascend}
use Rattle.node_codec.proofs.EntryLemmas.{above, below_chain}
use Rattle.report_types.specs.declared.stored.Stored.{Stored}
use Rattle.replay_meaning.specs.Right.{stored_below, value_at, value_stored}
use Rattle.schedule_run.proofs.Loads.Folds.{AreDistinct}
use Rattle.cloud_facts.proofs.Chains.Pieces.{not_itself}

-- ---- keys

pub never : {t : Bool} → t ≡ true → t ≡ false → ⊥
never h g = cc

-- what is above a key is another one, and not below it
above_differs : (a b : List ℕ) → bytes_below a b ≡ true → bytes_same b a ≡ false
above_differs a b less = on (bytes_same b a) refl
  where
    on : (t : Bool) → bytes_same b a ≡ t → t ≡ false
    on true e = absurd (never (ap (λ k. bytes_below a k) (sym (same_is b a e)) ∙ less) (not_itself a))
    on false e = refl

-- a key that is at most another is below what is above that
pub below_behind : (key a b : List ℕ) → bytes_below a key ≡ false → bytes_below a b ≡ true → bytes_below key b ≡ true
below_behind key a b past less = on (bytes_same a key) refl
  where
    on : (t : Bool) → bytes_same a key ≡ t → bytes_below key b ≡ true
    on true e = ap (λ k. bytes_below k b) (sym (same_is a key e)) ∙ less
    on false e = below_chain key a b (above a key past e) less

pub not_above : (a b : List ℕ) → bytes_below a b ≡ true → bytes_below b a ≡ false
not_above a b less = on (bytes_below b a) refl
  where
    on : (t : Bool) → bytes_below b a ≡ t → t ≡ false
    on true e = absurd (never (below_chain a b a less e) (not_itself a))
    on false e = refl

-- ---- records that ascend

-- a key that is at most a record's is none of those behind it
none_above : (key : List ℕ) (p : Stored) (records : List Stored) → bytes_below p.key key ≡ false → Ascend stored_below (Some p) records → value_at key records ≡ None
none_above key p [] past up = refl
none_above key p (s ∷ records) past up =
    let less : bytes_below key s.key ≡ true = below_behind key p.key s.key past up.0 in
    ap (λ (b : Bool). cond b (Some (value_stored s)) (value_at key records)) (above_differs key s.key less)
    ∙ none_above key s records (not_above key s.key less) up.1

first_value : (s : Stored) (records : List Stored) → value_at s.key (s ∷ records) ≡ Some (value_stored s)
first_value s records = ap (λ (b : Bool). cond b (Some (value_stored s)) (value_at s.key records)) (same_itself s.key)

-- each record of those that ascend is the first of its key
pub ascending_distinct : (before : Option Stored) (records : List Stored) → Ascend stored_below before records → AreDistinct records
ascending_distinct before [] up place stored at = absurd (cc)
ascending_distinct before (s ∷ records) up zero stored at =
    let same : s ≡ stored = cc in
    subst (λ (x : Stored). value_at x.key (s ∷ records) ≡ Some (value_stored x)) same (first_value s records)
ascending_distinct before (s ∷ records) up (suc place) stored at = later (ascending_distinct (Some s) records up.1 place stored at)
  where
    other : value_at stored.key records ≡ Some (value_stored stored) → (t : Bool) → bytes_same s.key stored.key ≡ t → t ≡ false
    other again true e =
        let none : value_at s.key records ≡ None = none_above s.key s records (not_itself s.key) up.1 in
        let some : value_at s.key records ≡ Some (value_stored stored) = ap (λ k. value_at k records) (same_is s.key stored.key e) ∙ again in
        absurd (cc)
    other again false e = refl

    later : value_at stored.key records ≡ Some (value_stored stored) → value_at stored.key (s ∷ records) ≡ Some (value_stored stored)
    later again =
        ap (λ (b : Bool). cond b (Some (value_stored s)) (value_at stored.key records)) (other again (bytes_same s.key stored.key) refl) ∙ again

-- ---- the same values

stored_same : (a b : Stored) → a.key ≡ b.key → value_stored a ≡ value_stored b → a ≡ b
stored_same a b key value =
    let payload : a.payload ≡ b.payload = ap (λ (v : Value). v.payload) value in
    let attr : a.attr ≡ b.attr = ap (λ (v : Value). v.attr) value in
    λ i. record { key = key i; payload = payload i; attr = attr i }

-- the first of two lists has the same key
first_key : (x y : Stored) (xs ys : List Stored) → Ascend stored_below (Some x) xs → Ascend stored_below (Some y) ys
    → ((key : List ℕ) → value_at key (x ∷ xs) ≡ value_at key (y ∷ ys)) → x.key ≡ y.key
first_key x y xs ys up_x up_y same = on (bytes_same y.key x.key) refl (bytes_below y.key x.key) refl
  where
    -- a record whose key is below the first of the others is none of them
    lacks : (a b : Stored) (rest : List Stored) → Ascend stored_below (Some b) rest → bytes_below a.key b.key ≡ true → Some (value_stored a) ≡ value_at a.key (b ∷ rest) → ⊥
    lacks a b rest up less e =
        let none : value_at a.key (b ∷ rest) ≡ None = none_above a.key a (b ∷ rest) (not_itself a.key) (less, up) in
        cc

    on : (t : Bool) → bytes_same y.key x.key ≡ t → (u : Bool) → bytes_below y.key x.key ≡ u → x.key ≡ y.key
    on true e u f = sym (same_is y.key x.key e)
    on false e true f = absurd (lacks y x xs up_x f (sym (first_value y ys) ∙ sym (same y.key)))
    on false e false f = absurd (lacks x y ys up_y (above y.key x.key f e) (sym (first_value x xs) ∙ same x.key))

-- the values behind the first records of one key are the same
rest_values : (x y : Stored) (xs ys : List Stored) → Ascend stored_below (Some x) xs → Ascend stored_below (Some y) ys → x.key ≡ y.key
    → ((key : List ℕ) → value_at key (x ∷ xs) ≡ value_at key (y ∷ ys)) → (key : List ℕ) → value_at key xs ≡ value_at key ys
rest_values x y xs ys up_x up_y one same key = on (bytes_same x.key key) refl
  where
    at_y : (t : Bool) → bytes_same x.key key ≡ t → bytes_same y.key key ≡ t
    at_y t e = ap (λ k. bytes_same k key) (sym one) ∙ e

    none : (a : Stored) (rest : List Stored) → Ascend stored_below (Some a) rest → bytes_same a.key key ≡ true → value_at key rest ≡ None
    none a rest up e = ap (λ k. value_at k rest) (sym (same_is a.key key e)) ∙ none_above a.key a rest (not_itself a.key) up

    on : (t : Bool) → bytes_same x.key key ≡ t → value_at key xs ≡ value_at key ys
    on true e = none x xs up_x e ∙ sym (none y ys up_y (at_y true e))
    on false e =
        sym (ap (λ (b : Bool). cond b (Some (value_stored x)) (value_at key xs)) e) ∙ same key
        ∙ ap (λ (b : Bool). cond b (Some (value_stored y)) (value_at key ys)) (at_y false e)

-- records that ascend and have the same values are the same
pub ascending_same : (before after : Option Stored) (xs ys : List Stored) → Ascend stored_below before xs → Ascend stored_below after ys
    → ((key : List ℕ) → value_at key xs ≡ value_at key ys) → xs ≡ ys
ascending_same before after [] [] up_x up_y same = refl
ascending_same before after [] (y ∷ ys) up_x up_y same =
    let some : None ≡ Some (value_stored y) = same y.key ∙ first_value y ys in absurd (cc)
ascending_same before after (x ∷ xs) [] up_x up_y same =
    let some : Some (value_stored x) ≡ None = sym (first_value x xs) ∙ same x.key in absurd (cc)
ascending_same before after (x ∷ xs) (y ∷ ys) up_x up_y same =
    let one : x.key ≡ y.key = first_key x y xs ys up_x.1 up_y.1 same in
    let value : Some (value_stored x) ≡ Some (value_stored y) = sym (first_value x xs) ∙ same x.key ∙ ap (λ k. value_at k (y ∷ ys)) one ∙ first_value y ys in
    let held : value_stored x ≡ value_stored y = cc in
    let first : x ≡ y = stored_same x y one held in
    let rest : xs ≡ ys = ascending_same (Some x) (Some y) xs ys up_x.1 up_y.1 (rest_values x y xs ys up_x.1 up_y.1 one same) in
    λ i. first i ∷ rest i
