-- Lists in which nothing comes twice are no longer than those that hold what they hold.
use Rattle.std.proofs.Common.{◌≡◌, ◌+◌, ◌≤◌, ◌⊎◌, inl, inr, ℕ, zero, suc, Bool, true, false, List, [], ◌∷◌, length, map, Option, Some, None, sym, subst, ◌∙◌, arith}
use Rattle.std.specs.Prelude.{slice_get}
use Rattle.std.proofs.lemmas.List.{length-map}
use Rattle.byte_format.specs.Order.{bytes_below}
use Rattle.leaf_view.specs.Fits.{Ascend}
use Rattle.node_codec.proofs.EntryLemmas.{below_chain}
use Rattle.cloud_facts.proofs.Book.Places.{get_map}
use Rattle.cloud_facts.proofs.Chains.Pieces.{none_in, in_first, in_rest, in_cases, not_itself}
use Rattle.cloud_facts.specs.Book.Records.{IsIn, Apart}

-- ---- one element less

record Without {X : Type 0} (x : X) (ys : List X) : Type 0 where
  rest : List X
  one : length rest + 1 ≡ length ys
  others : (z : X) → IsIn ys z → (x ≡ z) ⊎ IsIn rest z

without : {X : Type 0} (x : X) (ys : List X) (place : ℕ) → slice_get ys place ≡ Some x → Without x ys
without x [] place e = absurd (cc)
without {X} x (y ∷ ys) zero e =
    let same : y ≡ x = cc in
    record { rest = ys; one = omega arith; others = λ z is. subst (λ (w : X). (w ≡ z) ⊎ IsIn ys z) same (in_cases y ys z is) }
without {X} x (y ∷ ys) (suc place) e = behind (without x ys place e)
  where
    behind : Without x ys → Without x (y ∷ ys)
    behind r = record { rest = y ∷ r.rest; one = let n = r.one in omega (arith, n); others = λ z is. on z (in_cases y ys z is) }
      where
        later : (z : X) → (x ≡ z) ⊎ IsIn r.rest z → (x ≡ z) ⊎ IsIn (y ∷ r.rest) z
        later z (inl same) = inl same
        later z (inr there) = inr (in_rest y r.rest z there)

        on : (z : X) → (y ≡ z) ⊎ IsIn ys z → (x ≡ z) ⊎ IsIn (y ∷ r.rest) z
        on z (inl same) = inr (subst (IsIn (y ∷ r.rest)) same (in_first y r.rest))
        on z (inr is) = later z (r.others z is)

pub apart_fits : {X : Type 0} (xs ys : List X) → Apart xs → ((x : X) → IsIn xs x → IsIn ys x) → length xs ≤ length ys
apart_fits [] ys apart within = omega arith
apart_fits {X} (x ∷ xs) ys apart within = fits (apart_fits xs w.rest apart.1 left) w.one
  where
    w : Without x ys
    w = let is = within x (in_first x xs) in without x ys is.0 is.1

    left : (z : X) → IsIn xs z → IsIn w.rest z
    left z is = on (w.others z (within z (in_rest x xs z is)))
      where
        on : (x ≡ z) ⊎ IsIn w.rest z → IsIn w.rest z
        on (inl same) = absurd (apart.0 z is (sym same))
        on (inr there) = there

    fits : length xs ≤ length w.rest → length w.rest + 1 ≡ length ys → length (x ∷ xs) ≤ length ys
    fits few one = omega (arith, few, one)

-- ---- images

pub image : {X Y : Type 0} (f : X → Y) (xs : List X) (y : Y) → IsIn (map f xs) y → (x : X) × IsIn xs x × (f x ≡ y)
image f [] y is = absurd (none_in y is)
image {X} {Y} f (x ∷ xs) y is = on (in_cases (f x) (map f xs) y is) (image f xs y)
  where
    on : (f x ≡ y) ⊎ IsIn (map f xs) y → (IsIn (map f xs) y → (z : X) × IsIn xs z × (f z ≡ y)) → (z : X) × IsIn (x ∷ xs) z × (f z ≡ y)
    on (inl same) again = (x, in_first x xs, same)
    on (inr there) again = let z = again there in (z.0, in_rest x xs z.0 z.1, z.2)

-- ---- keys that ascend

module _ {X : Type 0} (key : X → List ℕ) where
  abbrev below : X → X → Bool
  below a b = bytes_below (key a) (key b)

  -- what stands behind something is above it
  all_above : (x : X) (xs : List X) (y : X) → Ascend below (Some x) xs → IsIn xs y → bytes_below (key x) (key y) ≡ true
  all_above x [] y up is = absurd (none_in y is)
  all_above x (z ∷ xs) y up is = on (in_cases z xs y is) (all_above z xs y up.1)
    where
      on : (z ≡ y) ⊎ IsIn xs y → (IsIn xs y → bytes_below (key z) (key y) ≡ true) → bytes_below (key x) (key y) ≡ true
      on (inl same) again = subst (λ (w : X). bytes_below (key x) (key w) ≡ true) same up.0
      on (inr there) again = below_chain (key x) (key z) (key y) up.0 (again there)

  keys_apart : (before : Option X) (xs : List X) → Ascend below before xs → Apart (map key xs)
  keys_apart before [] up = tt
  keys_apart before (x ∷ xs) up = (λ k is. other k (image key xs k is), keys_apart (Some x) xs up.1)
    where
      other : (k : List ℕ) → (y : X) × IsIn xs y × (key y ≡ k) → k ≡ key x → ⊥
      other k y same =
          let above : bytes_below (key x) (key x) ≡ true = subst (λ (b : List ℕ). bytes_below (key x) b ≡ true) (y.2 ∙ same) (all_above x xs y.0 up.1 y.1) in
          let never : true ≡ false = sym above ∙ not_itself (key x) in
          absurd (cc (never))

  -- where each key is that of an element of another list, there are no more
  pub few_keys : {Y : Type 0} (other : Y → List ℕ) (xs : List X) (ys : List Y) → Ascend below None xs → ((x : X) → IsIn xs x → (y : Y) × IsIn ys y × (other y ≡ key x)) → length xs ≤ length ys
  few_keys {Y} other xs ys up each =
      let some = length-map xs key in
      let all = length-map ys other in
      let few = apart_fits (map key xs) (map other ys) (keys_apart None xs up) there in
      omega (arith, some, all, few)
    where
      there : (k : List ℕ) → IsIn (map key xs) k → IsIn (map other ys) k
      there k is =
          let x = image key xs k is in
          let y = each x.0 x.1 in
          subst (IsIn (map other ys)) (y.2 ∙ x.2) (y.1.0, get_map other ys y.1.0 y.0 y.1.1)
