-- Laws of lists of pages.
use Rattle.std.proofs.Common.{◌≡◌, ℕ, ◌+◌, ◌-◌, ◌≤◌, ◌<◌, Bool, true, false, cond, List, [], ◌∷◌, ◌++◌, length, get_or, Some, None, refl, ap, subst, ◌∙◌, inl, inr, arith}
use Rattle.std.specs.Prelude.{◌==◌, ◌||◌, not, filter, slice_get, take}
use Rattle.std.specs.List.{AllByRecursion, IsDistinct}
use Rattle.std.proofs.lemmas.Bool.{eqb-true}
use Rattle.std.proofs.lemmas.Bool.Decides.{nat_tests}
use Rattle.std.proofs.lemmas.List.{take_more}
use Rattle.std.proofs.lemmas.List.Folds.{list_any_at}
use Rattle.std.proofs.lemmas.Option.{slice_get_within, slice_get_cases, get_or_from_slice_get}
use Rattle.cloud_trait.specs.Listing.{AscendAbove}
use Rattle.orphan_sweep.specs.Leases.{AreOnce}
use Rattle.orphan_sweep.specs.Sweeping.{is_among, strays}

-- ---- each page once

pub itself : (n : ℕ) → (n == n) ≡ true
itself n = grind (arith, nat_tests)

or_false : (a b : Bool) → (a || b) ≡ false → (a ≡ false) × (b ≡ false)
or_false true b h = absurd (cc (h))
or_false false b h = (refl, h)

all_apart : (ps : List ℕ) (q p : ℕ) → AllByRecursion (λ y. (q == y) ≡ false) ps → (q == p) ≡ false → AllByRecursion (λ y. (q == y) ≡ false) (ps ++ p ∷ [])
all_apart [] q p h apart = (apart, tt)
all_apart (x ∷ ps) q p h apart = (h.0, all_apart ps q p h.1 apart)

-- no page
pub once_none : AreOnce []
unfolding IsDistinct
once_none = tt

-- one more page that was not come to
pub once_push : (ps : List ℕ) (p : ℕ) → AreOnce ps → is_among ps p ≡ false → AreOnce (ps ++ p ∷ [])
unfolding IsDistinct
once_push [] p h apart = (tt, tt)
once_push (q ∷ ps) p h apart =
    let two = or_false (q == p) (is_among ps p) apart in
    (all_apart ps q p h.0 two.0, once_push ps p h.1 two.1)

-- ---- places

-- where there is an item, the place is within the list
pub within : (xs : List ℕ) (place : ℕ) → ((x : ℕ) × (slice_get xs place ≡ Some x)) → place < length xs
within xs place (x, there) = slice_get_within xs place x there

-- where there is none, it is past the list
pub past : (xs : List ℕ) (place : ℕ) → slice_get xs place ≡ None → length xs ≤ place
past xs place none = elim (slice_get_cases xs place).1 [ inl there ↦ absurd (cc (there.2, none)) | inr out ↦ out.0 ]

-- the first items up to one at a place, and that one
pub take_one_more : (xs : List ℕ) (place x : ℕ) → slice_get xs place ≡ Some x → take (place + 1) xs ≡ take place xs ++ x ∷ []
take_one_more xs place x e =
    take_more xs place x (slice_get_within xs place x e) ∙ ap (λ (y : ℕ). take place xs ++ y ∷ []) (get_or_from_slice_get xs place x x e)

-- ---- strays

fewer : (p : ℕ → Bool) (xs : List ℕ) → length (filter p xs) ≤ length xs
fewer p [] = omega arith
fewer p (x ∷ xs) = on (p x) (fewer p xs) where
  on : (b : Bool) → length (filter p xs) ≤ length xs → length (cond b (x ∷ filter p xs) (filter p xs)) ≤ length (x ∷ xs)
  on true h = omega (arith, h)
  on false h = omega (arith, h)

-- a list that ascends from above a number ascends from above each lesser one
from_lower : (low x : ℕ) (xs : List ℕ) → low < x → AscendAbove x xs → AscendAbove low xs
from_lower low x [] less up = tt
from_lower low x (y ∷ ys) less up = (omega (arith, less, up.0), up.1)

-- what passes a test ascends as the list does
pub ascends : (p : ℕ → Bool) (low : ℕ) (xs : List ℕ) → AscendAbove low xs → AscendAbove low (filter p xs)
ascends p low [] up = tt
ascends p low (x ∷ xs) up = on (p x) (ascends p x xs up.1) where
  on : (b : Bool) → AscendAbove x (filter p xs) → AscendAbove low (cond b (x ∷ filter p xs) (filter p xs))
  on true rest = (up.0, rest)
  on false rest = from_lower low x (filter p xs) up.0 rest

or_right : (a b : Bool) → b ≡ true → (a || b) ≡ true
or_right true b e = refl
or_right false b e = e

-- a stray is one of the listed pages, and was not come to
abbrev IsStray : List ℕ → List ℕ → ℕ → Type 0
IsStray visited xs page = (is_among xs page ≡ true) × (is_among visited page ≡ false)

stray_among : (visited xs : List ℕ) (page : ℕ) → is_among (strays visited xs) page ≡ true → IsStray visited xs page
stray_among visited [] page e = absurd (cc (e))
stray_among visited (x ∷ xs) page e = on (is_among visited x) refl (stray_among visited xs page) e where
  further : IsStray visited xs page → IsStray visited (x ∷ xs) page
  further found = (or_right (x == page) (is_among xs page) found.0, found.1)

  here : is_among visited x ≡ false → (is_among (strays visited xs) page ≡ true → IsStray visited xs page) → (b : Bool) → (x == page) ≡ b
      → (b || is_among (strays visited xs) page) ≡ true → IsStray visited (x ∷ xs) page
  here apart rest true is f = (ap (λ (b : Bool). b || is_among xs page) is, subst (λ (p : ℕ). is_among visited p ≡ false) (eqb-true x page is) apart)
  here apart rest false is f = further (rest f)

  on : (b : Bool) → is_among visited x ≡ b → (is_among (strays visited xs) page ≡ true → IsStray visited xs page)
      → is_among (cond (not b) (x ∷ strays visited xs) (strays visited xs)) page ≡ true → IsStray visited (x ∷ xs) page
  on true seen rest f = further (rest f)
  on false apart rest f = here apart rest (x == page) refl f

-- .. by its place among the strays
pub stray_at : (visited listed : List ℕ) (place page : ℕ) → slice_get (strays visited listed) place ≡ Some page
    → (is_among listed page ≡ true) × (is_among visited page ≡ false)
stray_at visited listed place page e =
    let found : get_or (strays visited listed) place page ≡ page = get_or_from_slice_get (strays visited listed) place page page e in
    let same : (get_or (strays visited listed) place page == page) ≡ true = ap (λ (n : ℕ). n == page) found ∙ itself page in
    stray_among visited listed page
    (list_any_at (λ (q : ℕ). q == page) (strays visited listed) place page (slice_get_within (strays visited listed) place page e) same)

-- those that were come to and the others are all
pub kept_and_strays : (visited listed : List ℕ) → (length listed - length (strays visited listed)) + length (strays visited listed) ≡ length listed
kept_and_strays visited listed = omega (arith, fewer (λ page. not (is_among visited page)) listed)
