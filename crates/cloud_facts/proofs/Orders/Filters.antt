-- Filtered lists, fronts and backs of lists, and what is found in them.
use Rattle.std.proofs.Common.{◌≡◌, ◌+◌, ◌<◌, ◌≤◌, ℕ, zero, suc, Bool, true, false, cond, ◌&&◌, List, [], ◌∷◌, ◌++◌, map, take, drop, filter, find, count_by, slice_get, Some, refl, sym, ap, subst, ◌∙◌, arith}
use Rattle.std.proofs.lemmas.List.{drop_more}
use Rattle.std.proofs.lemmas.List.Elements.{filter-append}
use Rattle.std.proofs.lemmas.List.Sums.{sum_by-cons}
use Rattle.std.proofs.lemmas.Option.{get_or_from_slice_get, slice_get_within}
use Rattle.cloud_facts.specs.Book.Records.{IsIn}
use Rattle.cloud_facts.proofs.Numbers.Lists.{filter_none}

-- ---- filters

pub filter-map : {A B : Type 0} (p : B → Bool) (f : A → B) (xs : List A) → filter p (map f xs) ≡ map f (filter (λ x. p (f x)) xs)
filter-map p f [] = refl
filter-map p f (x ∷ xs) = on (p (f x)) (filter-map p f xs)
  where
    on : (b : Bool) → filter p (map f xs) ≡ map f (filter (λ x. p (f x)) xs)
        → cond b (f x ∷ filter p (map f xs)) (filter p (map f xs)) ≡ map f (cond b (x ∷ filter (λ x. p (f x)) xs) (filter (λ x. p (f x)) xs))
    on true again = ap (λ l. f x ∷ l) again
    on false again = again

pub filter-twice : {A : Type 0} (p q : A → Bool) (xs : List A) → filter p (filter q xs) ≡ filter (λ x. q x && p x) xs
filter-twice p q [] = refl
filter-twice p q (x ∷ xs) = on (q x) (filter-twice p q xs)
  where
    on : (b : Bool) → filter p (filter q xs) ≡ filter (λ x. q x && p x) xs
        → filter p (cond b (x ∷ filter q xs) (filter q xs)) ≡ cond (b && p x) (x ∷ filter (λ x. q x && p x) xs) (filter (λ x. q x && p x) xs)
    on true again = ap (λ l. cond (p x) (x ∷ l) l) again
    on false again = again

pub filter_all : {X : Type 0} (p : X → Bool) (xs : List X) → ((i : ℕ) (x : X) → slice_get xs i ≡ Some x → p x ≡ true) → filter p xs ≡ xs
filter_all p [] all = refl
filter_all p (x ∷ xs) all = ap (λ b. cond b (x ∷ filter p xs) (filter p xs)) (all 0 x refl) ∙ ap (λ l. x ∷ l) (filter_all p xs (λ i y at. all (suc i) y at))

-- a test that only the back of a list passes
pub filter_back : {X : Type 0} (p : X → Bool) (front back : List X) → ((x : X) → IsIn front x → p x ≡ false) → ((x : X) → IsIn back x → p x ≡ true)
    → filter p (front ++ back) ≡ back
filter_back p front back none all =
    filter-append p front back
    ∙ (ap (λ l. l ++ filter p back) (filter_none p front (λ i x at. none x (i, at))) ∙ filter_all p back (λ i x at. all x (i, at)))

-- two tests that say the same
pub same_test : (a b : Bool) → (a ≡ true → b ≡ true) → (b ≡ true → a ≡ true) → a ≡ b
same_test true true there back = refl
same_test true false there back = sym (there refl)
same_test false true there back = back refl
same_test false false there back = refl

-- a list in which nothing stands is empty
pub nothing_in : {X : Type 0} (xs : List X) → ((x : X) → IsIn xs x → ⊥) → xs ≡ []
nothing_in [] none = refl
nothing_in (x ∷ xs) none = absurd (none x (0, refl))

-- ---- fronts and backs

pub take_below : {X : Type 0} (n : ℕ) (xs : List X) (k : ℕ) (x : X) → slice_get (take n xs) k ≡ Some x → k < n
take_below zero xs k x at = absurd (cc)
take_below (suc n) [] k x at = absurd (cc)
take_below (suc n) (y ∷ xs) zero x at = omega arith
take_below (suc n) (y ∷ xs) (suc k) x at = let less = take_below n xs k x at in omega (arith, less)

pub drop_there : {X : Type 0} (n : ℕ) (xs : List X) (k : ℕ) (x : X) → slice_get (drop n xs) k ≡ Some x → slice_get xs (n + k) ≡ Some x
drop_there zero xs k x at = let same : 0 + k ≡ k = omega arith in ap (λ i. slice_get xs i) same ∙ at
drop_there (suc n) [] k x at = absurd (cc)
drop_there (suc n) (y ∷ xs) k x at =
    let same : suc n + k ≡ suc (n + k) = omega arith in
    ap (λ i. slice_get (y ∷ xs) i) same ∙ drop_there n xs k x at

-- one more of a list, at a place
pub take-next : {A : Type 0} (xs : List A) (n k : ℕ) (x : A) → slice_get xs n ≡ Some x → take (suc k) (drop n xs) ≡ x ∷ take k (drop (n + 1) xs)
take-next xs n k x h =
    ap (λ l. take (suc k) l) (drop_more xs n x (slice_get_within xs n x h)) ∙ ap (λ y. y ∷ take k (drop (n + 1) xs)) (get_or_from_slice_get xs n x x h)

-- ---- what is found

pub found_passes : {A : Type 0} (p : A → Bool) (xs : List A) (x : A) → find p xs ≡ Some x → p x ≡ true
found_passes p [] x h = absurd cc
found_passes p (y ∷ ys) x h = on (p y) refl h (found_passes p ys x)
  where
    on : (b : Bool) → p y ≡ b → cond b (Some y) (find p ys) ≡ Some x → (find p ys ≡ Some x → p x ≡ true) → p x ≡ true
    on true e is again = let same : y ≡ x = cc in subst (λ z. p z ≡ true) same e
    on false e is again = again is

pub found_in : {A : Type 0} (p : A → Bool) (xs : List A) (x : A) → find p xs ≡ Some x → IsIn xs x
found_in p [] x h = absurd cc
found_in p (y ∷ ys) x h = on (p y) h (found_in p ys x)
  where
    on : (b : Bool) → cond b (Some y) (find p ys) ≡ Some x → (find p ys ≡ Some x → IsIn ys x) → IsIn (y ∷ ys) x
    on true is again = (0, is)
    on false is again = let there = again is in (suc there.0, there.1)

-- what is counted is found
pub found : {A : Type 0} (p : A → Bool) (xs : List A) → 1 ≤ count_by p xs → (x : A) × (find p xs ≡ Some x)
found p [] some = absurd (omega (arith, some))
found {A = A} p (y ∷ ys) some = on (p y) (subst (λ n. 1 ≤ n) (sum_by-cons (λ z. cond (p z) 1 0) y ys) some) (λ rest. found p ys rest)
  where
    on : (b : Bool) → 1 ≤ cond b 1 0 + count_by p ys → (1 ≤ count_by p ys → (x : A) × (find p ys ≡ Some x)) → (x : A) × (cond b (Some y) (find p ys) ≡ Some x)
    on true some again = (y, refl)
    on false some again = again (omega (arith, some))
