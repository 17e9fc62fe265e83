-- Functions of names with another value at one name, and lists with one more at the end.
use Rattle.std.proofs.Common.{◌≡◌, ◌≢◌, ◌+◌, ◌-◌, ℕ, suc, List, [], ◌∷◌, ◌++◌, length, length-append, Option, Some, refl, sym, ap, subst, ◌∙◌, ◌⊎◌, inl, inr, arith}
use Rattle.std.specs.Prelude.{slice_get, unwrap_or, ◌==◌}
use Rattle.std.proofs.lemmas.Bool.{eqb-true, eqb-false, eq-eqb, ne_eqb, cond-true, cond-false, cond_both}
use Rattle.cloud_facts.specs.Book.Records.{IsIn}
use Rattle.cloud_facts.specs.Book.Tally.{at}
use Rattle.cloud_facts.specs.Book.Telling.{last_or}
use Rattle.cloud_facts.proofs.Chains.Pieces.{in_cases, in_both, none_in}

pub plus_one : (n : ℕ) → suc n ≡ n + 1
plus_one n = omega arith

-- ---- functions of names

pub at_same : {V : Type 0} (name : ℕ) (value : V) (f : ℕ → V) (n : ℕ) → n ≡ name → at name value f n ≡ value
at_same name value f n e = cond-true (n == name) value (f n) (eq-eqb n name e)

pub at_other : {V : Type 0} (name : ℕ) (value : V) (f : ℕ → V) (n : ℕ) → n ≢ name → at name value f n ≡ f n
at_other name value f n ne = cond-false (n == name) value (f n) (ne_eqb n name ne)

-- what holds of the value where the names agree, and of the function elsewhere, holds of both
pub at_either : {V : Type 0} (P : V → Type 0) (name : ℕ) (value : V) (f : ℕ → V) (n : ℕ) → (n ≡ name → P value) → (n ≢ name → P (f n)) → P (at name value f n)
at_either P name value f n same other = cond_both (n == name) value (f n) P (λ e. same (eqb-true n name e)) (λ e. other (eqb-false n name e))

-- ---- one more at the end

pub end_stands : {A : Type 0} (xs : List A) (x : A) → slice_get (xs ++ x ∷ []) (length xs) ≡ Some x
end_stands [] x = refl
end_stands (y ∷ xs) x = end_stands xs x

pub last_added : {A : Type 0} (none : A) (xs : List A) (x : A) → last_or none (xs ++ x ∷ []) ≡ x
last_added {A} none xs x =
    let place : length (xs ++ x ∷ []) - 1 ≡ length xs = omega (arith, length-append xs (x ∷ [])) in
    ap (λ (i : ℕ). unwrap_or (slice_get (xs ++ x ∷ []) i) none) place ∙ ap (λ (o : Option A). unwrap_or o none) (end_stands xs x)

pub added_some : {A : Type 0} (xs : List A) (x : A) → xs ++ x ∷ [] ≢ []
added_some [] x e = absurd (cc)
added_some (y ∷ xs) x e = absurd (cc)

pub in_single : {A : Type 0} (x y : A) → IsIn (x ∷ []) y → x ≡ y
in_single {A} x y h = on (in_cases x [] y h)
  where
    on : (x ≡ y) ⊎ IsIn {A = A} [] y → x ≡ y
    on (inl e) = e
    on (inr k) = absurd (none_in y k)

-- what is in a function's list where one more was added to the list at one name
pub in_added : {A : Type 0} (name : ℕ) (x : A) (f : ℕ → List A) (n : ℕ) (y : A) → IsIn (at name (f name ++ x ∷ []) f n) y
    → IsIn (f n) y ⊎ ((n ≡ name) × (x ≡ y))
in_added {A} name x f n y h =
    at_either (λ (v : List A). IsIn v y → IsIn (f n) y ⊎ ((n ≡ name) × (x ≡ y))) name (f name ++ x ∷ []) f n
    (λ e k. on e (in_both (f name) (x ∷ []) y k)) (λ ne k. inl k) h
  where
    on : n ≡ name → IsIn (f name) y ⊎ IsIn (x ∷ []) y → IsIn (f n) y ⊎ ((n ≡ name) × (x ≡ y))
    on e (inl k) = inl (subst (λ (m : ℕ). IsIn (f m) y) (sym e) k)
    on e (inr k) = inr (e, in_single x y k)

pub added_none : {A : Type 0} (name : ℕ) (x : A) (f : ℕ → List A) (n : ℕ) → at name (f name ++ x ∷ []) f n ≡ [] → f n ≡ []
added_none {A} name x f n h =
    at_either (λ (v : List A). v ≡ [] → f n ≡ []) name (f name ++ x ∷ []) f n (λ e k. absurd (added_some (f name) x k)) (λ ne k. k) h
