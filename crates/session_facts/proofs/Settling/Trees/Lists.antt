-- Numbers of which none comes twice are no more than there are.
use Rattle.std.proofs.Common.{◌≡◌, ◌≢◌, ◌+◌, ◌<◌, ◌≤◌, ◌⊎◌, inl, inr, ℕ, zero, suc, Bool, true, false, ◌==◌, List, [], ◌∷◌, ◌++◌, length, refl, sym, subst, ◌∙◌, arith}
use Rattle.std.proofs.lemmas.Bool.{eqb-true, eqb-false}
use Rattle.cloud_facts.proofs.Book.Lengths.{apart_fits}
use Rattle.cloud_facts.proofs.Chains.Pieces.{none_in, in_first, in_rest, in_both}
use Rattle.cloud_facts.proofs.Chains.Names.{in_single}
use Rattle.cloud_facts.specs.Book.Records.{IsIn, Apart}

-- ---- numbers

-- the numbers from 1 on
up_to : ℕ → List ℕ
up_to zero = []
up_to (suc n) = suc n ∷ up_to n

as_many : (n : ℕ) → length (up_to n) ≡ n
unfolding up_to
as_many zero = refl
as_many (suc n) = let rest = as_many n in omega (arith, rest)

there_up_to : (n m : ℕ) → 1 ≤ m → m ≤ n → IsIn (up_to n) m
unfolding up_to
there_up_to zero m some most = absurd (omega (arith, some, most))
there_up_to (suc n) m some most = on (m == suc n) refl (λ low. there_up_to n m some low)
  where
    on : (b : Bool) → (m == suc n) ≡ b → (m ≤ n → IsIn (up_to n) m) → IsIn (suc n ∷ up_to n) m
    on true e again = subst (IsIn (suc n ∷ up_to n)) (sym (eqb-true m (suc n) e)) (in_first (suc n) (up_to n))
    on false e again = let other = eqb-false m (suc n) e in in_rest (suc n) (up_to n) m (again (omega (arith, most, other)))

-- so many pages are no more than there are numbers for them
pub pages_fit : (pages : List ℕ) (p next : ℕ) → Apart pages → ((page : ℕ) → IsIn pages page → (1 ≤ page) × (page < next)) → next ≤ p + 1 → length pages ≤ p
pages_fit pages p next apart within room =
    let few = apart_fits pages (up_to p) apart there in
    let many = as_many p in
    omega (arith, few, many)
  where
    there : (page : ℕ) → IsIn pages page → IsIn (up_to p) page
    there page is = let w = within page is in let low = w.0 in let high = w.1 in there_up_to p page low (omega (arith, high, room))

-- ---- one more

pub apart_more : {X : Type 0} (xs : List X) (x : X) → Apart xs → ((y : X) → IsIn xs y → y ≢ x) → Apart (xs ++ x ∷ [])
apart_more [] x apart new = (λ y is same. none_in y is, tt)
apart_more {X} (z ∷ xs) x apart new = (λ y is. on y (in_both xs (x ∷ []) y is), apart_more xs x apart.1 (λ y is. new y (in_rest z xs y is)))
  where
    on : (y : X) → IsIn xs y ⊎ IsIn (x ∷ []) y → y ≢ z
    on y (inl is) same = apart.0 y is same
    on y (inr is) same = new z (in_first z xs) (sym same ∙ sym (in_single x y is))
