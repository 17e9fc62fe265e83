-- What a change at one name leaves at each.
use Rattle.std.proofs.Common.{◌≡◌, ℕ, Bool, true, false, cond, refl, sym, subst, ◌==◌, ◌&&◌}
use Rattle.std.proofs.lemmas.Bool.{eqb-true, and_parts, eq-eqb, ne_eqb}
use Rattle.cloud_facts.specs.Book.Tally.{at, at2}

-- what holds of the new value at its name, and of each old one, holds at each name
pub at_by : {V : Type 0} (P : ℕ → V → Type 0) (name : ℕ) (v : V) (f : ℕ → V) → P name v → ((n : ℕ) → P n (f n)) → (n : ℕ) → P n (at name v f n)
at_by {V} P name v f here there n = on (n == name) refl
  where
    on : (b : Bool) → (n == name) ≡ b → P n (cond b v (f n))
    on true e = let Q : ℕ → Type 0 = λ x. P x v in subst Q (sym (eqb-true n name e)) here
    on false e = there n

pub at2_by : {V : Type 0} (P : ℕ → ℕ → V → Type 0) (a b : ℕ) (v : V) (f : ℕ → ℕ → V) → P a b v → ((m n : ℕ) → P m n (f m n)) → (m n : ℕ) → P m n (at2 a b v f m n)
at2_by {V} P a b v f here there m n = on ((m == a) && (n == b)) refl
  where
    on : (c : Bool) → (m == a) && (n == b) ≡ c → P m n (cond c v (f m n))
    on true e =
        let p = and_parts (m == a) (n == b) e in
        let Q : ℕ → Type 0 = λ x. P x n v in
        let R : ℕ → Type 0 = λ x. P a x v in
        subst Q (sym (eqb-true m a p.0)) (subst R (sym (eqb-true n b p.1)) here)
    on false e = there m n

-- the value at its name, and at another
pub at_same : {V : Type 0} (name : ℕ) (v : V) (f : ℕ → V) (n : ℕ) → n ≡ name → at name v f n ≡ v
at_same name v f n e = let h : (n == name) ≡ true = eq-eqb n name e in rw h refl

pub at_other : {V : Type 0} (name : ℕ) (v : V) (f : ℕ → V) (n : ℕ) → (n ≡ name → ⊥) → at name v f n ≡ f n
at_other name v f n ne = let h : (n == name) ≡ false = ne_eqb n name ne in rw h refl
