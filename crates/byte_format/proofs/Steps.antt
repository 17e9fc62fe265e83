-- A step that did not fail, and one that did.
use Rattle.std.proofs.Common.{◌≡◌, ℕ, suc, ◌+◌, ◌<◌, Bool, true, false, List, ◌∷◌, ◌++◌, length, take, drop, Result, Ok, Err, ◌⊎◌, refl, subst, arith, inl, inr}
use Rattle.std.proofs.lemmas.Bool.{cases_lt}
use Rattle.std.proofs.lemmas.List.{get_or-append-add, get_or-drop, get_or-take, get_or_past, length-take}
use Rattle.byte_format.specs.Format.{◌>>=◌, guarded}
use Rattle.byte_format.specs.Whole.{IsBytes}

pub bind_ok : {A B : Type 0} (r : Result A ℕ) (f : A → Result B ℕ) (y : B) → (r >>= f) ≡ Ok y → (x : A) × (r ≡ Ok x) × (f x ≡ Ok y)
bind_ok (Ok x) f y e = (x, refl, e)
bind_ok (Err d) f y e = absurd cc

pub bind_err : {A B : Type 0} (r : Result A ℕ) (f : A → Result B ℕ) (d : ℕ) → (r >>= f) ≡ Err d → (r ≡ Err d) ⊎ ((x : A) × (r ≡ Ok x) × (f x ≡ Err d))
bind_err (Ok x) f d e = inr (x, refl, e)
bind_err (Err b) f d e = inl cc

abbrev done : {A : Type 0} → A → Result A ℕ
done x = Ok x

pub ok_is : {A : Type 0} (x y : A) → done x ≡ done y → x ≡ y
ok_is x y e = cc

pub never_err : {A : Type 0} (x : A) (d : ℕ) → done x ≡ Err d → ⊥
never_err x d e = cc

abbrev stopped : {A : Type 0} → ℕ → Result A ℕ
stopped left = Err left

pub err_is : {A : Type 0} (c d : ℕ) → stopped {A = A} c ≡ stopped d → c ≡ d
err_is c d e = cc

pub guarded_ok : {A : Type 0} (b : Bool) (bytes : List ℕ) (x y : A × List ℕ) → guarded b bytes x ≡ Ok y → (b ≡ true) × (x ≡ y)
guarded_ok true bytes x y e = (refl, cc)
guarded_ok false bytes x y e = absurd cc

pub guarded_err : {A : Type 0} (b : Bool) (bytes : List ℕ) (x : A × List ℕ) (d : ℕ) → guarded b bytes x ≡ Err d → length bytes ≡ d
guarded_err true bytes x d e = absurd cc
guarded_err false bytes x d e = cc

pub IsBytes-drop : (n : ℕ) (bytes : List ℕ) → IsBytes bytes → IsBytes (drop n bytes)
IsBytes-drop n bytes h i = rw get_or-drop (h (n + i))

pub IsBytes-take : (n : ℕ) (bytes : List ℕ) → IsBytes bytes → IsBytes (take n bytes)
IsBytes-take n bytes h i =
    elim (cases_lt i n) [
      | inl lt ↦ rw (get_or-take n bytes i 0 lt) (h i)
      | inr le ↦ rw (get_or_past (take n bytes) i 0 (omega (arith, length-take n bytes))) (omega arith)
    ]

-- the bytes behind a spelling
pub IsBytes-behind : (front rest : List ℕ) → IsBytes (front ++ rest) → IsBytes rest
IsBytes-behind front rest h i = let P : ℕ → Type 0 = λ n. n < 256 in subst P (get_or-append-add front rest i 0) (h (length front + i))

pub IsBytes-rest : (b : ℕ) (bytes : List ℕ) → IsBytes (b ∷ bytes) → IsBytes bytes
IsBytes-rest b bytes h i = h (suc i)

pub IsBytes-along : (xs ys : List ℕ) → xs ≡ ys → IsBytes xs → IsBytes ys
IsBytes-along xs ys e h = subst IsBytes e h
