-- Places of lists that grow, and of messages that are marked.
use Rattle.std.proofs.Common.{◌≡◌, ◌+◌, ◌-◌, ◌<◌, ℕ, zero, suc, List, [], ◌∷◌, ◌++◌, length, map, Some, refl, sym, ap, subst, ◌⊎◌, inl, inr, Bool, true, false, cond, eqb-true, arith}
use Rattle.std.specs.Prelude.{slice_get, ◌==◌}
use Rattle.cloud_trait.specs.declared.state.Posted.{Posted}
use Rattle.cloud_trait.specs.State.{mark_at, marked}
use Rattle.cloud_facts.specs.Book.Records.{IsIn}

-- what stands in the front of a list
pub get_front : {X : Type 0} (xs ys : List X) (i : ℕ) (x : X) → slice_get xs i ≡ Some x → slice_get (xs ++ ys) i ≡ Some x
get_front [] ys i x e = absurd (cc)
get_front (y ∷ xs) ys zero x e = e
get_front (y ∷ xs) ys (suc i) x e = get_front xs ys i x e

-- what stands in two lists behind one another stands in one of them
pub get_cases : {X : Type 0} (xs ys : List X) (i : ℕ) (x : X) → slice_get (xs ++ ys) i ≡ Some x
    → (slice_get xs i ≡ Some x) ⊎ ((j : ℕ) × (i ≡ length xs + j) × (slice_get ys j ≡ Some x))
get_cases [] ys i x e = inr (i, omega arith, e)
get_cases (y ∷ xs) ys zero x e = inl e
get_cases (y ∷ xs) ys (suc i) x e = next (get_cases xs ys i x e)
  where
    next : (slice_get xs i ≡ Some x) ⊎ ((j : ℕ) × (i ≡ length xs + j) × (slice_get ys j ≡ Some x))
        → (slice_get (y ∷ xs) (suc i) ≡ Some x) ⊎ ((j : ℕ) × (suc i ≡ length (y ∷ xs) + j) × (slice_get ys j ≡ Some x))
    next (inl h) = inl h
    next (inr p) = inr (p.0, omega (arith, p.1), p.2)

-- the one of a list of one
pub get_single : {X : Type 0} (y : X) (i : ℕ) (x : X) → slice_get (y ∷ []) i ≡ Some x → y ≡ x
get_single y zero x e = cc
get_single y (suc i) x e = absurd (cc)

-- marking changes one message alone
mark_other : (ms : List Posted) (i k : ℕ) (m : Posted) → slice_get ms k ≡ Some m → (k ≡ i → ⊥) → slice_get (mark_at ms i) k ≡ Some m
mark_other [] i k m e ne = absurd (cc)
mark_other (n ∷ ms) zero zero m e ne = absurd (ne refl)
mark_other (n ∷ ms) zero (suc k) m e ne = e
mark_other (n ∷ ms) (suc i) zero m e ne = e
mark_other (n ∷ ms) (suc i) (suc k) m e ne = mark_other ms i k m e (λ h. ne (ap suc h))

-- marking changes no bytes
mark_bytes : (ms : List Posted) (i k : ℕ) (m : Posted) → slice_get (mark_at ms i) k ≡ Some m → (n : Posted) × (slice_get ms k ≡ Some n) × (m.bytes ≡ n.bytes)
mark_bytes [] i k m e = absurd (cc)
mark_bytes (n ∷ ms) zero zero m e = let h : record { who = n.who; bytes = n.bytes; deleted = true } ≡ m = cc in (n, refl, sym (ap (λ (p : Posted). p.bytes) h))
mark_bytes (n ∷ ms) zero (suc k) m e = (m, e, refl)
mark_bytes (n ∷ ms) (suc i) zero m e = (m, e, refl)
mark_bytes (n ∷ ms) (suc i) (suc k) m e = mark_bytes ms i k m e

pub marked_other : (ms : List Posted) (id k : ℕ) (m : Posted) → slice_get ms k ≡ Some m → (id ≡ k + 1 → ⊥) → slice_get (marked ms id) k ≡ Some m
marked_other ms zero k m e ne = e
marked_other ms (suc id) k m e ne = on (suc id == 0)
  where
    on : (b : Bool) → slice_get (cond b ms (mark_at ms (suc id - 1))) k ≡ Some m
    on true = e
    on false = mark_other ms (suc id - 1) k m e (λ h. ne (omega (arith, h)))

pub marked_bytes : (ms : List Posted) (id k : ℕ) (m : Posted) → slice_get (marked ms id) k ≡ Some m → (n : Posted) × (slice_get ms k ≡ Some n) × (m.bytes ≡ n.bytes)
marked_bytes ms id k m e = on (id == 0) e
  where
    on : (b : Bool) → slice_get (cond b ms (mark_at ms (id - 1))) k ≡ Some m → (n : Posted) × (slice_get ms k ≡ Some n) × (m.bytes ≡ n.bytes)
    on true h = (m, h, refl)
    on false h = mark_bytes ms (id - 1) k m h

-- what stands in the second of two lists
pub get_behind : {X : Type 0} (xs ys : List X) (i : ℕ) (x : X) → slice_get ys i ≡ Some x → slice_get (xs ++ ys) (length xs + i) ≡ Some x
get_behind {X} [] ys i x e = let h : i ≡ length {A = X} [] + i = omega arith in subst (λ k. slice_get ys k ≡ Some x) h e
get_behind {X} (y ∷ xs) ys i x e =
    let h : suc (length xs + i) ≡ length (y ∷ xs) + i = omega arith in
    subst (λ k. slice_get (y ∷ (xs ++ ys)) k ≡ Some x) h (get_behind xs ys i x e)

-- what is in two lists behind one another is in one of them
pub in_either : {X : Type 0} (xs ys : List X) (x : X) → IsIn (xs ++ ys) x → IsIn xs x ⊎ IsIn ys x
in_either xs ys x is = on (get_cases xs ys is.0 x is.1)
  where
    on : (slice_get xs is.0 ≡ Some x) ⊎ ((j : ℕ) × (is.0 ≡ length xs + j) × (slice_get ys j ≡ Some x)) → IsIn xs x ⊎ IsIn ys x
    on (inl h) = inl (is.0, h)
    on (inr p) = inr (p.0, p.2)

pub in_front : {X : Type 0} (xs ys : List X) (x : X) → IsIn xs x → IsIn (xs ++ ys) x
in_front xs ys x is = (is.0, get_front xs ys is.0 x is.1)

-- nothing is in the empty list
pub in_none : {X : Type 0} (xs : List X) (x : X) → xs ≡ [] → IsIn xs x → ⊥
in_none [] x e (place, there) = absurd (cc)
in_none (y ∷ ys) x e is = absurd (cc)

-- a place of something is within the list
pub get_within : {X : Type 0} (xs : List X) (i : ℕ) (x : X) → slice_get xs i ≡ Some x → i < length xs
get_within [] i x e = absurd (cc)
get_within (y ∷ xs) zero x e = omega arith
get_within (y ∷ xs) (suc i) x e = let h = get_within xs i x e in omega (arith, h)

-- what stands in a list stands as its image in the mapped one
pub get_map : {X Y : Type 0} (f : X → Y) (xs : List X) (i : ℕ) (x : X) → slice_get xs i ≡ Some x → slice_get (map f xs) i ≡ Some (f x)
get_map f [] i x e = absurd (cc)
get_map f (y ∷ xs) zero x e = cc
get_map f (y ∷ xs) (suc i) x e = get_map f xs i x e

-- a message stands where it stood, with its bytes, where one is marked
mark_front : (ms : List Posted) (i k : ℕ) (m : Posted) → slice_get ms k ≡ Some m → (n : Posted) × (slice_get (mark_at ms i) k ≡ Some n) × (n.bytes ≡ m.bytes)
mark_front [] i k m e = absurd (cc)
mark_front (n ∷ ms) zero zero m e = let h : n ≡ m = cc in (record { who = n.who; bytes = n.bytes; deleted = true }, refl, ap (λ (p : Posted). p.bytes) h)
mark_front (n ∷ ms) zero (suc k) m e = (m, e, refl)
mark_front (n ∷ ms) (suc i) zero m e = (m, e, refl)
mark_front (n ∷ ms) (suc i) (suc k) m e = mark_front ms i k m e

pub marked_front : (ms : List Posted) (id k : ℕ) (m : Posted) → slice_get ms k ≡ Some m → (n : Posted) × (slice_get (marked ms id) k ≡ Some n) × (n.bytes ≡ m.bytes)
marked_front ms id k m e = on (id == 0)
  where
    on : (b : Bool) → (n : Posted) × (slice_get (cond b ms (mark_at ms (id - 1))) k ≡ Some n) × (n.bytes ≡ m.bytes)
    on true = (m, e, refl)
    on false = mark_front ms (id - 1) k m e

pub in_behind : {X : Type 0} (xs ys : List X) (x : X) → IsIn ys x → IsIn (xs ++ ys) x
in_behind xs ys x is = (length xs + is.0, get_behind xs ys is.0 x is.1)

-- the message that is marked is deleted then
mark_here : (ms : List Posted) (k : ℕ) (m : Posted) → slice_get ms k ≡ Some m → (n : Posted) × (slice_get (mark_at ms k) k ≡ Some n) × (n.deleted ≡ true)
mark_here [] k m e = absurd (cc)
mark_here (n ∷ ms) zero m e = (record { who = n.who; bytes = n.bytes; deleted = true }, refl, refl)
mark_here (n ∷ ms) (suc k) m e = mark_here ms k m e

pub marked_here : (ms : List Posted) (id k : ℕ) (m : Posted) → slice_get ms k ≡ Some m → id ≡ k + 1 → (n : Posted) × (slice_get (marked ms id) k ≡ Some n) × (n.deleted ≡ true)
marked_here ms id k m e is = on (id == 0) refl
  where
    on : (b : Bool) → (id == 0) ≡ b → (n : Posted) × (slice_get (cond b ms (mark_at ms (id - 1))) k ≡ Some n) × (n.deleted ≡ true)
    on true h = let none : id ≡ 0 = eqb-true id 0 h in absurd (omega (arith, none, is))
    on false h =
        let at : k ≡ id - 1 = omega (arith, is) in
        subst (λ i. (n : Posted) × (slice_get (mark_at ms i) k ≡ Some n) × (n.deleted ≡ true)) at (mark_here ms k m e)
