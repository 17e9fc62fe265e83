-- The newest version of an object, by its bytes and by what is told of it.
use Rattle.std.proofs.Common.{◌≡◌, ◌+◌, ◌-◌, ◌==◌, ℕ, suc, Bool, true, false, cond, List, [], ◌∷◌, length, map, Option, Some, None, refl, sym, ap, subst, ◌∙◌, ◌⊎◌, inl, inr, arith}
use Rattle.std.specs.Option.{option_map, option_and_then}
use Rattle.std.specs.Prelude.{slice_get, unwrap_or, is_none}
use Rattle.std.proofs.lemmas.List.{length-map}
use Rattle.cloud_trait.specs.State.{newest_of, version_at, message_at}
use Rattle.cloud_facts.specs.Words.{ObjName, Version, Posted, StandsAt}
use Rattle.cloud_facts.specs.Book.Telling.{last_or, is_bare, is_gone}
use Rattle.cloud_facts.specs.Decoding.Kinds.{HasNth, IsRemoval, IsLastRemoval, AreOfKind}
use Rattle.cloud_facts.proofs.Book.Places.{get_map}

-- the last of a list
abbrev pub IsLast : {A : Type 0} → List A → A → Type 0
IsLast xs x = StandsAt xs (length xs - 1) x

last_of : {A : Type 0} (x : A) (xs : List A) → (y : A) × IsLast (x ∷ xs) y
last_of x [] = (x, refl)
last_of x (y ∷ xs) =
    let again = last_of y xs in
    let n : suc (length (y ∷ xs) - 1) ≡ length (x ∷ y ∷ xs) - 1 = omega arith in
    (again.0, subst (λ (k : ℕ). slice_get (x ∷ y ∷ xs) k ≡ Some again.0) n again.1)

-- a list is empty or has a last item
pub last_cases : {A : Type 0} (xs : List A) → (xs ≡ []) ⊎ ((x : A) × IsLast xs x)
last_cases [] = inl refl
last_cases (x ∷ xs) = inr (last_of x xs)

-- the last of the images is the image of the last
pub last_map : {A B : Type 0} (f : A → B) (none : B) (xs : List A) (x : A) → IsLast xs x → last_or none (map f xs) ≡ f x
last_map f none xs x last =
    let there : slice_get (map f xs) (length (map f xs) - 1) ≡ Some (f x) =
    subst (λ (n : ℕ). slice_get (map f xs) (n - 1) ≡ Some (f x)) (sym (length-map xs f)) (get_map f xs (length xs - 1) x last) in
    ap (λ o. unwrap_or o none) there

-- bytes that are there are those of something
told : {A : Type 0} (f : A → List ℕ) (o : Option A) (bytes : List ℕ) → option_map f o ≡ Some bytes → (x : A) × (o ≡ Some x) × (f x ≡ bytes)
told f (Some x) bytes e = (x, refl, cc)
told f None bytes e = absurd (cc)

-- .. also where something may have none
told_some : {A : Type 0} (f : A → Option (List ℕ)) (o : Option A) (bytes : List ℕ) → option_and_then f o ≡ Some bytes
    → (x : A) × (o ≡ Some x) × (f x ≡ Some bytes)
told_some f (Some x) bytes e = (x, refl, e)
told_some f None bytes e = absurd (cc)

-- the newest bytes are those of the last version
pub newest_last : (vs : List Version) (bytes : List ℕ) → newest_of vs ≡ Some bytes → (v : Version) × IsLast vs v × (v.bytes ≡ Some bytes)
newest_last vs bytes e = told_some (λ (v : Version). v.bytes) (slice_get vs (length vs - 1)) bytes e

-- ---- whether an object was removed, by its last version

pub last_there : (vs : List Version) (v : Version) (bytes : List ℕ) → IsLast vs v → v.bytes ≡ Some bytes → is_gone vs ≡ false
last_there vs v bytes last has = last_map is_bare false vs v last ∙ ap (λ (b : Option (List ℕ)). is_none b) has

pub last_gone : (vs : List Version) (v : Version) → IsLast vs v → v.bytes ≡ None → is_gone vs ≡ true
last_gone vs v last none = last_map is_bare false vs v last ∙ ap (λ (b : Option (List ℕ)). is_none b) none

-- each version of an object that was not removed has bytes
pub has_nth : (name : ObjName) (vs : List Version) (place : ℕ) (v : Version) → AreOfKind name vs → is_gone vs ≡ false → StandsAt vs place v
    → HasNth name (place + 1) v
has_nth name vs place v are there at = on (are place v at)
  where
    on : HasNth name (place + 1) v ⊎ IsLastRemoval name vs place v → HasNth name (place + 1) v
    on (inl has) = has
    on (inr r) =
        let n : place ≡ length vs - 1 = omega (arith, r.last) in
        let gone : is_gone vs ≡ true = last_gone vs v (subst (λ (k : ℕ). StandsAt vs k v) n at) r.none in
        let no : true ≡ false = sym gone ∙ there in
        absurd (cc)

-- heads and roots are never removed
pub never_gone : (name : ObjName) (vs : List Version) → (IsRemoval name → ⊥) → AreOfKind name vs → is_gone vs ≡ false
never_gone name vs never are = on (last_cases vs)
  where
    on : (vs ≡ []) ⊎ ((v : Version) × IsLast vs v) → is_gone vs ≡ false
    on (inl e) = ap (λ (xs : List Version). is_gone xs) e
    on (inr p) = by (are (length vs - 1) p.0 p.1)
      where
        by : HasNth name ((length vs - 1) + 1) p.0 ⊎ IsLastRemoval name vs (length vs - 1) p.0 → is_gone vs ≡ false
        by (inl has) = last_there vs p.0 has.0 p.1 has.1
        by (inr r) = absurd (never r.removal)

-- an object that was not removed and has no newest bytes has no version
pub no_version : (name : ObjName) (vs : List Version) → AreOfKind name vs → is_gone vs ≡ false → newest_of vs ≡ None → vs ≡ []
no_version name vs are there none = on (last_cases vs)
  where
    on : (vs ≡ []) ⊎ ((v : Version) × IsLast vs v) → vs ≡ []
    on (inl e) = e
    on (inr p) =
        let k = has_nth name vs (length vs - 1) p.0 are there p.1 in
        let some : newest_of vs ≡ Some k.0 = ap (λ (o : Option Version). option_and_then (λ (v : Version). v.bytes) o) p.1 ∙ k.1 in
        let clash : None ≡ Some k.0 = sym none ∙ some in
        absurd (cc)

-- the bytes of a number are those of the version, or of the message, at its place
pub version_there : (vs : List Version) (n : ℕ) (bytes : List ℕ) → version_at vs n ≡ Some bytes → (v : Version) × StandsAt vs (n - 1) v × (v.bytes ≡ Some bytes)
version_there vs n bytes e = on (n == 0) e
  where
    on : (b : Bool) → cond b None (option_and_then (λ (v : Version). v.bytes) (slice_get vs (n - 1))) ≡ Some bytes
        → (v : Version) × StandsAt vs (n - 1) v × (v.bytes ≡ Some bytes)
    on true h = absurd (cc)
    on false h = told_some (λ (v : Version). v.bytes) (slice_get vs (n - 1)) bytes h

pub message_there : (ms : List Posted) (n : ℕ) (bytes : List ℕ) → message_at ms n ≡ Some bytes → (m : Posted) × StandsAt ms (n - 1) m × (m.bytes ≡ bytes)
message_there ms n bytes e = on (n == 0) e
  where
    on : (b : Bool) → cond b None (option_map (λ (m : Posted). m.bytes) (slice_get ms (n - 1))) ≡ Some bytes
        → (m : Posted) × StandsAt ms (n - 1) m × (m.bytes ≡ bytes)
    on true h = absurd (cc)
    on false h = told (λ (m : Posted). m.bytes) (slice_get ms (n - 1)) bytes h
