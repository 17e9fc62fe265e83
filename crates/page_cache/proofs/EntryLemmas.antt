-- Lists of pairs without one of them, and the front of such lists.
use Rattle.std.proofs.Common.{◌≡◌, ℕ, zero, suc, ◌+◌, ◌≤◌, ◌⊎◌, inl, inr, Bool, true, false, cond, List, [], ◌∷◌, length, take, Option, Some, None, refl, sym, ap, ◌∙◌, subst, arith}
use Rattle.std.specs.List.{AllByRecursion, IsDistinct}
use Rattle.std.specs.Map.{keys_of, lookup, lookup_entry, remove_entry}
use Rattle.indexmap.specs.IndexMap.{insert_entry}

module _ {K X : Type 0} (test : K → Bool) where
  -- what holds of each pair holds of each that is left
  pub all_left : (P : K × X → Type 0) (es : List (K × X)) → AllByRecursion P es → AllByRecursion P (remove_entry test es)
  all_left P [] h = tt
  all_left P (e ∷ es) h = on (test e.0) (all_left P es h.1)
    where
      on : (b : Bool) → AllByRecursion P (remove_entry test es) → AllByRecursion P (cond b es (e ∷ remove_entry test es))
      on true rest = h.1
      on false rest = (h.0, rest)

  pub keys_left : (P : K → Type 0) (es : List (K × X)) → AllByRecursion P (keys_of es) → AllByRecursion P (keys_of (remove_entry test es))
  keys_left P [] h = tt
  keys_left P (e ∷ es) h = on (test e.0) (keys_left P es h.1)
    where
      on : (b : Bool) → AllByRecursion P (keys_of (remove_entry test es)) → AllByRecursion P (keys_of (cond b es (e ∷ remove_entry test es)))
      on true rest = h.1
      on false rest = (h.0, rest)

  pub distinct_left : (eq : K → K → Bool) (es : List (K × X)) → IsDistinct eq (keys_of es) → IsDistinct eq (keys_of (remove_entry test es))
  unfolding IsDistinct
  distinct_left eq [] h = tt
  distinct_left eq (e ∷ es) h = on (test e.0) (keys_left (λ y. eq e.0 y ≡ false) es h.0) (distinct_left eq es h.1)
    where
      on : (b : Bool) → AllByRecursion (λ y. eq e.0 y ≡ false) (keys_of (remove_entry test es)) → IsDistinct eq (keys_of (remove_entry test es))
          → IsDistinct eq (keys_of (cond b es (e ∷ remove_entry test es)))
      on true apart rest = h.1
      on false apart rest = (apart, rest)

  -- no more are left
  pub no_more_left : (es : List (K × X)) → length (remove_entry test es) ≤ length es
  no_more_left [] = omega arith
  no_more_left (e ∷ es) = on (test e.0) (no_more_left es)
    where
      on : (b : Bool) → length (remove_entry test es) ≤ length es → length (cond b es (e ∷ remove_entry test es)) ≤ length (e ∷ es)
      on true rest = omega arith
      on false rest = omega arith

  -- one fewer where there was such a pair, and all where there was none
  pub one_fewer : (es : List (K × X)) (e : K × X) → lookup_entry test es ≡ Some e → (length (remove_entry test es) + 1 ≡ length es) × (test e.0 ≡ true)
  one_fewer [] e h = cc
  one_fewer (f ∷ es) e h = on (test f.0) refl h (one_fewer es e)
    where
      on : (b : Bool) → test f.0 ≡ b → cond b (Some f) (lookup_entry test es) ≡ Some e
          → (lookup_entry test es ≡ Some e → (length (remove_entry test es) + 1 ≡ length es) × (test e.0 ≡ true))
          → (length (cond b es (f ∷ remove_entry test es)) + 1 ≡ length (f ∷ es)) × (test e.0 ≡ true)
      on true is here rest = let same : f ≡ e = cc in (omega arith, subst (λ (g : K × X). test g.0 ≡ true) same is)
      on false is here rest = let r = rest here in (omega (arith, r.0), r.1)

  pub all_stay : (es : List (K × X)) → lookup_entry test es ≡ None → remove_entry test es ≡ es
  all_stay [] h = refl
  all_stay (f ∷ es) h = on (test f.0) h (all_stay es)
    where
      on : (b : Bool) → cond b (Some f) (lookup_entry test es) ≡ None → (lookup_entry test es ≡ None → remove_entry test es ≡ es)
          → cond b es (f ∷ remove_entry test es) ≡ f ∷ es
      on true here rest = cc
      on false here rest = ap (λ (l : List (K × X)). f ∷ l) (rest here)

  -- a look-up in the front of a list finds what it finds in the list, or nothing
  pub lookup-take : (n : ℕ) (es : List (K × X)) → (lookup test (take n es) ≡ lookup test es) ⊎ (lookup test (take n es) ≡ None)
  lookup-take zero es = inr refl
  lookup-take (suc n) [] = inl refl
  lookup-take (suc n) (e ∷ es) = on (test e.0) (lookup-take n es)
    where
      on : (b : Bool) → (lookup test (take n es) ≡ lookup test es) ⊎ (lookup test (take n es) ≡ None)
          → (cond b (Some e.1) (lookup test (take n es)) ≡ cond b (Some e.1) (lookup test es)) ⊎ (cond b (Some e.1) (lookup test (take n es)) ≡ None)
      on true rest = inl refl
      on false rest = rest

module _ {K X : Type 0} where
  -- the front of a list
  pub all_front : (P : K × X → Type 0) (n : ℕ) (es : List (K × X)) → AllByRecursion P es → AllByRecursion P (take n es)
  all_front P zero es h = tt
  all_front P (suc n) [] h = tt
  all_front P (suc n) (e ∷ es) h = (h.0, all_front P n es h.1)

  pub keys_front : (P : K → Type 0) (n : ℕ) (es : List (K × X)) → AllByRecursion P (keys_of es) → AllByRecursion P (keys_of (take n es))
  keys_front P zero es h = tt
  keys_front P (suc n) [] h = tt
  keys_front P (suc n) (e ∷ es) h = (h.0, keys_front P n es h.1)

  pub distinct_front : (eq : K → K → Bool) (n : ℕ) (es : List (K × X)) → IsDistinct eq (keys_of es) → IsDistinct eq (keys_of (take n es))
  unfolding IsDistinct
  distinct_front eq zero es h = tt
  distinct_front eq (suc n) [] h = tt
  distinct_front eq (suc n) (e ∷ es) h = (keys_front (λ y. eq e.0 y ≡ false) n es h.0, distinct_front eq n es h.1)

  pub few_front : (n : ℕ) (es : List (K × X)) → length (take n es) ≤ n
  few_front zero es = omega arith
  few_front (suc n) [] = omega arith
  few_front (suc n) (e ∷ es) = omega (arith, few_front n es)

  pub whole_front : (n : ℕ) (es : List (K × X)) → length es ≤ n → take n es ≡ es
  whole_front zero [] h = refl
  whole_front zero (e ∷ es) h = absurd (omega (arith, h))
  whole_front (suc n) [] h = refl
  whole_front (suc n) (e ∷ es) h = ap (λ (l : List (K × X)). e ∷ l) (whole_front n es (omega (arith, h)))

-- a look-up by a test that no removed key passes
module _ {K X : Type 0} (test : K → Bool) where
  pub lookup-others : (gone : K → Bool) → ((k : K) → gone k ≡ true → test k ≡ false) → (es : List (K × X)) → lookup test (remove_entry gone es) ≡ lookup test es
  lookup-others gone apart [] = refl
  lookup-others gone apart (e ∷ es) = on (gone e.0) refl (lookup-others gone apart es)
    where
      on : (b : Bool) → gone e.0 ≡ b → lookup test (remove_entry gone es) ≡ lookup test es
          → lookup test (cond b es (e ∷ remove_entry gone es)) ≡ cond (test e.0) (Some e.1) (lookup test es)
      on true is rest = sym (ap (λ (b : Bool). cond b (Some e.1) (lookup test es)) (apart e.0 is))
      on false is rest = ap (λ (o : Option X). cond (test e.0) (Some e.1) o) rest

  -- an entry for another key changes no look-up
  pub lookup-inserted_other : (eq : K → K → Bool) (es : List (K × X)) (k : K) (v : X) → ((j : K) → eq k j ≡ true → test j ≡ false) → test k ≡ false
      → lookup test (insert_entry eq es k v) ≡ lookup test es
  lookup-inserted_other eq [] k v other own = ap (λ (b : Bool). cond b (Some v) None) own
  lookup-inserted_other eq (e ∷ es) k v other own = on (eq k e.0) refl (lookup-inserted_other eq es k v other own)
    where
      on : (b : Bool) → eq k e.0 ≡ b → lookup test (insert_entry eq es k v) ≡ lookup test es
          → lookup test (cond b ((e.0, v) ∷ es) (e ∷ insert_entry eq es k v)) ≡ cond (test e.0) (Some e.1) (lookup test es)
      on true is rest =
          ap (λ (b : Bool). cond b (Some v) (lookup test es)) (other e.0 is) ∙ sym (ap (λ (b : Bool). cond b (Some e.1) (lookup test es)) (other e.0 is))
      on false is rest = ap (λ (o : Option X). cond (test e.0) (Some e.1) o) rest

-- an inserted entry is found
pub lookup-inserted : {K X : Type 0} (eq : K → K → Bool) (es : List (K × X)) (k : K) (v : X) → eq k k ≡ true → lookup (eq k) (insert_entry eq es k v) ≡ Some v
lookup-inserted {X = X} eq [] k v same = ap (λ (b : Bool). cond b (Some v) None) same
lookup-inserted {K = K} {X = X} eq (e ∷ es) k v same = on (eq k e.0) refl (lookup-inserted eq es k v same)
  where
    on : (b : Bool) → eq k e.0 ≡ b → lookup (eq k) (insert_entry eq es k v) ≡ Some v
        → lookup (eq k) (cond b ((e.0, v) ∷ es) (e ∷ insert_entry eq es k v)) ≡ Some v
    on true is rest = ap (λ (b : Bool). cond b (Some v) (lookup (eq k) es)) is
    on false is rest = ap (λ (b : Bool). cond b (Some e.1) (lookup (eq k) (insert_entry eq es k v))) is ∙ rest

-- where no key passes, nothing is found
pub lookup-nothing : {K X : Type 0} (test : K → Bool) (es : List (K × X)) → AllByRecursion (λ y. test y ≡ false) (keys_of es) → lookup test es ≡ None
lookup-nothing test [] h = refl
lookup-nothing test (e ∷ es) h = ap (λ (b : Bool). cond b (Some e.1) (lookup test es)) h.0 ∙ lookup-nothing test es h.1
