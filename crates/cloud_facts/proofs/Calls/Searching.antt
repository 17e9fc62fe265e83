-- What is found in a list.
use Rattle.std.proofs.Common.{◌≡◌, ◌<◌, ◌⊎◌, inl, inr, ℕ, zero, suc, Bool, true, false, cond, List, [], ◌∷◌, ◌++◌, length, reverse, Some, None, refl, sym, ap, subst, ◌∙◌, arith}
use Rattle.std.specs.Prelude.{slice_get, find}
use Rattle.std.proofs.lemmas.List.{reverse-append}
use Rattle.cloud_facts.specs.Book.Records.{IsIn}
use Rattle.cloud_facts.proofs.Book.Places.{in_either, in_front, in_behind, in_none}

module _ {X : Type 0} where
  some_is : (x y : X) → Some x ≡ Some y → x ≡ y
  some_is x y e = cc

  -- what stands at a place of a list
  pub stands_below : (xs : List X) (place : ℕ) → place < length xs → (x : X) × (slice_get xs place ≡ Some x)
  stands_below [] place less = absurd (omega (arith, less))
  stands_below (x ∷ xs) zero less = (x, refl)
  stands_below (x ∷ xs) (suc place) less = stands_below xs place (omega (arith, less))

  -- what is found is in the list, and passes the test
  pub found : (p : X → Bool) (xs : List X) (x : X) → find p xs ≡ Some x → IsIn xs x × (p x ≡ true)
  found p [] x e = absurd (cc)
  found p (y ∷ ys) x e = on (p y) refl (found p ys x) e
    where
      on : (b : Bool) → p y ≡ b → (find p ys ≡ Some x → IsIn ys x × (p x ≡ true)) → cond b (Some y) (find p ys) ≡ Some x → IsIn (y ∷ ys) x × (p x ≡ true)
      on true t again h = let same : y ≡ x = some_is y x h in ((zero, ap (λ (z : X). Some z) same), subst (λ (z : X). p z ≡ true) same t)
      on false t again h = let r = again h in ((suc r.0.0, r.0.1), r.1)

  -- where nothing is found nothing passes
  pub not_found : (p : X → Bool) (xs : List X) → find p xs ≡ None → (x : X) → IsIn xs x → p x ≡ true → ⊥
  not_found p [] e x is t = in_none [] x refl is
  not_found p (y ∷ ys) e x is t = on (p y) refl (λ none there. not_found p ys none x there t) e is
    where
      never : false ≡ true → ⊥
      never q = cc

      on : (b : Bool) → p y ≡ b → (find p ys ≡ None → IsIn ys x → ⊥) → cond b (Some y) (find p ys) ≡ None → IsIn (y ∷ ys) x → ⊥
      on true h again none is_in = absurd (cc)
      on false h again none (zero, there) = let same : y ≡ x = some_is y x there in absurd (never (sym h ∙ (ap p same ∙ t)))
      on false h again none (suc place, there) = again none (place, there)

  reverse_cons : (x : X) (xs : List X) → reverse (x ∷ xs) ≡ reverse xs ++ x ∷ []
  reverse_cons x xs = reverse-append (x ∷ []) xs

  -- what is in the list is in it from behind
  pub in_reverse : (xs : List X) (x : X) → IsIn xs x → IsIn (reverse xs) x
  in_reverse [] x is = is
  in_reverse (y ∷ ys) x (zero, there) = subst (λ l. IsIn l x) (sym (reverse_cons y ys)) (in_behind (reverse ys) (y ∷ []) x (zero, there))
  in_reverse (y ∷ ys) x (suc place, there) = subst (λ l. IsIn l x) (sym (reverse_cons y ys)) (in_front (reverse ys) (y ∷ []) x (in_reverse ys x (place, there)))

  pub from_reverse : (xs : List X) (x : X) → IsIn (reverse xs) x → IsIn xs x
  from_reverse [] x is = is
  from_reverse (y ∷ ys) x is = on (from_reverse ys x) (in_either (reverse ys) (y ∷ []) x (subst (λ l. IsIn l x) (reverse_cons y ys) is))
    where
      on : (IsIn (reverse ys) x → IsIn ys x) → IsIn (reverse ys) x ⊎ IsIn (y ∷ []) x → IsIn (y ∷ ys) x
      on again (inl old) = let r = again old in (suc r.0, r.1)
      on again (inr (zero, there)) = (zero, there)
      on again (inr (suc place, there)) = absurd (in_none [] x refl (place, there))
