-- What stands in a list from a place on.
use Rattle.std.proofs.Common.{◌≡◌, ℕ, ◌+◌, ◌<◌, ◌≤◌, List, ◌∷◌, ◌++◌, length, drop, Some, None, sym, ap, ◌∙◌, arith, length-append, slice_index_or, suc, add-one, ⊎_elim}
use Rattle.std.specs.Prelude.{slice_get, unwrap_or, Any}
use Rattle.std.proofs.lemmas.Option.{slice_get_cases, slice_get_within, unwrap_or-slice_get}
use Rattle.std.proofs.Math.Seq.{drop-cons, get_or-append_seam}

-- what is left from a place on begins with the item at the place
pub drop-at : {X : Type 0} (xs : List X) (k : ℕ) (x : X) → k < length xs → slice_index_or xs k x ≡ x → drop k xs ≡ x ∷ drop (k + 1) xs
drop-at xs k x below e = drop-cons xs k x below ∙ (ap (λ y. y ∷ drop (suc k) xs) e ∙ ap (λ j. x ∷ drop j xs) (sym (add-one k)))

pub drop-here : {X : Type 0} (xs : List X) (k : ℕ) (x : X) → slice_get xs k ≡ Some x → drop k xs ≡ x ∷ drop (k + 1) xs
drop-here xs k x e = drop-at xs k x (slice_get_within xs k x e) (sym (unwrap_or-slice_get xs k x) ∙ ap (λ o. unwrap_or o x) e)

-- a place without an item is at the end or behind it
pub past_none : {X : Type 0} (xs : List X) (k : ℕ) → slice_get xs k ≡ None → length xs ≤ k
past_none xs k e = ⊎_elim (λ w. let other : slice_get xs k ≡ Some w.0 = w.2 in absurd (cc)) (λ w. w.0) (slice_get_cases xs k).1

-- what holds of an item in the middle holds of some item
pub Any-middle : {X : Type 0} (P : X → Type 0) (xs : List X) (y : X) (ys : List X) → P y → Any P (xs ++ y ∷ ys)
Any-middle P xs y ys h = (length xs, y, omega (arith, length-append xs (y ∷ ys)), get_or-append_seam xs y ys y, h)
