-- Changes of one tree and key stand at one place.
use Rattle.std.proofs.Common.{◌≡◌, ℕ, zero, suc, Bool, true, false, cond, List, [], ◌∷◌, Some, None, refl, sym, ap, ◌∙◌}
use Rattle.std.specs.Prelude.{slice_get, nat_eq}
use Rattle.std.specs.Str.{bytes_eq}
use Rattle.std.proofs.lemmas.Bool.{and_from, eq-eqb}
use Rattle.std.proofs.lemmas.Slice.Eq.{bytes_eq-Decides}
use Rattle.db_base.specs.Change.{key_of}
use Rattle.txn_buffer.specs.Noted.{Noted, is_of, found_in, AreDistinct}

not_there : (rest : List Noted) (tree : ℕ) (key : List ℕ) → found_in rest tree key ≡ None → (place : ℕ) (y : Noted) → slice_get rest place ≡ Some y → tree ≡ y.tree → key ≡ key_of y.change → ⊥
not_there [] tree key none place y there e f = absurd (cc)
not_there (n ∷ rest) tree key none place y there e f = on (is_of tree key n) refl (λ h. not_there rest tree key h) none place there
  where
    never : {X : Type 0} (x : X) → Some x ≡ None → ⊥
    never x h = cc

    same : (n y : Noted) → Some n ≡ Some y → n ≡ y
    same n y h = cc

    passes : (z : Noted) → tree ≡ z.tree → key ≡ key_of z.change → is_of tree key z ≡ true
    passes z g h = and_from (nat_eq tree z.tree) (bytes_eq key (key_of z.change)) (eq-eqb tree z.tree g) ((bytes_eq-Decides key (key_of z.change)).1 h)

    on : (b : Bool) → is_of tree key n ≡ b → (found_in rest tree key ≡ None → (place : ℕ) (z : Noted) → slice_get rest place ≡ Some z → tree ≡ z.tree → key ≡ key_of z.change → ⊥)
        → cond b (Some n.change) (found_in rest tree key) ≡ None → (place : ℕ) → slice_get (n ∷ rest) place ≡ Some y → ⊥
    on true t again h place at = never n.change h
    on false t again h zero at =
        let one : n ≡ y = same n y at in
        absurd (clash (sym t ∙ passes n (e ∙ ap (λ (z : Noted). z.tree) (sym one)) (f ∙ ap (λ (z : Noted). key_of z.change) (sym one))))
      where
        clash : false ≡ true → ⊥
        clash q = cc
    on false t again h (suc place) at = again h place y at e f

pub distinct_places : (list : List Noted) → AreDistinct list → (i j : ℕ) (x y : Noted) → slice_get list i ≡ Some x → slice_get list j ≡ Some y → x.tree ≡ y.tree
    → key_of x.change ≡ key_of y.change → i ≡ j
distinct_places [] apart i j x y a b e f = absurd (cc)
distinct_places (n ∷ rest) apart zero zero x y a b e f = refl
distinct_places (n ∷ rest) apart zero (suc j) x y a b e f =
    let one : n ≡ x = cc in
    absurd (not_there rest n.tree (key_of n.change) apart.0 j y b (ap (λ (z : Noted). z.tree) one ∙ e) (ap (λ (z : Noted). key_of z.change) one ∙ f))
distinct_places (n ∷ rest) apart (suc i) zero x y a b e f =
    let one : n ≡ y = cc in
    absurd (not_there rest n.tree (key_of n.change) apart.0 i x a (ap (λ (z : Noted). z.tree) one ∙ sym e) (ap (λ (z : Noted). key_of z.change) one ∙ sym f))
distinct_places (n ∷ rest) apart (suc i) (suc j) x y a b e f = ap suc (distinct_places rest apart.1 i j x y a b e f)
