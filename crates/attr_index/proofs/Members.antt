-- Two lists whose keys ascend and that have the same members are one list.
use Rattle.std.proofs.Common.{◌≡◌, ℕ, zero, suc, ◌<◌, List, [], ◌∷◌, ◌++◌, length, ◌⊎◌, inl, inr, refl, sym, ap, subst, ◌∙◌, arith}
use Rattle.std.specs.Prelude.{slice_index_or}
use Rattle.std.specs.List.{Contains}
use Rattle.std.specs.declared.cmp.Ordering.TheVariants.{Less}
use Rattle.std.proofs.lemmas.Cmp.{tied_itself, nat_list_cmp_total}
use Rattle.byte_format.specs.Order.{bytes_cmp}
use Rattle.attr_index.proofs.Ascents.{AreAbove, Ascends}

-- ---- members

abbrev pub IsIn : {A : Type 0} → A → List A → Type 0
IsIn x [] = ⊥
IsIn x (y ∷ ys) = (x ≡ y) ⊎ IsIn x ys

pub in_front : {A : Type 0} (x : A) (xs ys : List A) → IsIn x xs → IsIn x (xs ++ ys)
in_front x [] ys k = absurd k
in_front x (y ∷ xs) ys (inl e) = inl e
in_front x (y ∷ xs) ys (inr k) = inr (in_front x xs ys k)

pub in_back : {A : Type 0} (x : A) (xs ys : List A) → IsIn x ys → IsIn x (xs ++ ys)
in_back x [] ys k = k
in_back x (y ∷ xs) ys k = inr (in_back x xs ys k)

pub in_either : {A : Type 0} (x : A) (xs ys : List A) → IsIn x (xs ++ ys) → IsIn x xs ⊎ IsIn x ys
in_either x [] ys k = inr k
in_either x (y ∷ xs) ys (inl e) = inl (inl e)
in_either x (y ∷ xs) ys (inr k) = on (in_either x xs ys k) where
  on : IsIn x xs ⊎ IsIn x ys → IsIn x (y ∷ xs) ⊎ IsIn x ys
  on (inl j) = inl (inr j)
  on (inr j) = inr j

contained_at : {A : Type 0} (xs : List A) (x : A) (k : ℕ) → k < length xs → slice_index_or xs k x ≡ x → IsIn x xs
contained_at [] x k less is = absurd (omega (arith, less))
contained_at (y ∷ xs) x zero less is = inl (sym is)
contained_at (y ∷ xs) x (suc k) less is = inr (contained_at xs x k (omega (arith, less)) is)

pub contained_in : {A : Type 0} (xs : List A) (x : A) → Contains xs x → IsIn x xs
contained_in xs x h = contained_at xs x h.0 h.1 h.2

-- ---- of lists whose keys ascend

in_above : {A : Type 0} (of : A → List ℕ) (key : List ℕ) (xs : List A) (x : A) → AreAbove of key xs → IsIn x xs → bytes_cmp key (of x) ≡ Less
in_above of key [] x above k = absurd k
in_above of key (y ∷ xs) x above (inl e) = subst (λ z. bytes_cmp key (of z) ≡ Less) (sym e) above.0
in_above of key (y ∷ xs) x above (inr k) = in_above of key xs x above.1 k

never_above : (key : List ℕ) → bytes_cmp key key ≡ Less → ⊥
never_above key less = absurd (cc (less, tied_itself nat_list_cmp_total key))

first_same : {A : Type 0} (of : A → List ℕ) (x y : A) (xs ys : List A) → AreAbove of (of x) xs → AreAbove of (of y) ys → (x ≡ y) ⊎ IsIn x ys
    → (y ≡ x) ⊎ IsIn y xs → x ≡ y
first_same of x y xs ys up more (inl e) other = e
first_same of x y xs ys up more (inr k) (inl e) = sym e
first_same of x y xs ys up more (inr k) (inr j) =
    absurd (never_above (of x) (nat_list_cmp_total.trans (of x) (of y) (of x) (in_above of (of x) xs y up j) (in_above of (of y) ys x more k)))

-- a member behind the first is one behind the first of the other list
in_rest : {A : Type 0} (of : A → List ℕ) (x y z : A) (xs ys : List A) → AreAbove of (of x) xs → x ≡ y → IsIn z xs → (z ≡ y) ⊎ IsIn z ys → IsIn z ys
in_rest of x y z xs ys up same k (inl e) =
    absurd (never_above (of x) (subst (λ w. bytes_cmp (of x) (of w) ≡ Less) (e ∙ sym same) (in_above of (of x) xs z up k)))
in_rest of x y z xs ys up same k (inr j) = j

pub same_list : {A : Type 0} (of : A → List ℕ) (xs ys : List A) → Ascends of xs → Ascends of ys → ((x : A) → IsIn x xs → IsIn x ys)
    → ((y : A) → IsIn y ys → IsIn y xs) → xs ≡ ys
same_list of [] [] up more to from = refl
same_list of [] (y ∷ ys) up more to from = absurd (from y (inl refl))
same_list of (x ∷ xs) [] up more to from = absurd (to x (inl refl))
same_list {A} of (x ∷ xs) (y ∷ ys) up more to from =
    let first : x ≡ y = first_same of x y xs ys up.0 more.0 (to x (inl refl)) (from y (inl refl)) in
    let on : (z : A) → IsIn z xs → IsIn z ys = λ z k. in_rest of x y z xs ys up.0 first k (to z (inr k)) in
    let back : (z : A) → IsIn z ys → IsIn z xs = λ z k. in_rest of y x z ys xs more.0 (sym first) k (from z (inr k)) in
    let rest : xs ≡ ys = same_list of xs ys up.1 more.1 on back in
    ap (λ (z : A). z ∷ xs) first ∙ ap (λ (zs : List A). y ∷ zs) rest
