-- Lists that ascend, joined and parted.
use Rattle.std.proofs.Common.{◌≡◌, suc, ◌-◌, Bool, true, List, [], ◌∷◌, ◌++◌, length, Option, Some, None, refl, ap, ◌∙◌, arith, slice_get}
use Rattle.std.specs.List.{AllByRecursion}
use Rattle.leaf_view.specs.Fits.{Ascend, Behind}
use Rattle.dump_text.specs.Steps.{last_behind, is_behind}

pub all_both : {A : Type 0} (P : A → Type 0) (xs ys : List A) → AllByRecursion P xs → AllByRecursion P ys → AllByRecursion P (xs ++ ys)
all_both P [] ys a b = b
all_both P (x ∷ xs) ys a b = (a.0, all_both P xs ys a.1 b)

pub all_back : {A : Type 0} (P : A → Type 0) (xs ys : List A) → AllByRecursion P (xs ++ ys) → AllByRecursion P ys
all_back P [] ys a = a
all_back P (x ∷ xs) ys a = all_back P xs ys a.1

pub ascend_both : {A : Type 0} (below : A → A → Bool) (before : Option A) (xs ys : List A) → Ascend below before xs → Ascend below (last_behind before xs) ys → Ascend below before (xs ++ ys)
ascend_both below before [] ys a b = b
ascend_both below before (x ∷ xs) ys a b = (a.0, ascend_both below (Some x) xs ys a.1 b)

pub ascend_back : {A : Type 0} (below : A → A → Bool) (before : Option A) (xs ys : List A) → Ascend below before (xs ++ ys) → Ascend below (last_behind before xs) ys
ascend_back below before [] ys a = a
ascend_back below before (x ∷ xs) ys a = ascend_back below (Some x) xs ys a.1

pub behind_true : {A : Type 0} (below : A → A → Bool) (before : Option A) (x : A) → is_behind below before x ≡ true → Behind below before x
behind_true below None x h = tt
behind_true below (Some b) x h = h

pub true_behind : {A : Type 0} (below : A → A → Bool) (before : Option A) (x : A) → Behind below before x → is_behind below before x ≡ true
true_behind below None x h = refl
true_behind below (Some b) x h = h

pub last_pushed : {A : Type 0} (before : Option A) (xs : List A) (x : A) → last_behind before (xs ++ x ∷ []) ≡ Some x
last_pushed before [] x = refl
last_pushed before (y ∷ xs) x = last_pushed (Some y) xs x

-- the last item of a list is at its last place
pub last_at : {A : Type 0} (before : Option A) (x : A) (xs : List A) → slice_get (x ∷ xs) (length xs) ≡ last_behind before (x ∷ xs)
last_at before x [] = refl
last_at before x (y ∷ xs) = last_at (Some x) y xs

pub last_is : {A : Type 0} (xs : List A) → slice_get xs (length xs - 1) ≡ last_behind None xs
last_is [] = refl
last_is (x ∷ xs) =
    let e : suc (length xs) - 1 ≡ length xs = omega arith in
    rw e (last_at None x xs)

pub behind_last : {A : Type 0} (below : A → A → Bool) (xs : List A) (x y : A) → Some x ≡ slice_get xs (length xs - 1) → below x y ≡ is_behind below (last_behind None xs) y
behind_last {A = A} below xs x y h = ap (λ (before : Option A). is_behind below before y) (h ∙ last_is xs)
