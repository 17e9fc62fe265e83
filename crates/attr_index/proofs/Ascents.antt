-- Lists whose keys ascend.
use Rattle.std.proofs.Common.{◌≡◌, ℕ, true, false, List, [], ◌∷◌, ◌++◌, Option, Some, None, refl, ap, sym, subst, ◌∙◌}
use Rattle.std.specs.Prelude.{⊤}
use Rattle.std.specs.List.{AllByRecursion}
use Rattle.std.specs.Ordering.{ordering_then, ordering_reverse, is_eq, is_lt}
use Rattle.std.specs.declared.cmp.Ordering.{Ordering}
use Rattle.std.specs.declared.cmp.Ordering.TheVariants.{Less, Equal, Greater}
use Rattle.std.proofs.lemmas.Cmp.{tied_itself, nat_cmp_total, nat_list_cmp_total}
use Rattle.byte_format.specs.Order.{bytes_cmp, bytes_below, below_bound}
use Rattle.byte_format.proofs.OrderLemmas.{same_is}
use Rattle.head_codec.proofs.Keeping.{AllByRecursion-append}

-- ---- of two keys

pub less_of : (a b : List ℕ) → bytes_below a b ≡ true → bytes_cmp a b ≡ Less
less_of a b = on (bytes_cmp a b) where
  on : (o : Ordering) → is_lt o ≡ true → o ≡ Less
  on Less e = refl
  on Equal e = absurd (cc (e))
  on Greater e = absurd (cc (e))

pub below_trans : (a b : List ℕ) (bound : Option (List ℕ)) → bytes_cmp a b ≡ Less → below_bound b bound ≡ true → below_bound a bound ≡ true
below_trans a b None less below = refl
below_trans a b (Some c) less below = ap is_lt (nat_list_cmp_total.trans a b c less (less_of b c below))

-- one is below a bound, the other is not
pub below_least : (a bound c : List ℕ) → bytes_below a bound ≡ true → bytes_below c bound ≡ false → bytes_cmp a c ≡ Less
below_least a bound c below from = on (bytes_cmp c bound) refl where
  less : bytes_cmp a bound ≡ Less
  less = less_of a bound below

  on : (o : Ordering) → bytes_cmp c bound ≡ o → bytes_cmp a c ≡ Less
  on Less is = absurd (cc (ap is_lt is, from))
  on Equal is = subst (λ (k : List ℕ). bytes_cmp a k ≡ Less) (sym (same_is c bound (ap is_eq is))) less
  on Greater is = nat_list_cmp_total.trans a bound c less (nat_list_cmp_total.antisymm bound c ∙ ap ordering_reverse is)

-- behind a common front they stand as without it
pub front_cmp : (front a b : List ℕ) → bytes_cmp (front ++ a) (front ++ b) ≡ bytes_cmp a b
front_cmp [] a b = refl
front_cmp (x ∷ front) a b =
    ap (λ (o : Ordering). ordering_then o (bytes_cmp (front ++ a) (front ++ b))) (tied_itself nat_cmp_total x)
    ∙ front_cmp front a b

-- ---- of lists

pub each_by : {A : Type 0} (P Q : A → Type 0) → ((x : A) → P x → Q x) → (xs : List A) → AllByRecursion P xs → AllByRecursion Q xs
each_by P Q by [] h = tt
each_by P Q by (x ∷ xs) h = (by x h.0, each_by P Q by xs h.1)

pub each_front : {A : Type 0} (P : A → Type 0) (xs ys : List A) → AllByRecursion P (xs ++ ys) → AllByRecursion P xs
each_front P [] ys h = tt
each_front P (x ∷ xs) ys h = (h.0, each_front P xs ys h.1)

pub each_back : {A : Type 0} (P : A → Type 0) (xs ys : List A) → AllByRecursion P (xs ++ ys) → AllByRecursion P ys
each_back P [] ys h = h
each_back P (x ∷ xs) ys h = each_back P xs ys h.1

pub each_last : {A : Type 0} (P : A → Type 0) (xs : List A) (x : A) → AllByRecursion P (xs ++ x ∷ []) → P x
each_last P xs x h = (each_back P xs (x ∷ []) h).0

-- all keys are above one
abbrev pub AreAbove : {A : Type 0} → (A → List ℕ) → List ℕ → List A → Type 0
AreAbove of key xs = AllByRecursion (λ x. bytes_cmp key (of x) ≡ Less) xs

pub above_more : {A : Type 0} (of : A → List ℕ) (low key : List ℕ) (xs : List A) → bytes_cmp low key ≡ Less → AreAbove of key xs → AreAbove of low xs
above_more of low key xs less =
    each_by (λ x. bytes_cmp key (of x) ≡ Less) (λ x. bytes_cmp low (of x) ≡ Less) (λ x h. nat_list_cmp_total.trans low key (of x) less h) xs

-- each key is below all behind it
abbrev pub Ascends : {A : Type 0} → (A → List ℕ) → List A → Type 0
Ascends of [] = ⊤
Ascends of (x ∷ xs) = AreAbove of (of x) xs × Ascends of xs

pub ascends_joined : {A : Type 0} (of : A → List ℕ) (xs ys : List A) → Ascends of xs → Ascends of ys
    → AllByRecursion (λ x. AreAbove of (of x) ys) xs → Ascends of (xs ++ ys)
ascends_joined of [] ys up more below = more
ascends_joined of (x ∷ xs) ys up more below =
    (AllByRecursion-append (λ y. bytes_cmp (of x) (of y) ≡ Less) xs ys up.0 below.0, ascends_joined of xs ys up.1 more below.1)

-- a list that goes on with one more key ascends without it too, and it is above all
pub ascends_front : (keys : List (List ℕ)) (key : List ℕ) → Ascends (λ k. k) (keys ++ key ∷ [])
    → Ascends (λ k. k) keys × AllByRecursion (λ k. bytes_cmp k key ≡ Less) keys
ascends_front [] key h = (tt, tt)
ascends_front (k ∷ keys) key h =
    let rest = ascends_front keys key h.1 in
    ((each_front (λ j. bytes_cmp k j ≡ Less) keys (key ∷ []) h.0, rest.0), (each_last (λ j. bytes_cmp k j ≡ Less) keys key h.0, rest.1))
