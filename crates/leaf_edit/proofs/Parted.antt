-- Items in order of keys, parted at a key.
use Rattle.std.proofs.Common.{◌≡◌, ℕ, zero, suc, ◌≤◌, Bool, true, false, cond, List, [], ◌∷◌, ◌++◌, length, take, drop, Option, Some, None, refl, sym, ap, subst, ◌∙◌, arith}
use Rattle.std.specs.Prelude.{not, ◌&&◌, nat_lt}
use Rattle.std.specs.List.{AllByRecursion, AllWithin}
use Rattle.std.specs.List.Sorted.{IsPartitionedBy}
use Rattle.std.specs.declared.cmp.Ordering.{Ordering}
use Rattle.std.specs.declared.cmp.Ordering.TheVariants.{Less, Equal, Greater}
use Rattle.std.specs.Ordering.{is_lt}
use Rattle.std.proofs.lemmas.List.{append-nil}
use Rattle.std.proofs.lemmas.List.Elements.{All-get_or, All-from_recursion, filter-append}
use Rattle.db_base.specs.Change.{key_of}
use Rattle.byte_format.specs.Order.{bytes_cmp, bytes_below, below_bound}
use Rattle.leaf_view.specs.Leaf.{Leaf}
use Rattle.leaf_view.specs.Lookup.{holds, number_of}
use Rattle.log_codec.specs.declared.record.PuItem.{PuItem}
use Rattle.leaf_edit.specs.Lacked.{is_lacked, lacked, AllHeld}
use Rattle.leaf_edit.specs.Merging.{AllBelow, AllFrom, Rises}
use Rattle.leaf_edit.proofs.Ascends.{below_trans, equal_same, greater_below}

abbrev key : PuItem → List ℕ
key x = key_of x.rec.change

-- what is not above a key that is below another is below that
upto_below : (x a k : List ℕ) → bytes_below a x ≡ false → bytes_below a k ≡ true → bytes_below x k ≡ true
upto_below x a k p q = on (bytes_cmp a x) refl
  where
    on : (o : Ordering) → bytes_cmp a x ≡ o → bytes_below x k ≡ true
    on Less e = absurd (let f : is_lt Less ≡ false = sym (ap is_lt e) ∙ p in cc)
    on Equal e = rw (sym (equal_same a x e)) q
    on Greater e = below_trans x a k (greater_below a x e) q

-- no item below a key comes after one that is not
pub parted-by : (k : List ℕ) (xs : List PuItem) → Rises xs → IsPartitionedBy (λ y. bytes_below (key y) k) xs
parted-by k [] h i j d le less is = absurd (omega arith)
parted-by k (x ∷ xs) h zero zero d le less is = is
parted-by k (x ∷ xs) h zero (suc j) d le less is =
    let P : PuItem → Type 0 = λ y. bytes_below (key y) (key x) ≡ false in
    upto_below (key x) _ k (All-get_or P xs j d (omega arith) (All-from_recursion P xs h.0)) is
parted-by k (x ∷ xs) h (suc i) zero d le less is = absurd (omega arith)
parted-by k (x ∷ xs) h (suc i) (suc j) d le less is = parted-by k xs h.1 i j d (omega arith) (omega arith) is

pub front-all : (P : PuItem → Type 0) (xs : List PuItem) (n : ℕ) → n ≤ length xs → AllWithin P xs 0 n → AllByRecursion P (take n xs)
front-all P xs zero le h = tt
front-all P [] (suc n) le h = absurd (omega arith)
front-all P (x ∷ xs) (suc n) le h =
    (h zero x (omega arith) (omega arith), front-all P xs n (omega arith) (λ i d low high. h (suc i) d (omega arith) (omega arith)))

pub behind-all : (P : PuItem → Type 0) (xs : List PuItem) (n : ℕ) → AllWithin P xs n (length xs) → AllByRecursion P (drop n xs)
behind-all P [] zero h = tt
behind-all P [] (suc n) h = tt
behind-all P (x ∷ xs) zero h =
    (h zero x (omega arith) (omega arith), behind-all P xs zero (λ i d low high. h (suc i) d (omega arith) (omega arith)))
behind-all P (x ∷ xs) (suc n) h = behind-all P xs n (λ i d low high. h (suc i) d (omega arith) (omega arith))

-- ---- the items at the keys of a leaf

rises-behind : (front xs : List PuItem) → Rises (front ++ xs) → Rises xs
rises-behind [] xs h = h
rises-behind (x ∷ front) xs h = rises-behind front xs h.1

pub Rises-behind : (run front xs : List PuItem) → run ≡ front ++ xs → Rises run → Rises xs
Rises-behind run front xs is h = rises-behind front xs (subst Rises is h)

pub all-front : (P : PuItem → Type 0) (xs front behind : List PuItem) → xs ≡ front ++ behind → AllByRecursion P xs → AllByRecursion P front
all-front P xs front behind is h = on front (subst (AllByRecursion P) is h)
  where
    on : (front : List PuItem) → AllByRecursion P (front ++ behind) → AllByRecursion P front
    on [] h = tt
    on (x ∷ front) h = (h.0, on front h.1)

pub unbounded : (l : Leaf) (low : List ℕ) (high : Option (List ℕ)) (xs : List PuItem) → low ≡ l.low → high ≡ l.high → high ≡ None → AllFrom low xs → AllHeld l xs
unbounded l low high [] is_low is_high none from = tt
unbounded l low high (x ∷ xs) is_low is_high none from = (
  ap (λ k. not (bytes_below (key x) k) && below_bound (key x) l.high) (sym is_low)
      ∙ (ap (λ h. not (bytes_below (key x) low) && below_bound (key x) h) (sym is_high ∙ none) ∙ ap (λ b. not b && true) from.0),
  unbounded l low high xs is_low is_high none from.1,
)

pub bounded : (l : Leaf) (low high : List ℕ) (xs : List PuItem) → low ≡ l.low → Some high ≡ l.high → AllFrom low xs → AllBelow high xs → AllHeld l xs
bounded l low high [] is_low is_high from below = tt
bounded l low high (x ∷ xs) is_low is_high from below = (
  ap (λ k. not (bytes_below (key x) k) && below_bound (key x) l.high) (sym is_low)
      ∙ (ap (λ h. not (bytes_below (key x) low) && below_bound (key x) h) (sym is_high)
      ∙ (ap (λ b. not b && bytes_below (key x) high) from.0 ∙ below.0)),
  bounded l low high xs is_low is_high from.1 below.1,
)

none-lacked : (l : Leaf) (queue : ℕ) (xs : List PuItem) → AllByRecursion (λ x. holds l (key x) ≡ false) xs → lacked l queue xs ≡ []
none-lacked l queue [] h = refl
none-lacked l queue (x ∷ xs) h =
    ap (λ b. cond (b && nat_lt (number_of l.done queue x.rec.client) x.rec.number) (x ∷ lacked l queue xs) (lacked l queue xs)) h.0
    ∙ none-lacked l queue xs h.1

below-out : (l : Leaf) (low : List ℕ) (xs : List PuItem) → low ≡ l.low → AllBelow low xs → AllByRecursion (λ x. holds l (key x) ≡ false) xs
below-out l low [] is below = tt
below-out l low (x ∷ xs) is below = (
  ap (λ k. not (bytes_below (key x) k) && below_bound (key x) l.high) (sym is) ∙ ap (λ b. not b && below_bound (key x) l.high) below.0,
  below-out l low xs is below.1,
)

above-out : (l : Leaf) (high : List ℕ) (xs : List PuItem) → Some high ≡ l.high → AllFrom high xs → AllByRecursion (λ x. holds l (key x) ≡ false) xs
above-out l high [] is from = tt
above-out l high (x ∷ xs) is from = (
  ap (λ h. not (bytes_below (key x) l.low) && below_bound (key x) h) (sym is)
      ∙ (ap (λ b. not (bytes_below (key x) l.low) && b) from.0 ∙ none (not (bytes_below (key x) l.low))),
  above-out l high xs is from.1,
)
  where
    none : (b : Bool) → (b && false) ≡ false
    none true = refl
    none false = refl

pub same-from : (l : Leaf) (queue : ℕ) (low : List ℕ) (run front xs : List PuItem) → low ≡ l.low → run ≡ front ++ xs → AllBelow low front
    → lacked l queue xs ≡ lacked l queue run
same-from l queue low run front xs is whole below =
    sym (ap (λ xs. lacked l queue xs) whole
    ∙ (filter-append (is_lacked l queue) front xs ∙ ap (λ ys. ys ++ lacked l queue xs) (none-lacked l queue front (below-out l low front is below))))

pub same-upto : (l : Leaf) (queue : ℕ) (high : List ℕ) (run xs behind : List PuItem) → Some high ≡ l.high → run ≡ xs ++ behind → AllFrom high behind
    → lacked l queue xs ≡ lacked l queue run
same-upto l queue high run xs behind is whole from =
    sym (ap (λ xs. lacked l queue xs) whole
    ∙ (filter-append (is_lacked l queue) xs behind
    ∙ (ap (λ ys. lacked l queue xs ++ ys) (none-lacked l queue behind (above-out l high behind is from)) ∙ append-nil (lacked l queue xs))))
