-- The items of a run as changes in order of keys.
use Rattle.std.proofs.Common.{◌≡◌, ℕ, suc, add-one, Bool, true, false, cond, List, [], ◌∷◌, refl, sym, ap, ◌∙◌, arith}
use Rattle.std.specs.Prelude.{All, IsSorted, filter}
use Rattle.std.specs.List.{AllByRecursion}
use Rattle.std.specs.declared.cmp.Ordering.{Ordering}
use Rattle.std.specs.declared.cmp.Ordering.TheVariants.{Less, Equal, Greater}
use Rattle.std.specs.Ordering.{is_lt, ordering_then}
use Rattle.std.proofs.lemmas.List.Elements.{recursion_from_All}
use Rattle.std.proofs.lemmas.List.Sorted.{ranks_by, sorted_far}
use Rattle.db_base.specs.Change.{key_of}
use Rattle.byte_format.specs.Order.{bytes_cmp, bytes_below}
use Rattle.log_codec.specs.declared.record.PuItem.{PuItem}
use Rattle.log_codec.specs.Order.{IsItem, IsOrdered, item_cmp}
use Rattle.log_codec.proofs.ItemOrder.{item_cmp_total}
use Rattle.leaf_view.specs.Leaf.{Leaf}
use Rattle.leaf_edit.specs.Lacked.{is_lacked, lacked}
use Rattle.leaf_edit.specs.Merging.{Rises, AreChanges, AllAbove, AllFrom}
use Rattle.leaf_edit.proofs.Ascends.{below_trans, greater_below, equal_same}

abbrev key : PuItem → List ℕ
key x = key_of x.rec.change

-- ---- from the order of a run

not_below : (o p : Ordering) → is_lt (ordering_then o p) ≡ false → is_lt o ≡ false
not_below Less p h = h
not_below Equal p h = refl
not_below Greater p h = refl

tail-sorted : (x : PuItem) (xs : List PuItem) → IsSorted item_cmp (x ∷ xs) → IsSorted item_cmp xs
tail-sorted x xs h k d low high = rw add-one (rw add-one at (h (suc k) d (omega arith) (omega arith)))

first-least : (x : PuItem) (xs : List PuItem) → IsSorted item_cmp (x ∷ xs) → All (λ y. bytes_below (key y) (key x) ≡ false) xs
first-least x xs h k d in_range =
    not_below _ _ (sorted_far (λ a b. is_lt (item_cmp a b)) (ranks_by item_cmp_total (λ x. x)) (x ∷ xs) h 0 (suc k) d (omega arith) (omega arith))

pub Rises-sorted : (xs : List PuItem) → IsSorted item_cmp xs → Rises xs
Rises-sorted [] h = tt
Rises-sorted (x ∷ xs) h = (recursion_from_All (λ y. bytes_below (key y) (key x) ≡ false) xs (first-least x xs h), Rises-sorted xs (tail-sorted x xs h))

-- ---- of the lacked ones

pub all-filter : {A : Type 0} (P : A → Type 0) (p : A → Bool) (xs : List A) → AllByRecursion P xs → AllByRecursion P (filter p xs)
all-filter P p [] h = tt
all-filter P p (x ∷ xs) h = on (p x) (all-filter P p xs h.1)
  where
    on : (b : Bool) → AllByRecursion P (filter p xs) → AllByRecursion P (cond b (x ∷ filter p xs) (filter p xs))
    on true again = (h.0, again)
    on false again = again

Rises-filter : (p : PuItem → Bool) (xs : List PuItem) → Rises xs → Rises (filter p xs)
Rises-filter p [] h = tt
Rises-filter p (x ∷ xs) h = on (p x) (Rises-filter p xs h.1)
  where
    on : (b : Bool) → Rises (filter p xs) → Rises (cond b (x ∷ filter p xs) (filter p xs))
    on true again = (all-filter (λ y. bytes_below (key y) (key x) ≡ false) p xs h.0, again)
    on false again = again

-- the items that a leaf lacks are changes in order
pub lacked-changes : (l : Leaf) (queue : ℕ) (run : List PuItem) → IsOrdered run → AreChanges (lacked l queue run)
lacked-changes l queue run h = record {
  rise = Rises-filter (is_lacked l queue) run (Rises-sorted run h.sorted);
  items = all-filter IsItem (is_lacked l queue) run (recursion_from_All IsItem run h.items);
}

-- ---- keys against changes in order

-- what is below a key is below what is not below it
pub below_upto : (a b c : List ℕ) → bytes_below a b ≡ true → bytes_below c b ≡ false → bytes_below a c ≡ true
below_upto a b c p q = on (bytes_cmp c b) refl
  where
    on : (o : Ordering) → bytes_cmp c b ≡ o → bytes_below a c ≡ true
    on Less e = absurd (let f : is_lt Less ≡ false = sym (ap is_lt e) ∙ q in cc)
    on Equal e = rw (equal_same c b e) p
    on Greater e = below_trans a b c p (greater_below c b e)

pub above-from : (k m : List ℕ) (xs : List PuItem) → bytes_below k m ≡ true → AllFrom m xs → AllAbove k xs
above-from k m [] h all = tt
above-from k m (x ∷ xs) h all = (below_upto k m (key x) h all.0, above-from k m xs h all.1)
