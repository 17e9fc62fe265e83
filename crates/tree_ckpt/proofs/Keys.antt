-- How many keys of a run are left.
use Rattle.std.proofs.Common.{◌≡◌, ℕ, ◌≤◌, ◌+◌, Bool, true, false, cond, List, [], ◌∷◌, ◌++◌, length, None, Some, refl, sym, ap, subst, ◌∙◌, arith}
use Rattle.std.proofs.lemmas.Cmp.{nat_list_cmp_total, tied_itself}
use Rattle.std.specs.Ordering.{is_lt}
use Rattle.byte_format.specs.Order.{bytes_below}
use Rattle.db_base.specs.Change.{key_of}
use Rattle.leaf_edit.specs.Merging.{AllBelow, AllFrom}
use Rattle.leaf_edit.proofs.Ascends.{below_trans}
use Rattle.leaf_edit.proofs.InOrder.{below_upto}
use Rattle.log_codec.specs.declared.record.PuItem.{PuItem}
use Rattle.tree_ckpt.specs.Moves.{key_from}
use Rattle.tree_ckpt.specs.End.{above, from_on}

abbrev key : PuItem → List ℕ
key x = key_of x.rec.change

-- keys above one that is not below the first are from the first on
above_from : (low from : List ℕ) (xs : List PuItem) → bytes_below low from ≡ false → above low xs ≤ from_on from xs
above_from low from [] h = omega arith
above_from low from (x ∷ xs) h = on (bytes_below low (key x)) refl (bytes_below (key x) from) refl (above_from low from xs h) where
  on : (b : Bool) → bytes_below low (key x) ≡ b → (d : Bool) → bytes_below (key x) from ≡ d → above low xs ≤ from_on from xs
      → cond b (above low xs + 1) (above low xs) ≤ cond d (from_on from xs) (from_on from xs + 1)
  on true e true f rest = absurd (let k : bytes_below low from ≡ true = below_trans low (key x) from e f in cc)
  on true e false f rest = omega (arith, rest)
  on false e true f rest = rest
  on false e false f rest = omega (arith, rest)

-- keys from a higher one on are above
pub from_above : (low high : List ℕ) (xs : List PuItem) → bytes_below low high ≡ true → from_on high xs ≤ above low xs
from_above low high [] h = omega arith
from_above low high (x ∷ xs) h = on (bytes_below low (key x)) refl (bytes_below (key x) high) refl (from_above low high xs h) where
  on : (b : Bool) → bytes_below low (key x) ≡ b → (d : Bool) → bytes_below (key x) high ≡ d → from_on high xs ≤ above low xs
      → cond d (from_on high xs) (from_on high xs + 1) ≤ cond b (above low xs + 1) (above low xs)
  on true e true f rest = omega (arith, rest)
  on true e false f rest = omega (arith, rest)
  on false e true f rest = rest
  on false e false f rest = absurd (let k : bytes_below low (key x) ≡ true = below_upto low high (key x) h f in cc)

-- the key that is next is not below
next_from : (from low : List ℕ) (xs : List PuItem) → key_from from xs ≡ Some low → bytes_below low from ≡ false
next_from from low [] e = absurd (cc (e))
next_from from low (x ∷ xs) e = on (bytes_below (key x) from) refl (next_from from low xs) e where
  on : (b : Bool) → bytes_below (key x) from ≡ b → (key_from from xs ≡ Some low → bytes_below low from ≡ false)
      → cond b (key_from from xs) (Some (key x)) ≡ Some low → bytes_below low from ≡ false
  on true f rest g = rest g
  on false f rest g = let same : key x ≡ low = cc (g) in subst (λ (k : List ℕ). bytes_below k from ≡ false) same f

pub not_itself : (a : List ℕ) → bytes_below a a ≡ false
not_itself a = ap is_lt (tied_itself nat_list_cmp_total a)

-- one that is handled before it is not above it
skipped : (from low : List ℕ) (x : PuItem) (xs : List PuItem) → bytes_below (key x) from ≡ true → bytes_below low from ≡ false → above low xs + 1 ≤ from_on from xs
    → above low (x ∷ xs) + 1 ≤ from_on from xs
skipped from low x xs f n rest = on (bytes_below low (key x)) refl where
  on : (b : Bool) → bytes_below low (key x) ≡ b → cond b (above low xs + 1) (above low xs) + 1 ≤ from_on from xs
  on true h = absurd (let k : bytes_below low from ≡ true = below_trans low (key x) from h f in cc)
  on false h = rest

-- it is not above itself
first_left : (from low : List ℕ) (x : PuItem) (xs : List PuItem) → bytes_below (key x) from ≡ false → key x ≡ low → above low (x ∷ xs) + 1 ≤ from_on from xs + 1
first_left from low x xs f same = on (bytes_below low (key x)) refl where
  itself : bytes_below low (key x) ≡ false
  itself = subst (λ (m : List ℕ). bytes_below low m ≡ false) (sym same) (not_itself low)

  all : above low xs ≤ from_on from xs
  all = above_from low from xs (subst (λ (k : List ℕ). bytes_below k from ≡ false) same f)

  on : (b : Bool) → bytes_below low (key x) ≡ b → cond b (above low xs + 1) (above low xs) + 1 ≤ from_on from xs + 1
  on true h = absurd (let n : bytes_below low (key x) ≡ false = itself in cc)
  on false h = omega (arith, all)

-- and fewer are above it
pub next_fewer : (from low : List ℕ) (xs : List PuItem) → key_from from xs ≡ Some low → above low xs + 1 ≤ from_on from xs
next_fewer from low [] e = absurd (cc (e))
next_fewer from low (x ∷ xs) e = on (bytes_below (key x) from) refl (next_fewer from low xs) e where
  on : (b : Bool) → bytes_below (key x) from ≡ b → (key_from from xs ≡ Some low → above low xs + 1 ≤ from_on from xs)
      → cond b (key_from from xs) (Some (key x)) ≡ Some low → above low (x ∷ xs) + 1 ≤ cond b (from_on from xs) (from_on from xs + 1)
  on true f rest g = skipped from low x xs f (next_from from low xs g) (rest g)
  on false f rest g = first_left from low x xs f (cc (g))

pub from_most : (from : List ℕ) (xs : List PuItem) → from_on from xs ≤ length xs
from_most from [] = omega arith
from_most from (x ∷ xs) = on (bytes_below (key x) from) (from_most from xs) where
  on : (b : Bool) → from_on from xs ≤ length xs → cond b (from_on from xs) (from_on from xs + 1) ≤ length (x ∷ xs)
  on true h = omega (arith, h)
  on false h = omega (arith, h)

-- ---- the next key of items that were parted

key-behind : (from : List ℕ) (front xs : List PuItem) → AllBelow from front → key_from from (front ++ xs) ≡ key_from from xs
key-behind from [] xs h = refl
key-behind from (x ∷ front) xs h = ap (λ (b : Bool). cond b (key_from from (front ++ xs)) (Some (key x))) h.0 ∙ key-behind from front xs h.1

pub key-parted : (from : List ℕ) (xs front behind : List PuItem) (x : PuItem) (rest : List PuItem) → xs ≡ front ++ behind → AllBelow from front → AllFrom from behind
    → behind ≡ x ∷ rest → key_from from xs ≡ Some (key x)
key-parted from xs front behind x rest whole below upward first =
    ap (key_from from) whole ∙ (key-behind from front behind below ∙ (ap (key_from from) first
    ∙ ap (λ (b : Bool). cond b (key_from from rest) (Some (key x))) (subst (AllFrom from) first upward).0))

key-empty : (from : List ℕ) (xs : List PuItem) → length xs ≡ 0 → key_from from xs ≡ None
key-empty from [] h = refl
key-empty from (x ∷ xs) h = absurd (omega arith)

pub key-none : (from : List ℕ) (xs front behind : List PuItem) → xs ≡ front ++ behind → AllBelow from front → length behind ≡ 0 → key_from from xs ≡ None
key-none from xs front behind whole below none =
    ap (key_from from) whole ∙ (key-behind from front behind below ∙ key-empty from behind none)
