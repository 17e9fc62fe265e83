-- Lists in order: of records by key.
use Rattle.std.proofs.Common.{◌≡◌, ℕ, true, List, [], ◌∷◌, Option, Some, None, refl, ap, ◌∙◌}
use Rattle.std.specs.Prelude.{IsTrue}
use Rattle.std.specs.declared.cmp.Ordering.{Ordering}
use Rattle.std.specs.declared.cmp.Ordering.TheVariants.{Less, Equal, Greater}
use Rattle.std.specs.Ordering.{is_lt, is_eq, ordering_reverse}
use Rattle.std.proofs.lemmas.Cmp.{nat_list_cmp_total}
use Rattle.byte_format.specs.Order.{bytes_cmp, bytes_below}
use Rattle.byte_format.proofs.OrderLemmas.{same_is}
use Rattle.leaf_view.specs.Leaf.{Entry}
use Rattle.leaf_edit.specs.Merging.{KeyBefore}
use Rattle.leaf_view.specs.Fits.{Behind, Ascend, entry_below}

-- ---- the order of bytes

less_of : (o : Ordering) → is_lt o ≡ true → o ≡ Less
less_of Less h = refl
less_of Equal h = absurd cc
less_of Greater h = absurd cc

pub below_less : (a b : List ℕ) → bytes_below a b ≡ true → bytes_cmp a b ≡ Less
below_less a b h = less_of (bytes_cmp a b) h

pub below_trans : (a b c : List ℕ) → bytes_below a b ≡ true → bytes_below b c ≡ true → bytes_below a c ≡ true
below_trans a b c p q = ap is_lt (nat_list_cmp_total.trans a b c (below_less a b p) (below_less b c q))

-- a list that is not below another, but differs, is above it
pub greater_below : (a b : List ℕ) → bytes_cmp a b ≡ Greater → bytes_below b a ≡ true
greater_below a b h = ap is_lt (nat_list_cmp_total.antisymm b a ∙ ap ordering_reverse h)

pub equal_same : (a b : List ℕ) → bytes_cmp a b ≡ Equal → a ≡ b
equal_same a b h = same_is a b (ap is_eq h)

-- ---- a key against records in order

-- the key stands behind the record before, where there is one
abbrev pub KeyBehind : Option Entry → List ℕ → Type 0
KeyBehind None key = Unit {0}
KeyBehind (Some b) key = IsTrue (bytes_below b.key key)

-- records behind one that stands before them
pub Ascend-behind : (before : Entry) (es : List Entry) (other : Option Entry) → Ascend entry_below other es → KeyBefore before.key es → Ascend entry_below (Some before) es
Ascend-behind before [] other h first = tt
Ascend-behind before (e ∷ es) other h first = (first, h.1)

-- records behind one that is gone
pub Ascend-skip : (before : Option Entry) (key : List ℕ) (es : List Entry) (other : Option Entry) → Ascend entry_below other es → KeyBehind before key → KeyBefore key es → Ascend entry_below before es
Ascend-skip before key [] other h behind first = tt
Ascend-skip None key (e ∷ es) other h behind first = (tt, h.1)
Ascend-skip (Some b) key (e ∷ es) other h behind first = (below_trans b.key key e.key behind first, h.1)

-- a record stands before those behind it
pub Ascend-first : (e : Entry) (es : List Entry) → Ascend entry_below (Some e) es → KeyBefore e.key es
Ascend-first e [] h = tt
Ascend-first e (f ∷ es) h = h.0

pub entry-KeyBehind : (before : Option Entry) (e : Entry) → KeyBehind before e.key → Behind entry_below before e
entry-KeyBehind None e h = tt
entry-KeyBehind (Some b) e h = h
