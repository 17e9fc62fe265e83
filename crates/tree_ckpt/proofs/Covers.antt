-- Every item of the run lies in a leaf that was come to.
use Rattle.std.proofs.Common.{◌≡◌, ℕ, Bool, true, false, cond, List, [], ◌∷◌, Option, Some, None, refl, sym, ap, subst, ◌∙◌, inl, inr}
use Rattle.std.specs.Prelude.{◌&&◌, not}
use Rattle.std.specs.List.{AllByRecursion}
use Rattle.byte_format.specs.Order.{bytes_below, bytes_same, below_bound}
use Rattle.byte_format.proofs.OrderLemmas.{same_is}
use Rattle.db_base.specs.Change.{key_of}
use Rattle.leaf_view.specs.Leaf.{Leaf}
use Rattle.leaf_view.specs.Lookup.{holds}
use Rattle.leaf_edit.specs.Merging.{Rises}
use Rattle.leaf_edit.proofs.InOrder.{below_upto}
use Rattle.log_codec.specs.declared.record.PuItem.{PuItem}
use Rattle.tree_ckpt.specs.Moves.{key_from, key_from_or_none}
use Rattle.tree_ckpt.specs.Working.{Visit, IsSettled, IsHandled}
use Rattle.tree_ckpt.proofs.Keys.{not_itself}
use Rattle.tree_ckpt.proofs.Lows.{IsUpto}

abbrev key : PuItem → List ℕ
key x = key_of x.rec.change

-- ---- the key at hand is the least that is not handled

abbrev IsLeastOf : Option (List ℕ) → List ℕ → PuItem → Type 0
IsLeastOf from least x = below_bound (key x) from ≡ false → bytes_below (key x) least ≡ false

abbrev pub IsLeast : List PuItem → Option (List ℕ) → List ℕ → Type 0
IsLeast xs from least = AllByRecursion (IsLeastOf from least) xs

each_least : (from : Option (List ℕ)) (least : List ℕ) (xs : List PuItem) → AllByRecursion (λ y. bytes_below (key y) least ≡ false) xs → IsLeast xs from least
each_least from least [] h = tt
each_least from least (x ∷ xs) h = (λ above. h.0, each_least from least xs h.1)

first_is : (least k : List ℕ) (xs : List PuItem) → k ≡ least → AllByRecursion (λ y. bytes_below (key y) k ≡ false) xs → AllByRecursion (λ y. bytes_below (key y) least ≡ false) xs
first_is least k xs e h = subst (λ (m : List ℕ). AllByRecursion (λ y. bytes_below (key y) m ≡ false) xs) e h

least_from : (from least : List ℕ) (xs : List PuItem) → Rises xs → key_from from xs ≡ Some least → IsLeast xs (Some from) least
least_from from least [] rises e = tt
least_from from least (x ∷ xs) rises e = on (bytes_below (key x) from) refl (least_from from least xs rises.1) e where
  on : (b : Bool) → bytes_below (key x) from ≡ b → (key_from from xs ≡ Some least → IsLeast xs (Some from) least)
      → cond b (key_from from xs) (Some (key x)) ≡ Some least → IsLeast (x ∷ xs) (Some from) least
  on true f rest g = (λ above. absurd (cc), rest g)
  on false f rest g =
      let same : key x ≡ least = cc (g) in (
        λ above. subst (λ (m : List ℕ). bytes_below (key x) m ≡ false) same (not_itself (key x)),
        each_least (Some from) least xs (first_is least (key x) xs same rises.0),
      )

pub least_is : (from : Option (List ℕ)) (least : List ℕ) (xs : List PuItem) → Rises xs → key_from_or_none from xs ≡ Some least → IsLeast xs from least
least_is (Some from) least xs rises e = least_from from least xs rises e
least_is None least xs rises e = absurd (cc (e))

-- ---- handled up to a bound

abbrev IsHandledTo : Option (List ℕ) → List Visit → PuItem → Type 0
IsHandledTo from visits x = below_bound (key x) from ≡ true → IsHandled (key x) visits

-- the items with keys below a bound are, all where there is none
abbrev pub AreHandledTo : List PuItem → Option (List ℕ) → List Visit → Type 0
AreHandledTo xs from visits = AllByRecursion (IsHandledTo from visits) xs

no_key_below : (k : List ℕ) → bytes_below k [] ≡ false
no_key_below [] = refl
no_key_below (n ∷ ns) = refl

pub none_handled : (xs : List PuItem) → AreHandledTo xs (Some []) []
none_handled [] = tt
none_handled (x ∷ xs) = (λ below. absurd (let none : bytes_below (key x) [] ≡ false = no_key_below (key x) in cc), none_handled xs)

-- one visit more
pub handled_more : (xs : List PuItem) (from : Option (List ℕ)) (v : Visit) (visits : List Visit) → AreHandledTo xs from visits
    → AreHandledTo xs from (v ∷ visits)
handled_more [] from v visits h = tt
handled_more (x ∷ xs) from v visits h = (λ below. inr (h.0 below), handled_more xs from v visits h.1)

not_under : (k least low : List ℕ) → bytes_below k least ≡ false → IsUpto low least → IsUpto low k
not_under k least low from upto = on (bytes_below k low) refl where
  on : (b : Bool) → bytes_below k low ≡ b → IsUpto low k
  on false e = e
  on true e = absurd (let under : bytes_below k least ≡ true = below_upto k low least e upto in cc)

holds_it : (l : Leaf) (k : List ℕ) → IsUpto l.low k → below_bound k l.high ≡ true → holds l k ≡ true
holds_it l k low high = ap (λ (b : Bool). not b && below_bound k l.high) low ∙ high

-- a leaf whose low key is not above the least key handles the keys below its high key
pub handled_here : (xs : List PuItem) (from : Option (List ℕ)) (least : List ℕ) (v : Visit) (visits : List Visit) → IsSettled v.outcome
    → IsUpto v.leaf.low least → IsLeast xs from least → AreHandledTo xs from visits → AreHandledTo xs v.leaf.high (v ∷ visits)
handled_here [] from least v visits settled upto leasts h = tt
handled_here (x ∷ xs) from least v visits settled upto leasts h =
    (λ below. on (below_bound (key x) from) refl below, handled_here xs from least v visits settled upto leasts.1 h.1) where
      on : (b : Bool) → below_bound (key x) from ≡ b → below_bound (key x) v.leaf.high ≡ true → IsHandled (key x) (v ∷ visits)
      on true e below = inr (h.0 e)
      on false e below = inl (holds_it v.leaf (key x) (not_under (key x) least v.leaf.low (leasts.0 e) upto) below, settled)

-- ---- all are

abbrev pub AreHandled : List PuItem → List Visit → Type 0
AreHandled xs visits = AllByRecursion (λ x. IsHandled (key_of x.rec.change) visits) xs

all_from : (from : List ℕ) (xs : List PuItem) (visits : List Visit) → key_from from xs ≡ None → AreHandledTo xs (Some from) visits → AreHandled xs visits
all_from from [] visits e h = tt
all_from from (x ∷ xs) visits e h = on (bytes_below (key x) from) refl e (λ g. all_from from xs visits g h.1) where
  on : (b : Bool) → bytes_below (key x) from ≡ b → cond b (key_from from xs) (Some (key x)) ≡ None → (key_from from xs ≡ None → AreHandled xs visits)
      → AreHandled (x ∷ xs) visits
  on true f g rest = (h.0 f, rest g)
  on false f g rest = absurd (cc (g))

all_none : (xs : List PuItem) (visits : List Visit) → AreHandledTo xs None visits → AreHandled xs visits
all_none [] visits h = tt
all_none (x ∷ xs) visits h = (h.0 refl, all_none xs visits h.1)

pub all_handled : (from : Option (List ℕ)) (xs : List PuItem) (visits : List Visit) → key_from_or_none from xs ≡ None → AreHandledTo xs from visits
    → AreHandled xs visits
all_handled (Some from) xs visits e h = all_from from xs visits e h
all_handled None xs visits e h = all_none xs visits h

-- the low key that led to a leaf is its own
pub low_upto : (l : Leaf) (low least : List ℕ) → bytes_same l.low low ≡ true → IsUpto low least → IsUpto l.low least
low_upto l low least same upto = subst (λ (k : List ℕ). IsUpto k least) (sym (same_is l.low low same)) upto
