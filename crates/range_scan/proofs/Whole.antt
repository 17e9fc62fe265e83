-- The joined lists of a scan's leaves ascend, and have each key's pair as its leaf shows it.
use Rattle.std.proofs.Common.{◌≡◌, ◌≢◌, ℕ, Bool, true, false, List, [], ◌∷◌, ◌++◌, Option, Some, None, refl, ap, ◌∙◌}
use Rattle.std.specs.Prelude.{◌&&◌, not, if◌then◌else◌}
use Rattle.std.specs.List.{AllByRecursion}
use Rattle.byte_format.specs.Order.{bytes_below, bytes_same, below_bound}
use Rattle.byte_format.proofs.OrderLemmas.{same_itself}
use Rattle.leaf_view.specs.Fits.{IsHigh}
use Rattle.db_base.specs.Value.{Value}
use Rattle.leaf_view.specs.Leaf.{Entry, Leaf, IsLeaf}
use Rattle.leaf_view.specs.Lookup.{holds, value_of}
use Rattle.leaf_view.proofs.Split.{leaf_fits}
use Rattle.route_plan.specs.Seen.{seen}
use Rattle.range_scan.specs.Pairs.{Sight, BelowFirst, IsAscending, item_at}
use Rattle.range_scan.specs.Meaning.{Range, AreMeeting}
use Rattle.range_scan.proofs.Order.{bound_trans, below_least}
use Rattle.range_scan.specs.Whole.{Listed, leaves_in, all_pairs, IsFenced, IsListed, IsOutside, IsPairAmong, IsWhole}

-- ---- lists of pairs

absent_then : (key : List ℕ) (a b : List Entry) → value_of key a ≡ None → value_of key (a ++ b) ≡ value_of key b
absent_then key [] b e = refl
absent_then key (x ∷ a) b e = on (bytes_same x.key key) e (absent_then key a b) where
  on : (c : Bool) → (if c then Some x.value else value_of key a) ≡ None → (value_of key a ≡ None → value_of key (a ++ b) ≡ value_of key b)
      → (if c then Some x.value else value_of key (a ++ b)) ≡ value_of key b
  on true h more = absurd (cc (h))
  on false h more = more h

then_absent : (key : List ℕ) (a b : List Entry) → value_of key b ≡ None → value_of key (a ++ b) ≡ value_of key a
then_absent key [] b e = e
then_absent key (x ∷ a) b e = ap (λ (o : Option Value). if bytes_same x.key key then Some x.value else o) (then_absent key a b e)

-- what holds of each key that has a pair holds of each pair's key
of_each : (P : List ℕ → Type 0) (pairs : List Entry) → ((key : List ℕ) → value_of key pairs ≢ None → P key) → AllByRecursion (λ (e : Entry). P e.key) pairs
of_each P [] h = tt
of_each P (x ∷ xs) h = (h x.key first, of_each P xs rest) where
  first : value_of x.key (x ∷ xs) ≢ None
  first none =
      let some : value_of x.key (x ∷ xs) ≡ Some x.value = ap (λ (b : Bool). if b then Some x.value else value_of x.key xs) (same_itself x.key) in
      absurd (cc (some, none))

  kept : (b : Bool) (o : Option Value) → o ≢ None → (if b then Some x.value else o) ≢ None
  kept true o never = λ none. absurd (cc (none))
  kept false o never = never

  rest : (key : List ℕ) → value_of key xs ≢ None → P key
  rest key never = h key (kept (bytes_same x.key key) (value_of key xs) never)

below_joined : (key : List ℕ) (a b : List Entry) → BelowFirst key a → BelowFirst key b → BelowFirst key (a ++ b)
below_joined key [] b h g = g
below_joined key (x ∷ a) b h g = h

joined_ascends : (a b : List Entry) → IsAscending a → IsAscending b → AllByRecursion (λ (e : Entry). BelowFirst e.key b) a → IsAscending (a ++ b)
joined_ascends [] b h g below = g
joined_ascends (x ∷ a) b h g below = (below_joined x.key a b h.0 below.0, joined_ascends a b h.1 g below.1)

-- all keys are below one that no later key is below
all_before : (low : List ℕ) (a b : List Entry) → AllByRecursion (λ (e : Entry). bytes_below e.key low ≡ true) a → AllByRecursion (λ (e : Entry). bytes_below e.key low ≡ false) b
    → AllByRecursion (λ (e : Entry). BelowFirst e.key b) a
all_before low [] b h g = tt
all_before low (x ∷ a) b h g = (on b g, all_before low a b h.1 g) where
  on : (ys : List Entry) → AllByRecursion (λ (e : Entry). bytes_below e.key low ≡ false) ys → BelowFirst x.key ys
  on [] k = tt
  on (y ∷ ys) k = below_least x.key low y.key h.0 k.0

-- ---- leaves

not_held_low : (l : Leaf) (key : List ℕ) → bytes_below key l.low ≡ true → holds l key ≡ false
not_held_low l key e = ap (λ (b : Bool). not b && below_bound key l.high) e

not_held_high : (l : Leaf) (key : List ℕ) → below_bound key l.high ≡ false → holds l key ≡ false
not_held_high l key e = on (not (bytes_below key l.low)) (below_bound key l.high) e where
  on : (a b : Bool) → b ≡ false → (a && b) ≡ false
  on true b h = h
  on false b h = refl

from_low : (l : Leaf) (key : List ℕ) → holds l key ≡ true → bytes_below key l.low ≡ false
from_low l key e = on (bytes_below key l.low) refl where
  on : (b : Bool) → bytes_below key l.low ≡ b → b ≡ false
  on false is = refl
  on true is = absurd (cc (not_held_low l key is, e))

no_item : (s : Sight) (key : List ℕ) → holds s.leaf key ≡ false → item_at s key ≡ None
no_item s key e = ap (λ (b : Bool). if b && (not (bytes_below key s.from) && below_bound key s.to) then seen s.leaf s.tree key s.client s.head s.buffer else None) e

held_of : (s : Sight) (key : List ℕ) → item_at s key ≢ None → holds s.leaf key ≡ true
held_of s key never = on (holds s.leaf key) refl where
  on : (b : Bool) → holds s.leaf key ≡ b → holds s.leaf key ≡ true
  on true is = is
  on false is = absurd (never (no_item s key is))

no_pair : (key : List ℕ) (xs : List Listed) → AllByRecursion IsListed xs → AllByRecursion (IsOutside key) xs → value_of key (all_pairs xs) ≡ None
no_pair key [] listed out = refl
no_pair key (x ∷ xs) listed out =
    absent_then key (all_pairs xs) x.pairs (no_pair key xs listed.1 out.1) ∙ (listed.0.items.each key ∙ no_item x.sight key out.0)

-- a key that is not below the high key of the newest leaf is in no leaf
behind_all : (r : Range) (key : List ℕ) (x : Listed) (xs : List Listed) → AreMeeting r (leaves_in (x ∷ xs)) → AllByRecursion IsListed (x ∷ xs) → below_bound key x.sight.leaf.high ≡ false
    → AllByRecursion (IsOutside key) (x ∷ xs)
behind_all r key x [] meeting listed e = (not_held_high x.sight.leaf key e, tt)
behind_all r key x (y ∷ ys) meeting listed e = (not_held_high x.sight.leaf key e, behind_all r key y ys meeting.1 listed.1 (ap (below_bound key) meeting.0.0 ∙ unbelow (bytes_below key x.sight.leaf.low) refl)) where
  unbelow : (b : Bool) → bytes_below key x.sight.leaf.low ≡ b → bytes_below key x.sight.leaf.low ≡ false
  unbelow false is = is
  unbelow true is = absurd (cc (bound_trans key x.sight.leaf.low x.sight.leaf.high is listed.0.fenced, e))

-- .. and so is one that is not below the low key of the next leaf
before_next : (r : Range) (key : List ℕ) (x : Listed) (xs : List Listed) → AreMeeting r (leaves_in (x ∷ xs)) → AllByRecursion IsListed xs → bytes_below key x.sight.leaf.low ≡ false
    → AllByRecursion (IsOutside key) xs
before_next r key x [] meeting listed e = tt
before_next r key x (y ∷ ys) meeting listed e = behind_all r key y ys meeting.1 listed (ap (below_bound key) meeting.0.0 ∙ e)

-- ---- the joined list

outside_among : (pairs : List Entry) (key : List ℕ) (xs : List Listed) → AllByRecursion (IsOutside key) xs → AllByRecursion (IsPairAmong pairs key) xs
outside_among pairs key [] out = tt
outside_among pairs key (x ∷ xs) out = (λ held. absurd (cc (out.0, held)), outside_among pairs key xs out.1)

among_same : (pairs more : List Entry) (key : List ℕ) (xs : List Listed) → value_of key more ≡ value_of key pairs → AllByRecursion (IsPairAmong pairs key) xs → AllByRecursion (IsPairAmong more key) xs
among_same pairs more key [] same h = tt
among_same pairs more key (x ∷ xs) same h = (λ held. same ∙ h.0 held, among_same pairs more key xs same h.1)

each_among : (r : Range) (key : List ℕ) (xs : List Listed) → AreMeeting r (leaves_in xs) → AllByRecursion IsListed xs → AllByRecursion (IsPairAmong (all_pairs xs) key) xs
each_among r key [] meeting listed = tt
each_among r key (x ∷ xs) meeting listed = (newest, older (bytes_below key x.sight.leaf.low) refl (each_among r key xs meeting.1 listed.1)) where
  newest : IsPairAmong (all_pairs (x ∷ xs)) key x
  newest held =
      absent_then key (all_pairs xs) x.pairs (no_pair key xs listed.1 (before_next r key x xs meeting listed.1 (from_low x.sight.leaf key held)))
      ∙ listed.0.items.each key

  older : (b : Bool) → bytes_below key x.sight.leaf.low ≡ b → AllByRecursion (IsPairAmong (all_pairs xs) key) xs → AllByRecursion (IsPairAmong (all_pairs (x ∷ xs)) key) xs
  older false is h = outside_among (all_pairs (x ∷ xs)) key xs (before_next r key x xs meeting listed.1 is)
  older true is h =
      among_same (all_pairs xs) (all_pairs (x ∷ xs)) key xs
      (then_absent key (all_pairs xs) x.pairs (listed.0.items.each key ∙ no_item x.sight key (not_held_low x.sight.leaf key is))) h

all_ascend : (r : Range) (xs : List Listed) → AreMeeting r (leaves_in xs) → AllByRecursion IsListed xs → IsAscending (all_pairs xs)
all_ascend r [] meeting listed = tt
all_ascend r (x ∷ xs) meeting listed =
    joined_ascends (all_pairs xs) x.pairs (all_ascend r xs meeting.1 listed.1) listed.0.items.ascending (all_before x.sight.leaf.low (all_pairs xs) x.pairs older newest)
  where
    newest : AllByRecursion (λ (e : Entry). bytes_below e.key x.sight.leaf.low ≡ false) x.pairs
    newest =
        of_each (λ key. bytes_below key x.sight.leaf.low ≡ false) x.pairs
        (λ key never. from_low x.sight.leaf key (held_of x.sight key (λ none. never (listed.0.items.each key ∙ none))))

    below : (key : List ℕ) → value_of key (all_pairs xs) ≢ None → (b : Bool) → bytes_below key x.sight.leaf.low ≡ b → bytes_below key x.sight.leaf.low ≡ true
    below key never true is = is
    below key never false is = absurd (never (no_pair key xs listed.1 (before_next r key x xs meeting listed.1 is)))

    older : AllByRecursion (λ (e : Entry). bytes_below e.key x.sight.leaf.low ≡ true) (all_pairs xs)
    older = of_each (λ key. bytes_below key x.sight.leaf.low ≡ true) (all_pairs xs) (λ key never. below key never (bytes_below key x.sight.leaf.low) refl)

pub is_whole : (r : Range) (xs : List Listed) → AreMeeting r (leaves_in xs) → AllByRecursion IsListed xs → IsWhole xs
is_whole r xs meeting listed = record {
  ascending = all_ascend r xs meeting listed;
  each = λ key. each_among r key xs meeting listed;
  no_other = λ key out. no_pair key xs listed out;
}

-- ---- spelled leaves

fenced_by : (low : List ℕ) (right : ℕ) (high : Option (List ℕ)) → IsHigh low right high → below_bound low high ≡ true
fenced_by low right None h = refl
fenced_by low right (Some high) h = h.2

pub spelled_is_fenced : (bytes : List ℕ) (l : Leaf) → IsLeaf bytes l → IsFenced l
spelled_is_fenced bytes l is = fenced_by l.low l.right l.high (leaf_fits l is.fits).1.high
