-- The keys that the leaves of an index list ascend over all of them, and so do the records that are found.
use Rattle.std.proofs.Common.{◌≡◌, ℕ, Bool, true, false, not, List, [], ◌∷◌, ◌++◌, Option, Some, None, refl, ap, sym, subst, ◌∙◌}
use Rattle.std.specs.Prelude.{map, reverse, if◌then◌else◌}
use Rattle.std.specs.List.{AllByRecursion}
use Rattle.std.specs.declared.cmp.Ordering.TheVariants.{Less}
use Rattle.std.proofs.lemmas.Grind.{reverse_onto}
use Rattle.byte_format.specs.Order.{bytes_cmp, bytes_below, below_bound}
use Rattle.db_base.specs.Value.{Value}
use Rattle.attr_index.proofs.Words.{Pair, Entry, holds}
use Rattle.head_codec.proofs.Keeping.{AllByRecursion-append}
use Rattle.route_plan.specs.Seen.{seen}
use Rattle.range_scan.specs.Pairs.{Sight, is_listed, items_of}
use Rattle.attr_index.specs.Prefix.{prefix_of}
use Rattle.attr_index.specs.Look.{Query, Own, bound_of, index_sight, keys_in, has_attr, found_with, found_in_leaf}
use Rattle.attr_index.specs.Meaning.{Visit, AreMeeting, listed_of, found_of, BelowFirst, AreAscending}
use Rattle.attr_index.proofs.Ascents.{less_of, below_trans, below_least, front_cmp, each_by, each_front, each_last, AreAbove, Ascends, ascends_joined, ascends_front}
use Rattle.attr_index.proofs.Entries.{both_true, items_listed, keys_each, keys_ascend}

-- ---- one leaf of the index

-- the entry of a record's key
abbrev entry_of : Query → List ℕ → List ℕ
entry_of q key = prefix_of q.attr ++ key

-- its entry is below a key, or not
abbrev IsBelow : Query → List ℕ → List ℕ → Type 0
IsBelow q bound key = bytes_below (entry_of q key) bound ≡ true

abbrev IsFrom : Query → List ℕ → List ℕ → Type 0
IsFrom q bound key = bytes_below (entry_of q key) bound ≡ false

abbrev pub HoldsKey : Visit → Type 0
HoldsKey v = holds v.leaf v.key ≡ true

below_high : (v : Visit) (key : List ℕ) → holds v.leaf key ≡ true → below_bound key v.leaf.high ≡ true
below_high v key e = (both_true (not (bytes_below key v.leaf.low)) (below_bound key v.leaf.high) e).1

not_true : (b : Bool) → not b ≡ true → b ≡ false
not_true true e = absurd (cc (e))
not_true false e = refl

-- its entries are below its high key
keys_below_high : (q : Query) (own : Own) (v : Visit)
    → AllByRecursion (λ k. below_bound (entry_of q k) v.leaf.high ≡ true) (keys_in q own v.key v.leaf)
keys_below_high q own v =
    keys_each (λ k. below_bound k v.leaf.high ≡ true) q.attr (items_of s)
    (each_by (λ (e : Entry). is_listed s e.key ≡ true) (λ (e : Entry). below_bound e.key v.leaf.high ≡ true) below (items_of s) (items_listed s).1)
  where
    s : Sight
    s = index_sight q own v.key v.leaf

    below : (e : Entry) → is_listed s e.key ≡ true → below_bound e.key v.leaf.high ≡ true
    below e is = below_high v e.key (both_true (holds v.leaf e.key) _ is).0

-- .. and from the key on to which the walk led
keys_from : (q : Query) (own : Own) (v : Visit) → AllByRecursion (IsFrom q v.key) (keys_in q own v.key v.leaf)
keys_from q own v =
    keys_each (λ k. bytes_below k v.key ≡ false) q.attr (items_of s)
    (each_by (λ (e : Entry). is_listed s e.key ≡ true) (λ (e : Entry). bytes_below e.key v.key ≡ false) from (items_of s) (items_listed s).1)
  where
    s : Sight
    s = index_sight q own v.key v.leaf

    from : (e : Entry) → is_listed s e.key ≡ true → bytes_below e.key v.key ≡ false
    from e is =
        let asked = (both_true (holds v.leaf e.key) _ is).1 in
        not_true (bytes_below e.key v.key) (both_true (not (bytes_below e.key v.key)) (below_bound e.key (bound_of q)) asked).0

keys_of_leaf : (q : Query) (own : Own) (v : Visit) → Ascends (λ k. k) (keys_in q own v.key v.leaf)
keys_of_leaf q own v = keys_ascend q.attr (items_of (index_sight q own v.key v.leaf)) (items_listed (index_sight q own v.key v.leaf)).0

-- ---- all of them

-- the entries that the leaves before one list are below the key to which its walk led
listed_before : (q : Query) (own : Own) (v : Visit) (vs : List Visit) → AreMeeting q (v ∷ vs) → AllByRecursion HoldsKey vs
    → AllByRecursion (IsBelow q v.key) (listed_of q own vs)
listed_before q own v [] meeting held = tt
listed_before q own v (w ∷ vs) meeting held =
    AllByRecursion-append (IsBelow q v.key) (listed_of q own vs) (keys_in q own w.key w.leaf)
    (each_by (IsBelow q w.key) (IsBelow q v.key) older (listed_of q own vs) (listed_before q own w vs meeting.1 held.1))
    (each_by (λ k. below_bound (entry_of q k) w.leaf.high ≡ true) (IsBelow q v.key) below (keys_in q own w.key w.leaf) (keys_below_high q own w))
  where
    below : (k : List ℕ) → below_bound (entry_of q k) w.leaf.high ≡ true → IsBelow q v.key k
    below k e = ap (below_bound (entry_of q k)) (sym meeting.0.0) ∙ e

    older : (k : List ℕ) → IsBelow q w.key k → IsBelow q v.key k
    older k e = below k (below_trans (entry_of q k) w.key w.leaf.high (less_of (entry_of q k) w.key e) (below_high w w.key held.0))

pub listed_ascend : (q : Query) (own : Own) (vs : List Visit) → AreMeeting q vs → AllByRecursion HoldsKey vs → Ascends (λ k. k) (listed_of q own vs)
listed_ascend q own [] meeting held = tt
listed_ascend q own (v ∷ vs) meeting held =
    let before = listed_before q own v vs meeting held.1 in
    ascends_joined (λ k. k) (listed_of q own vs) keys (listed_ascend q own vs meeting.1 held.1) (keys_of_leaf q own v)
    (each_by (IsBelow q v.key) (λ k. AreAbove (λ j. j) k keys) all_above (listed_of q own vs) before)
  where
    keys : List (List ℕ)
    keys = keys_in q own v.key v.leaf

    above : (k : List ℕ) → IsBelow q v.key k → (j : List ℕ) → IsFrom q v.key j → bytes_cmp k j ≡ Less
    above k e j from = sym (front_cmp (prefix_of q.attr) k j) ∙ below_least (entry_of q k) v.key (entry_of q j) e from

    all_above : (k : List ℕ) → IsBelow q v.key k → AreAbove (λ j. j) k keys
    all_above k e = each_by (IsFrom q v.key) (λ j. bytes_cmp k j ≡ Less) (above k e) keys (keys_from q own v)

-- ---- records

-- the keys of the records that were read, from the first one on
abbrev pub read_of : List Visit → List (List ℕ)
read_of records = reverse (map (λ (v : Visit). v.key) records)

pub read_more : (v : Visit) (records : List Visit) → read_of (v ∷ records) ≡ read_of records ++ v.key ∷ []
read_more v records = reverse_onto (map (λ (w : Visit). w.key) records) v.key []

one_found : (P : List ℕ → Type 0) (attr key : List ℕ) (o : Option Value) → P key → AllByRecursion (λ (p : Pair). P p.key) (found_with attr key o)
one_found P attr key None this = tt
one_found P attr key (Some value) this = on (has_attr attr value.attr) where
  on : (b : Bool) → AllByRecursion (λ (p : Pair). P p.key) (if b then record { key = key; payload = value.payload } ∷ [] else [])
  on true = (this, tt)
  on false = tt

one_ascends : (attr key : List ℕ) (o : Option Value) → Ascends (λ (p : Pair). p.key) (found_with attr key o)
one_ascends attr key None = tt
one_ascends attr key (Some value) = on (has_attr attr value.attr) where
  on : (b : Bool) → Ascends (λ (p : Pair). p.key) (if b then record { key = key; payload = value.payload } ∷ [] else [])
  on true = (tt, tt)
  on false = tt

-- what holds of each key that was read holds of those found
found_each : (P : List ℕ → Type 0) (q : Query) (own : Own) (records : List Visit) → AllByRecursion P (read_of records)
    → AllByRecursion (λ (p : Pair). P p.key) (found_of q own records)
found_each P q own [] h = tt
found_each P q own (v ∷ records) h =
    let both = subst (AllByRecursion P) (read_more v records) h in
    AllByRecursion-append (λ (p : Pair). P p.key) (found_of q own records) (found_in_leaf q own v.key v.leaf)
    (found_each P q own records (each_front P (read_of records) (v.key ∷ []) both))
    (one_found P q.attr v.key (seen v.leaf q.tree v.key own.client own.head own.buffer) (each_last P (read_of records) v.key both))

found_ascend : (q : Query) (own : Own) (records : List Visit) → Ascends (λ k. k) (read_of records)
    → Ascends (λ (p : Pair). p.key) (found_of q own records)
found_ascend q own [] h = tt
found_ascend q own (v ∷ records) h =
    let (up, before) = ascends_front (read_of records) v.key (subst (Ascends (λ k. k)) (read_more v records) h) in
    ascends_joined (λ (p : Pair). p.key) (found_of q own records) (found_in_leaf q own v.key v.leaf) (found_ascend q own records up)
    (one_ascends q.attr v.key (seen v.leaf q.tree v.key own.client own.head own.buffer))
    (each_by (λ (p : Pair). bytes_cmp p.key v.key ≡ Less) (λ (p : Pair). AreAbove (λ (r : Pair). r.key) p.key (found_in_leaf q own v.key v.leaf))
    (λ p less. one_found (λ k. bytes_cmp p.key k ≡ Less) q.attr v.key (seen v.leaf q.tree v.key own.client own.head own.buffer) less)
    (found_of q own records) (found_each (λ k. bytes_cmp k v.key ≡ Less) q own records before))

pairs_ascend : (ps : List Pair) → Ascends (λ (p : Pair). p.key) ps → AreAscending ps
pairs_ascend [] h = tt
pairs_ascend (p ∷ ps) h = (first ps h.0, pairs_ascend ps h.1) where
  first : (rs : List Pair) → AreAbove (λ (r : Pair). r.key) p.key rs → BelowFirst p.key rs
  first [] g = tt
  first (r ∷ rs) g = g.0

pub found_are_ascending : (q : Query) (own : Own) (records : List Visit) → Ascends (λ k. k) (read_of records) → AreAscending (found_of q own records)
found_are_ascending q own records h = pairs_ascend (found_of q own records) (found_ascend q own records h)
