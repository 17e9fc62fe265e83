-- The leaves of an index list the key of each record whose entry they show.
use Rattle.std.proofs.Common.{◌≡◌, ℕ, ◌<◌, ◌≤◌, Bool, true, false, not, List, [], ◌∷◌, ◌++◌, length, Option, Some, None, inl, inr, refl, ap, sym, subst, ◌∙◌}
use Rattle.std.specs.Prelude.{if◌then◌else◌}
use Rattle.std.specs.List.{AllByRecursion}
use Rattle.std.specs.Ordering.{is_lt}
use Rattle.std.proofs.lemmas.Bool.{and_parts, and_from, le-ltb}
use Rattle.byte_format.specs.Order.{bytes_below, bytes_same, below_bound}
use Rattle.byte_format.proofs.OrderLemmas.{same_is}
use Rattle.db_base.specs.Ids.{index_of}
use Rattle.db_base.specs.Value.{Value}
use Rattle.attr_index.proofs.Words.{Stage, Index, Entry, holds}
use Rattle.leaf_view.specs.Lookup.{value_of}
use Rattle.txn_buffer.specs.Noted.{AreDistinct}
use Rattle.route_plan.specs.Seen.{seen}
use Rattle.range_scan.specs.Meaning.{IsPast}
use Rattle.range_scan.specs.Pairs.{Sight, AreItems, is_listed, items_of}
use Rattle.range_scan.proofs.Pairs.{items_are}
use Rattle.attr_index.specs.Prefix.{prefix_of, behind, record_key, joined, entry_keys}
use Rattle.attr_index.specs.Look.{Query, Own, bound_of, index_sight, keys_in}
use Rattle.attr_index.specs.Meaning.{Visit, IsVisit, IsOfStage, AreMeeting, EndsPast, listed_of}
use Rattle.attr_index.specs.Tagged.{HasEntry, ShowsAt, ShowsVisit}
use Rattle.attr_index.proofs.Ascents.{below_least}
use Rattle.attr_index.proofs.Listings.{HoldsKey}
use Rattle.attr_index.proofs.Members.{IsIn, in_front, in_back}
use Rattle.attr_index.proofs.Ordered.{got_ascends}
use Rattle.attr_index.proofs.Prefixes.{never_below, below_next, behind_prefix}

-- the entry of a record's key
abbrev entry_of : Query → List ℕ → List ℕ
entry_of q key = prefix_of q.attr ++ key

not_true : (b : Bool) → not b ≡ true → b ≡ false
not_true true e = absurd (cc (e))
not_true false e = refl

-- ---- one leaf

in_joined : (key : List ℕ) (o : Option (List ℕ)) (keys : List (List ℕ)) → IsIn key keys → IsIn key (joined o keys)
in_joined key None keys k = k
in_joined key (Some first) keys k = inr k

-- an entry that has a value is among the entries, and so is its record's key
entry_listed : (attr bytes key : List ℕ) (value : Value) (es : List Entry) → record_key attr bytes ≡ Some key → value_of bytes es ≡ Some value
    → IsIn key (entry_keys attr es)
entry_listed attr bytes key value [] is e = absurd (cc (e))
entry_listed attr bytes key value (d ∷ es) is e = on (bytes_same d.key bytes) refl e (entry_listed attr bytes key value es is) where
  on : (b : Bool) → bytes_same d.key bytes ≡ b → (if b then Some d.value else value_of bytes es) ≡ Some value
      → (value_of bytes es ≡ Some value → IsIn key (entry_keys attr es)) → IsIn key (joined (record_key attr d.key) (entry_keys attr es))
  on true same h rest =
      let found : record_key attr d.key ≡ Some key = ap (record_key attr) (same_is d.key bytes same) ∙ is in
      subst (λ (o : Option (List ℕ)). IsIn key (joined o (entry_keys attr es))) (sym found) (inl refl)
  on false same h rest = in_joined key (record_key attr d.key) (entry_keys attr es) (rest h)

key_behind : (q : Query) (key : List ℕ) → 0 < length key → length (entry_of q key) ≤ 64 → record_key q.attr (entry_of q key) ≡ Some key
key_behind q key some short =
    ap (λ (long : Bool). if long then None else behind (prefix_of q.attr) (entry_of q key)) (le-ltb 64 (length (entry_of q key)) short)
    ∙ behind_prefix (prefix_of q.attr) key some

-- a leaf lists the record's key where it holds its entry, and its walk did not lead behind it
leaf_lists : (q : Query) (own : Own) (value index : List ℕ → Option Value) (v : Visit) (key : List ℕ) → AreDistinct own.buffer → HasEntry q index key
    → v.stage ≡ Index → IsVisit q v → ShowsVisit q own value index v → holds v.leaf (entry_of q key) ≡ true → bytes_below (entry_of q key) v.key ≡ false
    → IsIn key (keys_in q own v.key v.leaf)
leaf_lists q own value index v key apart has at visit shows held from =
    entry_listed q.attr (entry_of q key) key has.entry (items_of s) (key_behind q key has.some has.short)
    (items.each (entry_of q key) ∙ (ap (λ (b : Bool). if b then seen v.leaf (index_of q.tree) (entry_of q key) own.client own.head own.buffer else None) asked
    ∙ (index_shows (entry_of q key) held ∙ has.there)))
  where
    s : Sight
    s = index_sight q own v.key v.leaf

    items : AreItems s (items_of s)
    items = items_are s s (items_of s) refl (got_ascends visit.served.is_got.got v.leaf visit.served.is_got.spelled) apart refl

    index_shows : ShowsAt q own value index Index v.leaf
    index_shows = subst (λ (stage : Stage). ShowsAt q own value index stage v.leaf) at shows

    asked : is_listed s (entry_of q key) ≡ true
    asked =
        and_from (holds v.leaf (entry_of q key)) _ held
        (and_from (not (bytes_below (entry_of q key) v.key)) (below_bound (entry_of q key) (bound_of q)) (ap not from) (below_next (prefix_of q.attr) key))

-- ---- all of them

-- a key that is not below another one is not below what that is not below
not_below : (a b low : List ℕ) → bytes_below a b ≡ false → bytes_below b low ≡ false → bytes_below a low ≡ false
not_below a b low from on_from = on (bytes_below a low) refl where
  on : (below : Bool) → bytes_below a low ≡ below → below ≡ false
  on true is = absurd (cc (from, ap is_lt (below_least a low b is on_from)))
  on false is = refl

held_too : (v : Visit) (bytes : List ℕ) → HoldsKey v → bytes_below bytes v.key ≡ false → below_bound bytes v.leaf.high ≡ true → holds v.leaf bytes ≡ true
held_too v bytes held from below =
    let from_low : not (bytes_below v.key v.leaf.low) ≡ true = (and_parts (not (bytes_below v.key v.leaf.low)) (below_bound v.key v.leaf.high) held).0 in
    let low : bytes_below v.key v.leaf.low ≡ false = not_true (bytes_below v.key v.leaf.low) from_low in
    and_from (not (bytes_below bytes v.leaf.low)) (below_bound bytes v.leaf.high) (ap not (not_below bytes v.key v.leaf.low from low)) below

-- what a leaf of the index lists
abbrev Lists : Query → Own → List ℕ → Visit → Type 0
Lists q own key v = holds v.leaf (entry_of q key) ≡ true → bytes_below (entry_of q key) v.key ≡ false → IsIn key (keys_in q own v.key v.leaf)

-- an entry below the high key of the newest leaf is in it or in one before it
reached : (q : Query) (own : Own) (key : List ℕ) (v : Visit) (vs : List Visit) → AreMeeting q (v ∷ vs) → AllByRecursion HoldsKey (v ∷ vs)
    → AllByRecursion (Lists q own key) (v ∷ vs) → below_bound (entry_of q key) v.leaf.high ≡ true → IsIn key (listed_of q own (v ∷ vs))
reached q own key v [] meeting held lists below =
    let from : bytes_below (entry_of q key) v.key ≡ false =
    ap (bytes_below (entry_of q key)) meeting.0 ∙ never_below (prefix_of q.attr) key in
    in_back key [] (keys_in q own v.key v.leaf) (lists.0 (held_too v (entry_of q key) held.0 from below) from)
reached q own key v (w ∷ vs) meeting held lists below = on (bytes_below (entry_of q key) v.key) refl (reached q own key w vs meeting.1 held.1 lists.1) where
  on : (b : Bool) → bytes_below (entry_of q key) v.key ≡ b → (below_bound (entry_of q key) w.leaf.high ≡ true → IsIn key (listed_of q own (w ∷ vs)))
      → IsIn key (listed_of q own (v ∷ w ∷ vs))
  on true is before =
      in_front key (listed_of q own (w ∷ vs)) (keys_in q own v.key v.leaf) (before (ap (below_bound (entry_of q key)) meeting.0.0 ∙ is))
  on false is before =
      in_back key (listed_of q own (w ∷ vs)) (keys_in q own v.key v.leaf) (lists.0 (held_too v (entry_of q key) held.0 is below) is)

past_below : (bytes : List ℕ) (bound high : Option (List ℕ)) → below_bound bytes bound ≡ true → IsPast bound high → below_bound bytes high ≡ true
past_below bytes bound None below past = refl
past_below bytes None (Some high) below past = absurd (cc (past))
past_below bytes (Some bound) (Some high) below past = ap is_lt (below_least bytes bound high below past)

each_lists : (q : Query) (own : Own) (value index : List ℕ → Option Value) (key : List ℕ) → AreDistinct own.buffer → HasEntry q index key
    → (vs : List Visit) → AllByRecursion (IsOfStage Index) vs → AllByRecursion (IsVisit q) vs → AllByRecursion (ShowsVisit q own value index) vs
    → AllByRecursion (Lists q own key) vs
each_lists q own value index key apart has [] of_index visits shows = tt
each_lists q own value index key apart has (v ∷ vs) of_index visits shows =
    (leaf_lists q own value index v key apart has of_index.0 visits.0 shows.0, each_lists q own value index key apart has vs of_index.1 visits.1 shows.1)

each_holds : (q : Query) (vs : List Visit) → AllByRecursion (IsVisit q) vs → AllByRecursion HoldsKey vs
each_holds q [] h = tt
each_holds q (v ∷ vs) h = (h.0.holds_key, each_holds q vs h.1)

-- leaves that meet and end behind the last entry list each record whose entry the index has
pub covered : (q : Query) (own : Own) (value index : List ℕ → Option Value) (key : List ℕ) → AreDistinct own.buffer → HasEntry q index key
    → (vs : List Visit) → AllByRecursion (IsOfStage Index) vs → AllByRecursion (IsVisit q) vs → AllByRecursion (ShowsVisit q own value index) vs
    → AreMeeting q vs → EndsPast q vs → IsIn key (listed_of q own vs)
covered q own value index key apart has [] of_index visits shows meeting past = absurd past
covered q own value index key apart has (v ∷ vs) of_index visits shows meeting past =
    reached q own key v vs meeting (each_holds q (v ∷ vs) visits) (each_lists q own value index key apart has (v ∷ vs) of_index visits shows)
    (past_below (entry_of q key) (bound_of q) v.leaf.high (below_next (prefix_of q.attr) key) past)
