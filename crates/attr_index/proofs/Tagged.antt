-- Where everything is still, what was found are the records that have the attribute.
use Rattle.std.proofs.Common.{◌≡◌, ℕ, Bool, true, false, List, [], ◌∷◌, ◌++◌, Option, Some, None, ◌⊎◌, inl, inr, refl, ap, sym, subst, ◌∙◌}
use Rattle.std.specs.Prelude.{if◌then◌else◌}
use Rattle.std.specs.List.{AllByRecursion}
use Rattle.std.specs.declared.cmp.Ordering.TheVariants.{Less}
use Rattle.byte_format.specs.Order.{bytes_cmp, bytes_below}
use Rattle.db_base.specs.Value.{Value}
use Rattle.attr_index.proofs.Words.{Stage, Records, Pair}
use Rattle.leaf_view.specs.Fits.{Ascend}
use Rattle.report_types.specs.declared.stored.Stored.{Stored}
use Rattle.txn_buffer.specs.Noted.{AreDistinct}
use Rattle.route_plan.specs.Seen.{seen}
use Rattle.attr_index.specs.Look.{Query, Own, has_attr, found_with, found_in_leaf}
use Rattle.attr_index.specs.Meaning.{Visit, IsVisit, IsOfStage, listed_of, found_of, BelowFirst, AreAscending, IsFound}
use Rattle.attr_index.specs.Tagged.{tagged, stored_value, AreRecords, HasEntry, ShowsAt, ShowsVisit, FindsTagged}
use Rattle.attr_index.proofs.Ascents.{less_of, each_front, each_back, AreAbove, above_more, Ascends}
use Rattle.attr_index.proofs.Covering.{covered}
use Rattle.attr_index.proofs.Listings.{read_of, read_more}
use Rattle.attr_index.proofs.Members.{IsIn, in_front, in_back, in_either, contained_in, same_list}

abbrev key_of : Pair → List ℕ
key_of p = p.key

abbrev pair : List ℕ → List ℕ → Pair
pair key payload = record { key = key; payload = payload }

-- ---- both lists ascend

abbrev stored_below : Stored → Stored → Bool
stored_below a b = bytes_below a.key b.key

tagged_behind : (attr : List ℕ) (before : Stored) (rs : List Stored) → Ascend stored_below (Some before) rs
    → AreAbove key_of before.key (tagged rs attr) × Ascends key_of (tagged rs attr)
tagged_behind attr before [] up = (tt, tt)
tagged_behind attr before (r ∷ rs) up = on (has_attr attr r.attr) (tagged_behind attr r rs up.1) where
  below : bytes_cmp before.key r.key ≡ Less
  below = less_of before.key r.key up.0

  on : (b : Bool) → AreAbove key_of r.key (tagged rs attr) × Ascends key_of (tagged rs attr)
      → AreAbove key_of before.key (if b then pair r.key r.payload ∷ tagged rs attr else tagged rs attr)
      × Ascends key_of (if b then pair r.key r.payload ∷ tagged rs attr else tagged rs attr)
  on true rest = ((below, above_more key_of before.key r.key (tagged rs attr) below rest.0), rest)
  on false rest = (above_more key_of before.key r.key (tagged rs attr) below rest.0, rest.1)

tagged_ascends : (attr : List ℕ) (rs : List Stored) → Ascend stored_below None rs → Ascends key_of (tagged rs attr)
tagged_ascends attr [] up = tt
tagged_ascends attr (r ∷ rs) up = on (has_attr attr r.attr) (tagged_behind attr r rs up.1) where
  on : (b : Bool) → AreAbove key_of r.key (tagged rs attr) × Ascends key_of (tagged rs attr)
      → Ascends key_of (if b then pair r.key r.payload ∷ tagged rs attr else tagged rs attr)
  on true rest = rest
  on false rest = rest.1

above_first : (key : List ℕ) (ps : List Pair) → BelowFirst key ps → AreAscending ps → AreAbove key_of key ps
above_first key [] below up = tt
above_first key (p ∷ ps) below up = (below, above_more key_of key p.key ps below (above_first p.key ps up.0 up.1))

pairs_ascend : (ps : List Pair) → AreAscending ps → Ascends key_of ps
pairs_ascend [] up = tt
pairs_ascend (p ∷ ps) up = (above_first p.key ps up.0 up.1, pairs_ascend ps up.1)

-- ---- their members: the pairs of the values that have the attribute

record IsTagged (value : List ℕ → Option Value) (attr : List ℕ) (p : Pair) : Type 0 where
  of : Value
  at : value p.key ≡ Some of
  has : has_attr attr of.attr ≡ true
  payload : of.payload ≡ p.payload

-- of the records

tagged_is : (value : List ℕ → Option Value) (attr : List ℕ) (rs : List Stored) → AllByRecursion (λ (r : Stored). value r.key ≡ Some (stored_value r)) rs
    → (p : Pair) → IsIn p (tagged rs attr) → IsTagged value attr p
tagged_is value attr [] each p k = absurd k
tagged_is value attr (r ∷ rs) each p k = on (has_attr attr r.attr) refl k (tagged_is value attr rs each.1 p) where
  on : (b : Bool) → has_attr attr r.attr ≡ b → IsIn p (if b then pair r.key r.payload ∷ tagged rs attr else tagged rs attr)
      → (IsIn p (tagged rs attr) → IsTagged value attr p) → IsTagged value attr p
  on true is (inl e) rest = subst (IsTagged value attr) (sym e) (record { of = stored_value r; at = each.0; has = is; payload = refl })
  on true is (inr j) rest = rest j
  on false is j rest = rest j

in_tagged : (attr : List ℕ) (rs : List Stored) (r : Stored) → has_attr attr r.attr ≡ true → IsIn r rs → IsIn (pair r.key r.payload) (tagged rs attr)
in_tagged attr [] r has k = absurd k
in_tagged attr (x ∷ rs) r has k = on (has_attr attr x.attr) refl k (in_tagged attr rs r has) where
  on : (b : Bool) → has_attr attr x.attr ≡ b → (r ≡ x) ⊎ IsIn r rs → (IsIn r rs → IsIn (pair r.key r.payload) (tagged rs attr))
      → IsIn (pair r.key r.payload) (if b then pair x.key x.payload ∷ tagged rs attr else tagged rs attr)
  on true is (inl e) rest = inl (ap (λ (y : Stored). pair y.key y.payload) e)
  on true is (inr j) rest = inr (rest j)
  on false is (inl e) rest = absurd (cc (is, has, ap (λ (y : Stored). has_attr attr y.attr) e))
  on false is (inr j) rest = rest j

is_tagged : (records : List Stored) (value : List ℕ → Option Value) (attr : List ℕ) → AreRecords records value → (p : Pair) → IsTagged value attr p
    → IsIn p (tagged records attr)
is_tagged records value attr are p h =
    let r : Stored = record { key = p.key; payload = h.of.payload; attr = h.of.attr } in
    subst (λ (bytes : List ℕ). IsIn (pair p.key bytes) (tagged records attr)) h.payload
    (in_tagged attr records r h.has (contained_in records r (are.all p.key h.of h.at)))

-- of what was found

-- the leaf of a record shows the value of its key
shown_at : (q : Query) (own : Own) (value index : List ℕ → Option Value) (v : Visit) → v.stage ≡ Records → IsVisit q v → ShowsVisit q own value index v
    → seen v.leaf q.tree v.key own.client own.head own.buffer ≡ value v.key
shown_at q own value index v at visit shows =
    let of_records : ShowsAt q own value index Records v.leaf = subst (λ (stage : Stage). ShowsAt q own value index stage v.leaf) at shows in
    of_records v.key visit.holds_key

one_is : (value : List ℕ → Option Value) (attr key : List ℕ) (p : Pair) (o : Option Value) → value key ≡ o → IsIn p (found_with attr key o)
    → IsTagged value attr p
one_is value attr key p None at k = absurd k
one_is value attr key p (Some of) at k = on (has_attr attr of.attr) refl k where
  on : (b : Bool) → has_attr attr of.attr ≡ b → IsIn p (if b then pair key of.payload ∷ [] else []) → IsTagged value attr p
  on true is (inl e) = subst (IsTagged value attr) (sym e) (record { of = of; at = at; has = is; payload = refl })
  on true is (inr j) = absurd j
  on false is j = absurd j

found_is : (q : Query) (own : Own) (value index : List ℕ → Option Value) (vs : List Visit) → AllByRecursion (IsOfStage Records) vs → AllByRecursion (IsVisit q) vs
    → AllByRecursion (ShowsVisit q own value index) vs → (p : Pair) → IsIn p (found_of q own vs) → IsTagged value q.attr p
found_is q own value index [] of_records visits shows p k = absurd k
found_is q own value index (v ∷ vs) of_records visits shows p k =
    on (in_either p (found_of q own vs) (found_in_leaf q own v.key v.leaf) k) (found_is q own value index vs of_records.1 visits.1 shows.1 p)
  where
    on : IsIn p (found_of q own vs) ⊎ IsIn p (found_in_leaf q own v.key v.leaf) → (IsIn p (found_of q own vs) → IsTagged value q.attr p)
        → IsTagged value q.attr p
    on (inl j) rest = rest j
    on (inr j) rest = one_is value q.attr v.key p _ (sym (shown_at q own value index v of_records.0 visits.0 shows.0)) j

in_one : (attr : List ℕ) (p : Pair) (of : Value) → has_attr attr of.attr ≡ true → of.payload ≡ p.payload → IsIn p (found_with attr p.key (Some of))
in_one attr p of has payload =
    let here : p ≡ pair p.key of.payload = ap (pair p.key) (sym payload) in
    subst (λ (b : Bool). IsIn p (if b then pair p.key of.payload ∷ [] else [])) (sym has) (inl here)

in_leaf : (q : Query) (own : Own) (value index : List ℕ → Option Value) (v : Visit) → v.stage ≡ Records → IsVisit q v → ShowsVisit q own value index v
    → (p : Pair) → IsTagged value q.attr p → p.key ≡ v.key → IsIn p (found_in_leaf q own v.key v.leaf)
in_leaf q own value index v at visit shows p h same =
    let there : seen v.leaf q.tree v.key own.client own.head own.buffer ≡ Some h.of =
    shown_at q own value index v at visit shows ∙ (ap value (sym same) ∙ h.at) in
    subst (λ (o : Option Value). IsIn p (found_with q.attr v.key o)) (sym there)
    (subst (λ (key : List ℕ). IsIn p (found_with q.attr key (Some h.of))) same (in_one q.attr p h.of h.has h.payload))

in_found : (q : Query) (own : Own) (value index : List ℕ → Option Value) (vs : List Visit) → AllByRecursion (IsOfStage Records) vs → AllByRecursion (IsVisit q) vs
    → AllByRecursion (ShowsVisit q own value index) vs → (p : Pair) → IsTagged value q.attr p → IsIn p.key (read_of vs) → IsIn p (found_of q own vs)
in_found q own value index [] of_records visits shows p h k = absurd k
in_found q own value index (v ∷ vs) of_records visits shows p h k =
    on (in_either p.key (read_of vs) (v.key ∷ []) (subst (λ (keys : List (List ℕ)). IsIn p.key keys) (read_more v vs) k))
    (in_found q own value index vs of_records.1 visits.1 shows.1 p h)
  where
    on : IsIn p.key (read_of vs) ⊎ IsIn p.key (v.key ∷ []) → (IsIn p.key (read_of vs) → IsIn p (found_of q own vs)) → IsIn p (found_of q own (v ∷ vs))
    on (inl j) rest = in_front p (found_of q own vs) (found_in_leaf q own v.key v.leaf) (rest j)
    on (inr (inl e)) rest =
        in_back p (found_of q own vs) (found_in_leaf q own v.key v.leaf) (in_leaf q own value index v of_records.0 visits.0 shows.0 p h e)
    on (inr (inr j)) rest = absurd j

-- ---- so they are one list

pub finds_tagged : (q : Query) (own : Own) (vs : List Visit) (pairs : List Pair) → AreDistinct own.buffer → IsFound q own vs pairs → FindsTagged q own vs pairs
finds_tagged q own vs pairs apart f records value index still =
    same_list key_of pairs (tagged records q.attr) (pairs_ascend pairs f.ascending) (tagged_ascends q.attr records still.are.ascending) to from
  where
    visits : AllByRecursion (IsVisit q) (f.records ++ f.index)
    visits = subst (AllByRecursion (IsVisit q)) f.are f.each

    shows : AllByRecursion (ShowsVisit q own value index) (f.records ++ f.index)
    shows = subst (AllByRecursion (ShowsVisit q own value index)) f.are still.shown

    record_visits : AllByRecursion (IsVisit q) f.records
    record_visits = each_front (IsVisit q) f.records f.index visits

    record_shows : AllByRecursion (ShowsVisit q own value index) f.records
    record_shows = each_front (ShowsVisit q own value index) f.records f.index shows

    to : (p : Pair) → IsIn p pairs → IsIn p (tagged records q.attr)
    to p k =
        is_tagged records value q.attr still.are p
        (found_is q own value index f.records f.of_records record_visits record_shows p (subst (λ (ps : List Pair). IsIn p ps) f.found k))

    read : (p : Pair) → IsTagged value q.attr p → IsIn p.key (read_of f.records)
    read p h =
        let entry : HasEntry q index p.key = still.indexed p.key h.of h.at h.has in
        let listed : IsIn p.key (listed_of q own f.index) =
        covered q own value index p.key apart entry f.index f.of_index (each_back (IsVisit q) f.records f.index visits)
        (each_back (ShowsVisit q own value index) f.records f.index shows) f.meeting f.past in
        subst (λ (keys : List (List ℕ)). IsIn p.key keys) (sym f.listed) listed

    from : (p : Pair) → IsIn p (tagged records q.attr) → IsIn p pairs
    from p k =
        let h : IsTagged value q.attr p = tagged_is value q.attr records still.are.each p k in
        subst (λ (ps : List Pair). IsIn p ps) (sym f.found)
        (in_found q own value index f.records f.of_records record_visits record_shows p h (read p h))
