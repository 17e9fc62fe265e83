-- Where everything is still, a look-up finds each record that has the attribute, once and in the order of the keys.
use Rattle.std.specs.Prelude.{ℕ, ◌≡◌, ◌<◌, ◌≤◌, true, List, [], ◌∷◌, ◌++◌, length, Option, Some, None, if◌then◌else◌}
use Rattle.std.specs.List.{AllByRecursion, Contains}
use Rattle.byte_format.specs.Order.{bytes_below}
use Rattle.db_base.specs.Limits.{longest_key}
use Rattle.db_base.specs.Value.{Value}
use Rattle.db_base.specs.declared.pair.Pair.{Pair}
use Rattle.leaf_view.specs.Fits.{Ascend}
use Rattle.leaf_view.specs.Leaf.{Leaf}
use Rattle.leaf_view.specs.Lookup.{holds}
use Rattle.report_types.specs.declared.stored.Stored.{Stored}
use Rattle.route_plan.specs.Seen.{seen}
use Rattle.attr_index.specs.declared.stage.Stage.{Stage}
use Rattle.attr_index.specs.declared.stage.Stage.TheVariants.{Index, Records}
use Rattle.attr_index.specs.Prefix.{prefix_of}
use Rattle.attr_index.specs.Look.{Query, Own, has_attr}
use Rattle.attr_index.specs.Meaning.{Visit, tree_at}

-- key and payload of each record of a list that has an attribute, in the list's order
abbrev pub tagged : List Stored → List ℕ → List Pair
tagged [] attr = []
tagged (r ∷ rs) attr = if has_attr attr r.attr then record { key = r.key; payload = r.payload } ∷ tagged rs attr else tagged rs attr

-- the value of a record
abbrev pub stored_value : Stored → Value
stored_value r = record { payload = r.payload; attr = r.attr }

-- the records are the values at all keys, each once, in the order of the keys
pub record AreRecords (records : List Stored) (value : List ℕ → Option Value) : Type 0 where
  pub ascending : Ascend (λ (a b : Stored). bytes_below a.key b.key) None records
  pub each : AllByRecursion (λ (r : Stored). value r.key ≡ Some (stored_value r)) records
  pub all : (key : List ℕ) (v : Value) → value key ≡ Some v → Contains records (record { key = key; payload = v.payload; attr = v.attr })

-- the index has the entry of a record's key, which is short enough to be a key
pub record HasEntry (q : Query) (index : List ℕ → Option Value) (key : List ℕ) : Type 0 where
  pub some : 0 < length key
  pub short : length (prefix_of q.attr ++ key) ≤ longest_key
  pub entry : Value
  pub there : index (prefix_of q.attr ++ key) ≡ Some entry

-- each record that has the attribute is in the index; that may have more
abbrev pub IsIndexed : Query → (List ℕ → Option Value) → (List ℕ → Option Value) → Type 0
IsIndexed q value index = (key : List ℕ) (v : Value) → value key ≡ Some v → has_attr q.attr v.attr ≡ true → HasEntry q index key

-- at each key that it holds a leaf shows the client this value
abbrev pub ShowsAll : Own → ℕ → (List ℕ → Option Value) → Leaf → Type 0
ShowsAll own tree value leaf = (key : List ℕ) → holds leaf key ≡ true → seen leaf tree key own.client own.head own.buffer ≡ value key

-- a leaf of the index shows what is in the index, and one of a record the values
abbrev pub ShowsAt : Query → Own → (List ℕ → Option Value) → (List ℕ → Option Value) → Stage → Leaf → Type 0
ShowsAt q own value index Index leaf = ShowsAll own (tree_at q Index) index leaf
ShowsAt q own value index Records leaf = ShowsAll own (tree_at q Records) value leaf

abbrev pub ShowsVisit : Query → Own → (List ℕ → Option Value) → (List ℕ → Option Value) → Visit → Type 0
ShowsVisit q own value index v = ShowsAt q own value index v.stage v.leaf

-- everything is still: all leaves show the same records, and the same index of them
pub record IsStill (q : Query) (own : Own) (records : List Stored) (value index : List ℕ → Option Value) (vs : List Visit) : Type 0 where
  pub are : AreRecords records value
  pub indexed : IsIndexed q value index
  pub shown : AllByRecursion (ShowsVisit q own value index) vs

-- what was found in these leaves are the records that have the attribute, wherever these leaves show everything still
abbrev pub FindsTagged : Query → Own → List Visit → List Pair → Type 0
FindsTagged q own vs pairs =
    (records : List Stored) (value index : List ℕ → Option Value) → IsStill q own records value index vs → pairs ≡ tagged records q.attr
