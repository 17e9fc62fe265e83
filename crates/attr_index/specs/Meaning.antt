-- What a look-up comes to over its whole run: the leaves of the index, one behind the other, and then one leaf for each record that they list.
use Rattle.std.specs.Prelude.{ℕ, ◌≡◌, ⊤, true, List, [], ◌∷◌, ◌++◌, map, reverse, Option, Some, None}
use Rattle.std.specs.List.{AllByRecursion}
use Rattle.std.specs.declared.cmp.Ordering.TheVariants.{Less}
use Rattle.byte_format.specs.Order.{bytes_cmp, below_bound}
use Rattle.db_base.specs.Ids.{index_of}
use Rattle.db_base.specs.declared.pair.Pair.{Pair}
use Rattle.leaf_view.specs.Leaf.{Leaf}
use Rattle.leaf_view.specs.Lookup.{holds}
use Rattle.cloud_trait.specs.Machine.{Next, Goes, Ends, Stops, Deed, IsMade}
use Rattle.page_cache.specs.Cache.{Cache}
use Rattle.page_cache.specs.Held.{leaf_at}
use Rattle.tree_walk.specs.Walk.{Walk, object_of, sought, walk_next}
use Rattle.range_scan.specs.Meaning.{IsServed, IsPast}
use Rattle.attr_index.specs.declared.stage.Stage.{Stage}
use Rattle.attr_index.specs.declared.stage.Stage.TheVariants.{Index, Records}
use Rattle.attr_index.specs.Prefix.{prefix_of}
use Rattle.attr_index.specs.Look.{Query, Own, Look, look_asks, look_ready, look_next, bound_of, keys_in, found_in_leaf}

-- ---- its history

-- the end of a walk: what it was for, the key that it sought, the call that brought its leaf, and that leaf
pub record Visit : Type 0 where
  pub stage : Stage
  pub key : List ℕ
  pub deed : Deed
  pub leaf : Leaf

-- the leaf at which a walk ended
abbrev pub leaf_of : Next (Walk × Cache) ℕ → Option Leaf
leaf_of (Goes n) = None
leaf_of (Ends n page) = leaf_at n.1 (object_of n.0)
leaf_of (Stops n t) = None

-- the leaf at which the walk in hand ended by this call
abbrev pub leaf_by : Look × Cache → Deed → Option Leaf
leaf_by m d = leaf_of (walk_next (m.0.walk, m.1) d.answer)

abbrev pub visited : Look → Deed → Option Leaf → List Visit → List Visit
visited l d None vs = vs
visited l d (Some leaf) vs = record { stage = l.stage; key = sought l.walk; deed = d; leaf = leaf } ∷ vs

-- the look-up came from its begin to this state by calls, whatever others did between them; by these its walks ended at these leaves, the newest first
abbrev pub Looked : Query → Own → List Deed → List Visit → Look × Cache → Type 0
Looked q own [] vs m = (c : Cache) × (vs ≡ []) × (look_ready q c ≡ Goes m)
Looked q own (d ∷ h) vs m =
    (from : Look × Cache) × (before : List Visit) × Looked q own h before from × (d.ask ≡ look_asks from) × IsMade d × (look_next own from d.answer ≡ Goes m)
    × (vs ≡ visited from.0 d (leaf_by from d) before)

-- ---- leaves

-- the tree of a walk
abbrev pub tree_at : Query → Stage → ℕ
tree_at q Index = index_of q.tree
tree_at q Records = q.tree

-- the leaf is one that its call served, a version that landed, and the newest where no count of stale gets rose; and it holds the key
pub record IsVisit (q : Query) (v : Visit) : Type 0 where
  pub served : IsServed (tree_at q v.stage) v.deed v.leaf
  pub holds_key : holds v.leaf v.key ≡ true

-- the first leaf of the index holds the length and the bytes of the attribute, each next one the high key of the one before, which is below the bound
abbrev pub Continues : Query → List ℕ → List Visit → Type 0
Continues q key [] = key ≡ prefix_of q.attr
Continues q key (before ∷ vs) = (before.leaf.high ≡ Some key) × (below_bound key (bound_of q) ≡ true)

-- leaves of the index, the newest first, meet from the first one on
abbrev pub AreMeeting : Query → List Visit → Type 0
AreMeeting q [] = ⊤
AreMeeting q (v ∷ vs) = Continues q v.key vs × AreMeeting q vs

-- behind the newest leaf of the index no entry of the attribute can be: it has no high key, or one that is not below the bound
abbrev pub EndsPast : Query → List Visit → Type 0
EndsPast q [] = ⊥
EndsPast q (v ∷ vs) = IsPast (bound_of q) v.leaf.high

abbrev pub IsOfStage : Stage → Visit → Type 0
IsOfStage stage v = v.stage ≡ stage

-- the keys that the leaves of the index list, from the first leaf on
abbrev pub listed_of : Query → Own → List Visit → List (List ℕ)
listed_of q own [] = []
listed_of q own (v ∷ vs) = listed_of q own vs ++ keys_in q own v.key v.leaf

-- the records found in leaves, from the first one on
abbrev pub found_of : Query → Own → List Visit → List Pair
found_of q own [] = []
found_of q own (v ∷ vs) = found_of q own vs ++ found_in_leaf q own v.key v.leaf

-- each key is below the next one
abbrev pub BelowFirst : List ℕ → List Pair → Type 0
BelowFirst key [] = ⊤
BelowFirst key (p ∷ ps) = bytes_cmp key p.key ≡ Less

abbrev pub AreAscending : List Pair → Type 0
AreAscending [] = ⊤
AreAscending (p ∷ ps) = BelowFirst p.key ps × AreAscending ps

-- Where a look-up ended at these leaves, the newest first: those of the index meet from the attribute's first entry on and end behind its last one; each
-- record that they list was read in turn, and no other; found are those at which the client sees a value with the attribute, ascending, each key once.
pub record IsFound (q : Query) (own : Own) (vs : List Visit) (pairs : List Pair) : Type 0 where
  pub index : List Visit
  pub records : List Visit
  pub are : vs ≡ records ++ index
  pub of_index : AllByRecursion (IsOfStage Index) index
  pub of_records : AllByRecursion (IsOfStage Records) records
  pub each : AllByRecursion (IsVisit q) vs
  pub meeting : AreMeeting q index
  pub past : EndsPast q index
  pub listed : reverse (map (λ (v : Visit). v.key) records) ≡ listed_of q own index
  pub found : pairs ≡ found_of q own records
  pub ascending : AreAscending pairs
