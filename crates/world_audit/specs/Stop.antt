-- Why the report of a tree stops.
use Rattle.std.specs.Prelude.{ℕ, ◌≡◌, ◌<◌, ◌⊎◌, List, [], ◌∷◌, Option, Some, None, Ok}
use Rattle.std.specs.List.{AllPairs, Contains}
use Rattle.byte_format.specs.Whole.{offset}
use Rattle.db_base.specs.Ids.{IsPage, IsClient}
use Rattle.db_base.specs.declared.names.ObjName.TheVariants as object
use Rattle.db_base.specs.declared.names.Place.{Place}
use Rattle.db_base.specs.declared.names.Place.TheVariants as place
use Rattle.db_base.specs.declared.trouble.Trouble.{Trouble}
use Rattle.db_base.specs.declared.trouble.Trouble.TheVariants.{Failed, Absent, Damaged, BadFence, Loop, Memory}
use Rattle.cloud_trait.specs.State.{CloudState, newest}
use Rattle.head_codec.specs.declared.head.Head.{Head}
use Rattle.head_codec.specs.Spelling.{head_of, head_offset}
use Rattle.leaf_view.specs.Leaf.{Leaf, IsLeaf, leaf}
use Rattle.leaf_view.specs.Lookup.{page_at}
use Rattle.node_codec.specs.Tree.{Tree, IsTree, tree_format}
use Rattle.replay_meaning.specs.Chain.{IsReadAs, Leads}
use Rattle.world_audit.specs.Counts.{IsNextPage}

-- the pages of leaves that lead from a page
abbrev pub pages_of : ℕ → List Leaf → List ℕ
pages_of from [] = []
pages_of from (l ∷ leaves) = from ∷ pages_of l.right leaves

-- the fences of leaves meet: each leaf begins where the one before it ends, from a low key to that of the leaf behind them
abbrev pub Meet : List ℕ → List Leaf → List ℕ → Type 0
Meet low [] behind = low ≡ behind
Meet low (l ∷ leaves) behind = (l.low ≡ low) × (high : List ℕ) × (l.high ≡ Some high) × Meet high leaves behind

-- a walk from page 1 over these pages comes to a page, and expects a low key there: the leaves lead there, their fences
-- meet, and no page is met twice
pub record Comes (s : CloudState) (tree : ℕ) (pages : List ℕ) (page : ℕ) (low : List ℕ) : Type 0 where
  pub leaves : List Leaf
  pub lead : Leads s tree 1 leaves page
  pub over : pages ≡ pages_of 1 leaves
  pub meet : Meet [] leaves low
  pub once : AllPairs (λ (x y : ℕ). x ≡ y → ⊥) pages

-- why a walk over these pages stops at the page that it comes to, by the low key that it expects and the bytes there
abbrev pub StopsWalk : ℕ → List ℕ → ℕ → List ℕ → Option (List ℕ) → Trouble → Type 0
StopsWalk tree pages page low bytes (Absent p) = (p ≡ page) × (page ≡ 1 → ⊥) × (bytes ≡ None)
StopsWalk tree pages page low bytes (Damaged there at) =
    (there ≡ place.Object (object.Page tree page)) × (b : List ℕ) × (bytes ≡ Some b) × (at ≡ offset leaf b) × ((l : Leaf) → IsLeaf b l → ⊥)
StopsWalk tree pages page low bytes (Loop p) = (p ≡ page) × Contains pages page
StopsWalk tree pages page low bytes (BadFence p expected found) =
    (p ≡ page) × (expected ≡ low) × (l : Leaf) × IsReadAs tree page bytes (Ok l) × (found ≡ l.low) × (expected ≡ found → ⊥)
StopsWalk tree pages page low bytes trouble = ⊥

-- the walk along the newest leaves stops at a page
pub record ChainStops (s : CloudState) (tree : ℕ) (trouble : Trouble) : Type 0 where
  pub pages : List ℕ
  pub page : ℕ
  pub low : List ℕ
  pub comes : Comes s tree pages page low
  pub why : StopsWalk tree pages page low (newest s (object.Page tree page)) trouble

-- a version of a head can be read: there is none, or it spells a head
abbrev pub IsHeadOrNone : Option (List ℕ) → Type 0
IsHeadOrNone found = (bytes : List ℕ) → found ≡ Some bytes → (head : Head) × (head_of bytes ≡ Some head)

-- the newest version of a client's head can be read
abbrev pub HeadReads : CloudState → ℕ → Type 0
HeadReads s client = IsHeadOrNone (newest s (object.Head client))

-- so can those of the clients below a number
abbrev pub HeadsRead : CloudState → ℕ → Type 0
HeadsRead s n = (client : ℕ) → IsClient client → client < n → HeadReads s client

-- and those of all clients
abbrev pub AllHeadsRead : CloudState → Type 0
AllHeadsRead s = (client : ℕ) → IsClient client → HeadReads s client

-- a version of a client's head spells none
pub record SpellsNoHead (found : Option (List ℕ)) (client : ℕ) (trouble : Trouble) : Type 0 where
  pub bytes : List ℕ
  pub put : found ≡ Some bytes
  pub none : head_of bytes ≡ None
  pub is : trouble ≡ Damaged (place.Object (object.Head client)) (head_offset bytes)

-- the newest version of a client's head spells none
abbrev pub HeadIsNone : CloudState → ℕ → Trouble → Type 0
HeadIsNone s client trouble = SpellsNoHead (newest s (object.Head client)) client trouble

-- the newest head of a client is none, and he is the first such client
pub record HeadStops (s : CloudState) (trouble : Trouble) : Type 0 where
  pub client : ℕ
  pub is_client : IsClient client
  pub is_none : HeadIsNone s client trouble
  pub earlier : HeadsRead s client

-- a version of the root of a tree spells none
pub record SpellsNoRoot (found : Option (List ℕ)) (tree : ℕ) (trouble : Trouble) : Type 0 where
  pub bytes : List ℕ
  pub put : found ≡ Some bytes
  pub none : (t : Tree) → IsTree bytes t → ⊥
  pub is : trouble ≡ Damaged (place.Object (object.Tree tree)) (offset tree_format bytes)

-- the newest root of the tree is none
abbrev pub RootStops : CloudState → ℕ → Trouble → Type 0
RootStops s tree trouble = SpellsNoRoot (newest s (object.Tree tree)) tree trouble

-- the newest root of the tree can be read, or there is none: it tells the least free page
abbrev pub RootReads : CloudState → ℕ → Type 0
RootReads s tree = (next : ℕ) × IsNextPage (newest s (object.Tree tree)) next

-- the places that a report of a tree looks at: its pages, its root, and heads
abbrev pub IsLookedAt : ℕ → Place → Type 0
IsLookedAt tree (place.Object (object.Page t page)) = t ≡ tree
IsLookedAt tree (place.Object (object.Tree t)) = t ≡ tree
IsLookedAt tree (place.Object (object.Head client)) = Unit {0}
IsLookedAt tree there = ⊥

-- the troubles that may stop a report of a tree, over whatever cloud
abbrev pub MayStop : ℕ → Trouble → Type 0
MayStop tree Failed = Unit {0}
MayStop tree Memory = Unit {0}
MayStop tree (Absent page) = Unit {0}
MayStop tree (Damaged there at) = IsLookedAt tree there
MayStop tree (BadFence page expected found) = Unit {0}
MayStop tree (Loop page) = Unit {0}
MayStop tree trouble = ⊥

-- the walk goes on from a page: its leaf begins at the low key and ends at that of the next page
pub record Passes (bytes : Option (List ℕ)) (tree page : ℕ) (low high : List ℕ) (next : Option ℕ) : Type 0 where
  pub leaf : Leaf
  pub read : IsReadAs tree page bytes (Ok leaf)
  pub begins : leaf.low ≡ low
  pub ends : (to : ℕ) → next ≡ Some to → leaf.high ≡ Some high
  pub right : next ≡ page_at leaf.right

-- the chain of the newest leaves is whole: the walk along them comes to a page that it did not meet and that it passes, and
-- that is the last
pub record ChainIsWhole (s : CloudState) (tree : ℕ) : Type 0 where
  pub pages : List ℕ
  pub page : ℕ
  pub low : List ℕ
  pub high : List ℕ
  pub comes : Comes s tree pages page low
  pub is_page : IsPage page
  pub first : Contains pages page → ⊥
  pub last : Passes (newest s (object.Page tree page)) tree page low high None

-- a look failed, memory ran out, or this is so
abbrev pub SlipOr : Type 0 → Trouble → Type 0
SlipOr reason trouble = (trouble ≡ Failed) ⊎ ((trouble ≡ Memory) ⊎ reason)

-- the first part of a tree that is damaged: the chain of leaves; where that is whole, a head; and where all heads read, the root
abbrev pub FirstDamage : CloudState → ℕ → Trouble → Type 0
FirstDamage s tree trouble =
    ChainStops s tree trouble
    ⊎ ((ChainIsWhole s tree × HeadStops s trouble)
    ⊎ (ChainIsWhole s tree × AllHeadsRead s × RootStops s tree trouble))

-- why a report stopped: a look failed, memory ran out, or a part of the tree is damaged, of which this is the first
abbrev pub Stopped : CloudState → ℕ → Trouble → Type 0
Stopped s tree trouble = SlipOr (FirstDamage s tree trouble) trouble
