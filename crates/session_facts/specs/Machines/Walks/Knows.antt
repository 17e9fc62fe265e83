-- What a walk beside a cache knows of a cloud, and where its turns lead.
use Rattle.std.specs.Prelude.{ℕ, ◌≡◌, true, List, [], Option, Some, None}
use Rattle.cloud_facts.specs.Meanings.Meets.{IsAt, IsPassed}
use Rattle.cloud_facts.specs.Words.{IsTree, Trouble, ObjName, Leaf, Next, Goes, Ends, Stops, Book, Link, Store, IsIn}
use Rattle.db_base.specs.declared.names.ObjName.TheVariants as object
use Rattle.db_base.specs.declared.trouble.Trouble.TheVariants as trouble
use Rattle.leaf_view.specs.Lookup.{holds}
use Rattle.page_cache.specs.Cache.{Cache}
use Rattle.page_cache.specs.Held.{leaf_at}
use Rattle.cloud_facts.specs.Book.Premises.{IsLeafAtMost}
use Rattle.tree_walk.specs.Walk.{Spot, Walk, is_among, object_of, sought}
use Rattle.session_facts.specs.Machines.Walks.Caches.{KnowsCache, IsSeenLeaf}

-- ---- the object in hand

-- pages are behind a walk that is at a low key of a level
abbrev pub AreBehind : (ℕ → List Link) → Spot → List ℕ → Type 0
AreBehind chain s pages = (page : ℕ) → is_among pages page ≡ true → IsPassed chain s.level s.low page

-- the page in hand is that of a link of the promised level and low key, which is not above the key sought; all that was passed is behind it
pub record IsOnWay (chain : ℕ → List Link) (key : List ℕ) (nodes leaves : List ℕ) (s : Spot) : Type 0 where
  pub at : IsAt chain s.level s.page s.low key
  pub nodes_behind : AreBehind chain s nodes
  pub leaves_behind : AreBehind chain s leaves

-- a walk with the tree object in hand has passed no page
abbrev pub WalkStandsAt : (ℕ → List Link) → List ℕ → List ℕ → List ℕ → Option Spot → Type 0
WalkStandsAt chain key nodes leaves None = (nodes ≡ []) × (leaves ≡ [])
WalkStandsAt chain key nodes leaves (Some s) = IsOnWay chain key nodes leaves s

-- ---- what was used

-- a turn used the tree object, or a leaf of the leaf chain whose low key is not above the key
abbrev pub WasUsed : Book → ℕ → List ℕ → Option ObjName → Type 0
WasUsed book tree key None = Unit {0}
WasUsed book tree key (Some (object.Head client)) = ⊥
WasUsed book tree key (Some (object.Tree t)) = t ≡ tree
WasUsed book tree key (Some (object.Page t page)) = (t ≡ tree) × IsLeafAtMost book tree page key

-- ---- the whole

-- without a key a walk is one for the empty key: it stays at the first link of each level
pub record KnowsWalk (st : Store) (w : Walk) : Type 0 where
  pub tree : IsTree w.tree
  pub stands : WalkStandsAt (st.book.chain w.tree) (sought w) w.nodes w.leaves w.spot
  pub used : WasUsed st.book w.tree (sought w) w.used

-- a walk beside a cache
pub record KnowsWalking (st : Store) (w : Walk) (c : Cache) : Type 0 where
  pub walk : KnowsWalk st w
  pub cache : KnowsCache st c

-- the walk is at a leaf of the leaf chain that holds the key, and the cache keeps it as it landed
pub record IsAtSeenLeaf (st : Store) (w : Walk) (c : Cache) (page : ℕ) : Type 0 where
  pub leaf : Leaf
  pub in_hand : object_of w ≡ object.Page w.tree page
  pub kept : leaf_at c (object.Page w.tree page) ≡ Some leaf
  pub linked : IsIn (st.book.chain w.tree 0) (record { low = leaf.low; page = page })
  pub seen : IsSeenLeaf (st.tally.nodes w.tree page) page leaf
  pub holds : holds leaf (sought w) ≡ true

-- a walk stops where a get was stale or failed, or where memory ran out
abbrev pub MayStopWalk : Trouble → Type 0
MayStopWalk (trouble.Stale page least found) = Unit {0}
MayStopWalk trouble.Failed = Unit {0}
MayStopWalk trouble.Memory = Unit {0}
MayStopWalk t = ⊥

-- what is known where a turn leads
abbrev pub WalkLeads : Store → (Trouble → Type 0) → Next (Walk × Cache) ℕ → Type 0
WalkLeads st May (Goes m) = KnowsWalking st m.0 m.1
WalkLeads st May (Ends m page) = KnowsWalking st m.0 m.1 × IsAtSeenLeaf st m.0 m.1 page
WalkLeads st May (Stops m t) = KnowsWalking st m.0 m.1 × May t
