-- The walks of a commit, each beside the cache that the one before it left, and what their turns used.
use Rattle.std.specs.Prelude.{◌≡◌, ◌⊎◌, ℕ, Bool, true, false, List, [], ◌∷◌, ◌++◌, slice_get, Option, Some, None}
use Rattle.std.specs.List.{AllByRecursion}
use Rattle.db_base.specs.declared.names.ObjName.{ObjName}
use Rattle.db_base.specs.declared.names.ObjName.TheVariants as object
use Rattle.leaf_view.specs.Leaf.{Leaf}
use Rattle.node_codec.specs.Tree.{Tree}
use Rattle.txn_buffer.specs.Noted.{Noted}
use Rattle.cloud_trait.specs.declared.answer.Answer.TheVariants.{Got}
use Rattle.cloud_trait.specs.Ask.{Get}
use Rattle.cloud_trait.specs.Machine.{Next, Goes, Ends, Stops}
use Rattle.recover_run.specs.declared.home.Home.{Home}
use Rattle.page_cache.specs.Cache.{Cache}
use Rattle.page_cache.specs.Held.{leaf_at, root_at, as_leaf, as_root}
use Rattle.tree_walk.specs.Walk.{Walk, new_walk, walk_ready, walk_next}
use Rattle.tree_walk.specs.Walk.{asks as walk_asks}
use Rattle.commit_writes.specs.Calls.{Calls}
use Rattle.commit_run.specs.Run.{target_of, long_target}

-- ---- what a turn used

-- a tree object, or a leaf of a tree
pub data Use : Type 0 where
  OfTree : (tree : ℕ) (root : Tree) → Use
  OfLeaf : (tree : ℕ) (leaf : Leaf) → Use

abbrev pub use_of_root : ℕ → Option Tree → List Use
use_of_root tree (Some root) = OfTree tree root ∷ []
use_of_root tree None = []

abbrev pub use_of_leaf : ℕ → Option Leaf → List Use
use_of_leaf tree (Some leaf) = OfLeaf tree leaf ∷ []
use_of_leaf tree None = []

-- an object, as the cache keeps it
abbrev pub used_in : Cache → Option ObjName → List Use
used_in c None = []
used_in c (Some (object.Head client)) = []
used_in c (Some (object.Tree tree)) = use_of_root tree (root_at c (object.Tree tree))
used_in c (Some (object.Page tree page)) = use_of_leaf tree (leaf_at c (object.Page tree page))

-- the walk and the cache that a turn left
abbrev pub left_by_turn : Next (Walk × Cache) ℕ → Walk × Cache
left_by_turn (Goes m) = m
left_by_turn (Ends m page) = m
left_by_turn (Stops m t) = m

-- what the turn used
abbrev pub used_by_turn : Next (Walk × Cache) ℕ → List Use
used_by_turn turn = used_in (left_by_turn turn).1 (left_by_turn turn).0.used

-- ---- walks

-- a walk of a commit: its tree and key, whether it gets the tree object anew, its calls, the oldest first, where its newest turn led, and what
-- its turns used, in their order
pub record Trip : Type 0 where
  pub tree : ℕ
  pub key : List ℕ
  pub fresh : Bool
  pub calls : Calls
  pub turn : Next (Walk × Cache) ℕ
  pub uses : List Use

-- from where a turn led these calls were made, each that of the walk as it stood then; the newest turn led here, and all used these
abbrev pub Turns : Next (Walk × Cache) ℕ → Calls → Next (Walk × Cache) ℕ → List Use → Type 0
Turns from [] turn uses = (turn ≡ from) × (uses ≡ used_by_turn from)
Turns from (call ∷ calls) turn uses =
    (m : Walk × Cache) × (later : List Use) × (from ≡ Goes m) × (call.0 ≡ walk_asks m) × (uses ≡ used_by_turn from ++ later) × Turns (walk_next m call.1) calls turn later

-- a walk that began beside a cache
abbrev pub IsTrip : Cache → Trip → Type 0
IsTrip c t = Turns (walk_ready (new_walk t.tree (Some t.key) t.fresh, c)) t.calls t.turn t.uses

-- each walk began beside the cache that the one before it left
abbrev pub AreTrips : Cache → List Trip → Type 0
AreTrips c [] = Unit {0}
AreTrips c (t ∷ trips) = IsTrip c t × AreTrips (left_by_turn t.turn).1 trips

-- the cache behind walks
abbrev pub cache_behind : Cache → List Trip → Cache
cache_behind c [] = c
cache_behind c (t ∷ trips) = cache_behind (left_by_turn t.turn).1 trips

-- the calls of walks
abbrev pub calls_of : List Trip → Calls
calls_of [] = []
calls_of (t ∷ trips) = t.calls ++ calls_of trips

-- what they used
abbrev pub uses_of : List Trip → List Use
uses_of [] = []
uses_of (t ∷ trips) = t.uses ++ uses_of trips

-- ---- of a commit

-- a walk is for a change of the commit; or it gets the tree object anew, and is for the first of more than 256 pending entries
abbrev pub IsAimed : Home → List Noted → Trip → Type 0
IsAimed home changes t =
    ((t.fresh ≡ false) × (place : ℕ) × (n : Noted) × (slice_get changes place ≡ Some n) × (target_of n ≡ (t.tree, t.key)))
    ⊎ ((t.fresh ≡ true) × (long_target home.head.pending ≡ Some (t.tree, t.key)))

-- the cache kept these bytes of an object, or the object as absent; or one of the calls got them
abbrev pub WasRead : Cache → Calls → ObjName → Option (List ℕ) → Type 0
WasRead c calls name bytes =
    ((place : ℕ) × (slice_get c.objects place ≡ Some (name, bytes))) ⊎ ((place : ℕ) × (slice_get calls place ≡ Some (Get name, Got bytes)))

-- what was used is an object of its tree that was read so
abbrev pub IsRead : Cache → Calls → Use → Type 0
IsRead c calls (OfTree tree root) = (bytes : Option (List ℕ)) × (as_root (Some bytes) ≡ Some root) × WasRead c calls (object.Tree tree) bytes
IsRead c calls (OfLeaf tree leaf) = (page : ℕ) × (bytes : Option (List ℕ)) × (as_leaf (Some bytes) ≡ Some leaf) × WasRead c calls (object.Page tree page) bytes

-- the calls of a commit beside a cache are those of its walks, and what these used was kept at its begin or got by one of the calls
pub record AreWalks (home : Home) (changes : List Noted) (c : Cache) (trips : List Trip) (calls : Calls) : Type 0 where
  pub each : AreTrips c trips
  pub aimed : AllByRecursion (IsAimed home changes) trips
  pub are : calls ≡ calls_of trips
  pub reads : AllByRecursion (IsRead c calls) (uses_of trips)
