-- Why a walk stops: the answer to its get shows it, or the objects that the cache keeps and the links between them do.
use Rattle.std.specs.Prelude.{ℕ, ◌≡◌, ◌≢◌, ◌<◌, ◌==◌, ◌-◌, ◌⊎◌, ◌++◌, Bool, true, false, List, [], ◌∷◌, Option, Some, None, Ok}
use Rattle.byte_format.specs.Order.{bytes_same}
use Rattle.db_base.specs.declared.names.ObjName.{ObjName}
use Rattle.db_base.specs.declared.names.ObjName.TheVariants as object
use Rattle.db_base.specs.declared.names.Place.TheVariants as place
use Rattle.db_base.specs.declared.trouble.Trouble.{Trouble}
use Rattle.db_base.specs.declared.trouble.Trouble.TheVariants as trouble
use Rattle.leaf_view.specs.Leaf.{Leaf}
use Rattle.leaf_view.specs.Lookup.{page_at}
use Rattle.node_codec.specs.Node.{Entry}
use Rattle.node_codec.specs.Node.{page_at as node_at}
use Rattle.node_codec.specs.Inner.{Inner}
use Rattle.node_codec.specs.Tree.{Tree}
use Rattle.cloud_trait.specs.declared.answer.Answer.{Answer}
use Rattle.cloud_trait.specs.declared.answer.Answer.TheVariants as call
use Rattle.cloud_trait.specs.declared.turn.Turn.{Turn}
use Rattle.cloud_trait.specs.declared.turn.Turn.TheVariants.{Stopped}
use Rattle.page_cache.specs.Cache.{Cache, accepts, served_at}
use Rattle.page_cache.specs.Held.{leaf_at, inner_at, root_at}
use Rattle.page_cache.specs.Refused.{IsDamaged, least_of}
use Rattle.page_cache.specs.Spelled.{version_read}
use Rattle.tree_walk.specs.Walk.{Spot, Walk, sought, object_of, is_leaf, is_among, came_to, entry_for, right_of}

-- ---- links

-- a page that an entry leads down to, from a level
abbrev pub below : ℕ → Entry → Spot
below level e = record { page = e.1; level = level - 1; low = e.0 }

-- a page to the right, on its level
abbrev pub aside : ℕ → ℕ × List ℕ → Spot
aside level next = record { page = next.0; level = level; low = next.1 }

-- where an inner node leads a key: to the right, where the key is not below its high key, else down
abbrev pub node_link_by : List ℕ → Inner → Option (ℕ × List ℕ) → Spot
node_link_by key n (Some next) = aside n.level next
node_link_by key n None = below n.level (entry_for key n.entries)

abbrev pub node_link : List ℕ → Inner → Spot
node_link key n = node_link_by key n (right_of key n.high (node_at n.right))

-- the tree object that the cache keeps leads the walk's key to this page
abbrev pub LinkedByRoot : Cache → Walk → Spot → Type 0
LinkedByRoot c w s = (t : Tree) × (root_at c (object.Tree w.tree) ≡ Some t) × (s ≡ below t.level (entry_for (sought w) t.entries))

-- .. or an inner node that it keeps does, which the walk passed
abbrev pub LinkedByNode : Cache → Walk → Spot → Type 0
LinkedByNode c w s =
    (page : ℕ) × (n : Inner) × (is_among w.nodes page ≡ true) × (inner_at c (object.Page w.tree page) ≡ Some n) × (s ≡ node_link (sought w) n)

-- .. or a leaf does, which the walk passed: it leads to the right alone
abbrev pub LinkedByLeaf : Cache → Walk → Spot → Type 0
LinkedByLeaf c w s =
    (page : ℕ) × (l : Leaf) × (next : ℕ × List ℕ) × (is_among w.leaves page ≡ true) × (leaf_at c (object.Page w.tree page) ≡ Some l)
    × (right_of (sought w) l.high (page_at l.right) ≡ Some next) × (s ≡ aside 0 next)

abbrev pub IsLinked : Cache → Walk → Spot → Type 0
IsLinked c w s = LinkedByRoot c w s ⊎ (LinkedByNode c w s ⊎ LinkedByLeaf c w s)

-- how the page in hand was come to: the walk had it in hand before, or an object that the cache keeps links to it
abbrev pub WasLed : Cache → Walk → Walk → Spot → Type 0
WasLed c old w s = (old.spot ≡ Some s) ⊎ IsLinked c w s

-- ---- what the objects show

-- the page is an inner node of another level than its link promised; the offset is that of the level
pub record BreaksLevel (c : Cache) (tree : ℕ) (s : Spot) (t : Trouble) : Type 0 where
  pub node : Inner
  pub above : (s.level == 0) ≡ false
  pub kept : inner_at c (object.Page tree s.page) ≡ Some node
  pub differs : (node.level == s.level) ≡ false
  pub is : t ≡ trouble.Damaged (place.Object (object.Page tree s.page)) 10

-- the low key of a page that is of the level that its link promised
abbrev pub HasLow : Cache → ℕ → Spot → List ℕ → Type 0
HasLow c tree s low =
    ((l : Leaf) × ((s.level == 0) ≡ true) × (leaf_at c (object.Page tree s.page) ≡ Some l) × (low ≡ l.low))
    ⊎ ((n : Inner) × ((s.level == 0) ≡ false) × (inner_at c (object.Page tree s.page) ≡ Some n) × ((n.level == s.level) ≡ true) × (low ≡ n.low))

-- the page has another low key than its link promised
pub record BreaksFence (c : Cache) (tree : ℕ) (s : Spot) (t : Trouble) : Type 0 where
  pub found : List ℕ
  pub has : HasLow c tree s found
  pub differs : bytes_same found s.low ≡ false
  pub is : t ≡ trouble.BadFence s.page s.low found

-- a link leads to a page that the walk had come to
pub record ClosesLoop (c : Cache) (w : Walk) (t : Trouble) : Type 0 where
  pub spot : Spot
  pub linked : IsLinked c w spot
  pub came : came_to w spot.page ≡ true
  pub is : t ≡ trouble.Loop spot.page

-- the page in hand is not what its link promised
abbrev pub BreaksPromise : Cache → Walk → Walk → Trouble → Type 0
BreaksPromise c old w t = (s : Spot) × (w.spot ≡ Some s) × WasLed c old w s × (BreaksLevel c w.tree s t ⊎ BreaksFence c w.tree s t)

-- what the objects that the cache keeps show, from the walk that had one in hand to the walk that stops
abbrev pub LinkShows : Cache → Walk → Walk → Trouble → Type 0
LinkShows c old w t = BreaksPromise c old w t ⊎ ClosesLoop c w t

-- ---- what the answer shows

-- the version of what a get answered, 0 where it is absent
abbrev pub IsVersionOf : ObjName → Bool → Option (List ℕ) → ℕ → Type 0
IsVersionOf name as_leaf None found = found ≡ 0
IsVersionOf name as_leaf (Some bytes) found = version_read name as_leaf bytes ≡ Ok found

-- the page that a get answered is absent, or a leaf of a version below the greatest one served; page 1 is absent at first
pub record IsOld (c : Cache) (name : ObjName) (as_leaf : Bool) (got : Option (List ℕ)) (t : Trouble) : Type 0 where
  pub tree : ℕ
  pub page : ℕ
  pub found : ℕ
  pub of : name ≡ object.Page tree page
  pub version : IsVersionOf name as_leaf got found
  pub older : (got ≡ None) ⊎ ((as_leaf ≡ true) × (found < served_at c name))
  pub missed : as_leaf ≡ true → page ≡ 1 → got ≡ None → 0 < served_at c name
  pub is : t ≡ trouble.Stale page (least_of c name as_leaf) found

-- the get failed
abbrev pub FailsSo : Answer → Trouble → Type 0
FailsSo a t = (t ≡ trouble.Failed) × (a ≡ call.Failed)

-- what it answered is too old, or in no spelling of its kind
abbrev pub RefusesSo : Walk × Cache → Answer → Trouble → Type 0
RefusesSo m a t = (got : Option (List ℕ)) × (a ≡ call.Got got) × (IsOld m.1 (object_of m.0) (is_leaf m.0) got t ⊎ IsDamaged (object_of m.0) (is_leaf m.0) got t)

abbrev pub AnswerShows : Walk × Cache → Answer → Trouble → Type 0
AnswerShows m a t = FailsSo a t ⊎ RefusesSo m a t

-- the cache with what the get answered, where it accepts that
abbrev pub Brings : Walk × Cache → Answer → Cache → Type 0
Brings m a c = (got : Option (List ℕ)) × (version : ℕ) × (a ≡ call.Got got) × (accepts m.1 (object_of m.0) (is_leaf m.0) got ≡ Ok (version, c))

-- what a step shows of the trouble with which it stops
abbrev pub Shows : Walk × Cache → Answer → Walk → Trouble → Type 0
Shows m a w t = AnswerShows m a t ⊎ ((c : Cache) × Brings m a c × LinkShows c m.0 w t)

-- a step that stops, but for want of memory, shows its trouble by what its call answered
abbrev pub Causes : Walk × Cache → Answer → Walk → Turn ℕ → Type 0
Causes old a new turn = (t : Trouble) → turn ≡ Stopped t → t ≢ trouble.Memory → Shows old a new t

-- .. and so does the local work before the first call, by the objects that the cache keeps alone
abbrev pub CausesReady : Walk × Cache → Walk → Turn ℕ → Type 0
CausesReady m w turn = (t : Trouble) → turn ≡ Stopped t → t ≢ trouble.Memory → LinkShows m.1 m.0 w t

-- ---- and the converse

-- the step stopped so, if not for want of memory
abbrev pub IsStopped : Turn ℕ → Trouble → Type 0
IsStopped turn t = (turn ≡ Stopped t) ⊎ (turn ≡ Stopped trouble.Memory)

-- the object in hand, which the cache keeps and which is as its link promised, leads the walk's key to a page
abbrev pub LeadsTo : Cache → Walk → Option Spot → Spot → Type 0
LeadsTo c w None to = (t : Tree) × (root_at c (object.Tree w.tree) ≡ Some t) × (to ≡ below t.level (entry_for (sought w) t.entries))
LeadsTo c w (Some s) to =
    ((n : Inner) × ((s.level == 0) ≡ false) × (inner_at c (object.Page w.tree s.page) ≡ Some n) × ((n.level == s.level) ≡ true)
    × (bytes_same n.low s.low ≡ true) × (to ≡ node_link (sought w) n))
    ⊎ ((l : Leaf) × (next : ℕ × List ℕ) × ((s.level == 0) ≡ true) × (leaf_at c (object.Page w.tree s.page) ≡ Some l) × (bytes_same l.low s.low ≡ true)
    × (right_of (sought w) l.high (page_at l.right) ≡ Some next) × (to ≡ aside 0 next))

-- the pages that a walk passed, with the one in hand
abbrev pub passed_with : List ℕ → Option Spot → List ℕ
passed_with pages None = pages
passed_with pages (Some s) = pages ++ s.page ∷ []

-- the walk at the page to which the object in hand leads
abbrev pub led_on : Walk → Spot → Walk
led_on w to = record w { spot = Some to; nodes = passed_with w.nodes w.spot }

-- The objects that the cache keeps show a trouble on the walk's way: the page in hand is not what its link promised, or its link leads back to a
-- page that the walk had come to; or it leads on to an inner node, which is passed without a call, and the trouble is met there or further on.
pub data Meets (c : Cache) : Walk → Trouble → Type 0 where
  breaks : (w : Walk) (s : Spot) (t : Trouble) → w.spot ≡ Some s → BreaksLevel c w.tree s t ⊎ BreaksFence c w.tree s t → Meets c w t
  leads_back : (w : Walk) (to : Spot) → LeadsTo c w w.spot to → came_to w to.page ≡ true → Meets c w (trouble.Loop to.page)
  beyond : (w : Walk) (to : Spot) (t : Trouble) → LeadsTo c w w.spot to → came_to w to.page ≡ false → (to.level == 0) ≡ false → Meets c (led_on w to) t → Meets c w t

-- where the answer shows a trouble, or the objects that the cache keeps with what it brought, the step stops with that
pub record Exact (old : Walk × Cache) (a : Answer) (turn : Turn ℕ) : Type 0 where
  pub failed : a ≡ call.Failed → turn ≡ Stopped trouble.Failed
  pub answered : (t : Trouble) → AnswerShows old a t → IsStopped turn t
  pub met : (c : Cache) (t : Trouble) → Brings old a c → Meets c old.0 t → IsStopped turn t
