-- Why a scan stops: the answer to its get shows it, or the leaves that the cache keeps and the links between them do.
use Rattle.std.specs.Prelude.{ℕ, ◌≡◌, ◌≢◌, ◌==◌, ◌⊎◌, true, false, List, Option, Some, None, Ok}
use Rattle.byte_format.specs.Order.{bytes_same, below_bound}
use Rattle.db_base.specs.declared.names.ObjName.TheVariants as object
use Rattle.db_base.specs.declared.trouble.Trouble.{Trouble}
use Rattle.db_base.specs.declared.trouble.Trouble.TheVariants as trouble
use Rattle.leaf_view.specs.Leaf.{Leaf}
use Rattle.leaf_view.specs.Lookup.{page_at}
use Rattle.cloud_trait.specs.declared.answer.Answer.{Answer}
use Rattle.cloud_trait.specs.declared.answer.Answer.TheVariants as answer
use Rattle.cloud_trait.specs.declared.turn.Turn.{Turn}
use Rattle.cloud_trait.specs.declared.turn.Turn.TheVariants.{Stopped}
use Rattle.cloud_trait.specs.Caller.{Caller}
use Rattle.cloud_trait.specs.Machine.{Deed}
use Rattle.cloud_trait.specs.Seen.{Seen}
use Rattle.page_cache.specs.Cache.{Cache, accepts}
use Rattle.page_cache.specs.Held.{leaf_at}
use Rattle.page_cache.specs.Refused.{IsDamaged}
use Rattle.tree_walk.specs.Walk.{Spot, sought, right_of}
use Rattle.tree_walk.specs.Causes.{FailsSo, IsOld, AnswerShows, Brings, LinkShows, Meets, IsStopped}
use Rattle.tree_walk.specs.Causes.{Shows as WalkShows}
use Rattle.range_scan.specs.Scan.{Scan, scan_object, scan_asks, scan_came_to, right_behind}

-- the answer to the get of a right page is too old, or in no spelling of a leaf
abbrev pub RefusesSo : Scan × Cache → Answer → Trouble → Type 0
RefusesSo m a t = (got : Option (List ℕ)) × (a ≡ answer.Got got) × (IsOld m.1 (scan_object m.0) true got t ⊎ IsDamaged (scan_object m.0) true got t)

-- the leaf that the answer brings has another low key than the high key that led to it
pub record BreaksFence (m : Scan × Cache) (a : Answer) (spot : Spot) (t : Trouble) : Type 0 where
  pub got : Option (List ℕ)
  pub version : ℕ
  pub cache : Cache
  pub leaf : Leaf
  pub answered : a ≡ answer.Got got
  pub accepted : accepts m.1 (scan_object m.0) true got ≡ Ok (version, cache)
  pub kept : leaf_at cache (scan_object m.0) ≡ Some leaf
  pub differs : bytes_same leaf.low spot.low ≡ false
  pub is : t ≡ trouble.BadFence spot.page spot.low leaf.low

-- the leaf at which the scan is leads on, below the key at which the scan stops, to a page that the scan had come to
pub record ClosesLoop (n : Scan × Cache) (t : Trouble) : Type 0 where
  pub leaf : Leaf
  pub next : Spot
  pub kept : leaf_at n.1 (scan_object n.0) ≡ Some leaf
  pub linked : right_behind leaf.high (page_at leaf.right) ≡ Some next
  pub wanted : below_bound next.low n.0.to ≡ true
  pub came : scan_came_to n.0 next.page ≡ true
  pub is : t ≡ trouble.Loop next.page

-- what a step shows of the trouble with which it stops: in its walk what the walk's step does, at a right page its answer, its fence, or
-- its link; and the link of the first leaf
abbrev pub ShowsAt : Option Spot → Scan × Cache → Answer → Scan × Cache → Trouble → Type 0
ShowsAt None m a n t = WalkShows (m.0.walk, m.1) a n.0.walk t ⊎ ClosesLoop n t
ShowsAt (Some spot) m a n t = FailsSo a t ⊎ (RefusesSo m a t ⊎ (BreaksFence m a spot t ⊎ ClosesLoop n t))

abbrev pub Shows : Scan × Cache → Answer → Scan × Cache → Trouble → Type 0
Shows m a n t = ShowsAt m.0.spot m a n t

-- the call of a step
abbrev pub deed_of : Caller → Scan × Cache → Answer → Seen → Seen → Deed
deed_of who old answer before after = record { who = who; ask = scan_asks old; answer = answer; before = before; after = after }

-- a step that stops, but for want of memory, shows its trouble by what its call answered
abbrev pub Causes : Scan × Cache → Answer → Scan × Cache → Turn ℕ → Type 0
Causes old a new turn = (t : Trouble) → turn ≡ Stopped t → t ≢ trouble.Memory → Shows old a new t

-- the local work before the first call, but for want of memory, shows its trouble by the objects that the cache keeps and their links
abbrev pub CausesReady : Scan × Cache → Scan × Cache → Turn ℕ → Type 0
CausesReady m n turn = (t : Trouble) → turn ≡ Stopped t → t ≢ trouble.Memory → LinkShows m.1 m.0.walk n.0.walk t

-- ---- and the converse

-- the leaf that the answer brings to its walk is the one at which the walk ends, and leads on, below the key at which the scan stops, to a
-- page that the scan had come to
pub record FirstLeadsBack (m : Scan × Cache) (a : Answer) (t : Trouble) : Type 0 where
  pub cache : Cache
  pub spot : Spot
  pub leaf : Leaf
  pub next : Spot
  pub brings : Brings (m.0.walk, m.1) a cache
  pub in_hand : m.0.walk.spot ≡ Some spot
  pub bottom : (spot.level == 0) ≡ true
  pub kept : leaf_at cache (object.Page m.0.walk.tree spot.page) ≡ Some leaf
  pub same : bytes_same leaf.low spot.low ≡ true
  pub ends : right_of (sought m.0.walk) leaf.high (page_at leaf.right) ≡ None
  pub linked : right_behind leaf.high (page_at leaf.right) ≡ Some next
  pub wanted : below_bound next.low m.0.to ≡ true
  pub came : scan_came_to m.0 next.page ≡ true
  pub is : t ≡ trouble.Loop next.page

-- .. and so does the leaf that it brings of a right page, which begins as promised
pub record LeadsBack (m : Scan × Cache) (a : Answer) (spot : Spot) (t : Trouble) : Type 0 where
  pub got : Option (List ℕ)
  pub version : ℕ
  pub cache : Cache
  pub leaf : Leaf
  pub next : Spot
  pub answered : a ≡ answer.Got got
  pub accepted : accepts m.1 (scan_object m.0) true got ≡ Ok (version, cache)
  pub kept : leaf_at cache (scan_object m.0) ≡ Some leaf
  pub same : bytes_same leaf.low spot.low ≡ true
  pub linked : right_behind leaf.high (page_at leaf.right) ≡ Some next
  pub wanted : below_bound next.low m.0.to ≡ true
  pub came : scan_came_to m.0 next.page ≡ true
  pub is : t ≡ trouble.Loop next.page

-- while the walk is in hand: where the answer shows a trouble, or the objects on its way that the cache keeps with the one that it brings do, or
-- the link of the first leaf
pub record IsExactWalk (m : Scan × Cache) (a : Answer) (turn : Turn ℕ) : Type 0 where
  pub answered : (t : Trouble) → AnswerShows (m.0.walk, m.1) a t → IsStopped turn t
  pub met : (c : Cache) (t : Trouble) → Brings (m.0.walk, m.1) a c → Meets c m.0.walk t → IsStopped turn t
  pub led_back : (t : Trouble) → FirstLeadsBack m a t → IsStopped turn t

-- at a right page: where the answer shows a trouble, or the low key of the leaf that it brings, or that leaf's link
pub record IsExactRight (m : Scan × Cache) (a : Answer) (spot : Spot) (turn : Turn ℕ) : Type 0 where
  pub failed : (t : Trouble) → FailsSo a t → IsStopped turn t
  pub refused : (t : Trouble) → RefusesSo m a t → IsStopped turn t
  pub broken : (t : Trouble) → BreaksFence m a spot t → IsStopped turn t
  pub led_back : (t : Trouble) → LeadsBack m a spot t → IsStopped turn t

-- where the answer, or the object that was in hand and is kept now, shows a trouble, the step stops with it, if not for want of memory
pub record Exact (old : Scan × Cache) (a : Answer) (turn : Turn ℕ) : Type 0 where
  pub walked : old.0.spot ≡ None → IsExactWalk old a turn
  pub right : (spot : Spot) → old.0.spot ≡ Some spot → IsExactRight old a spot turn
