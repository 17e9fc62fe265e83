-- A walk down a tree as a machine beside the cache: what it knows, what it asks, and where each answer leads.
use Rattle.std.specs.Prelude.{ℕ, zero, suc, ◌≡◌, ◌≤◌, ◌+◌, ◌-◌, ◌^◌, ◌==◌, ◌||◌, Bool, true, false, List, [], ◌∷◌, ◌++◌, length, map, fold, Option, Some, None, Result, Ok, Err, if◌then◌else◌, unwrap_or}
use Rattle.std.specs.List.{list_any}
use Rattle.std.specs.Option.{option_map}
use Rattle.byte_format.specs.Order.{bytes_below, bytes_same}
use Rattle.db_base.specs.declared.names.ObjName.{ObjName}
use Rattle.db_base.specs.declared.names.ObjName.TheVariants as object
use Rattle.db_base.specs.declared.names.Place.TheVariants as place
use Rattle.db_base.specs.declared.trouble.Trouble.{Trouble}
use Rattle.db_base.specs.declared.trouble.Trouble.TheVariants as trouble
use Rattle.leaf_view.specs.Leaf.{Leaf}
use Rattle.leaf_view.specs.Lookup.{page_at, holds}
use Rattle.node_codec.specs.Node.{Entry, child_of}
use Rattle.node_codec.specs.Node.{page_at as node_at}
use Rattle.node_codec.specs.Inner.{Inner}
use Rattle.node_codec.specs.Tree.{Tree}
use Rattle.cloud_trait.specs.declared.answer.Answer.{Answer}
use Rattle.cloud_trait.specs.Ask.{Ask, Get}
use Rattle.cloud_trait.specs.Machine.{Next, Goes, Ends, Stops, Machine, machine_by, LeadsBy}
use Rattle.cloud_trait.specs.Views.{got_of}
use Rattle.page_cache.specs.Cache.{Cache, accepts, dropped, served_at, most_kept}
use Rattle.page_cache.specs.Held.{leaf_at, inner_at, root_at}

-- a page that a link led to: its level, 0 for a leaf, and the low key that the link promised
pub record Spot : Type 0 where
  pub page : ℕ
  pub level : ℕ
  pub low : List ℕ

-- a walk: in hand it has the tree object, or the page of its spot. It keeps the inner nodes and the leaves that it passed,
-- whether it followed a right link, and the tree object or leaf that its newest turn used
pub record Walk : Type 0 where
  pub tree : ℕ
  pub key : Option (List ℕ)
  pub fresh : Bool
  pub spot : Option Spot
  pub nodes : List ℕ
  pub leaves : List ℕ
  pub turned : Bool
  pub used : Option ObjName

-- a walk before its first turn
abbrev pub new_walk : ℕ → Option (List ℕ) → Bool → Walk
new_walk tree key fresh =
    record { tree = tree; key = key; fresh = fresh; spot = None; nodes = []; leaves = []; turned = false; used = None }

-- the key that leads; without one it is the empty key, which leads down by first entries, and never to the right
abbrev pub sought : Walk → List ℕ
sought w = unwrap_or w.key []

-- the low key that a link promised is not above the key that leads
abbrev pub IsPromised : List ℕ → Option Spot → Type 0
IsPromised key None = Unit {0}
IsPromised key (Some s) = bytes_below key s.low ≡ false

-- whether a page is among others
abbrev pub is_among : List ℕ → ℕ → Bool
is_among pages page = list_any (λ p. p == page) pages

-- a leaf in hand is none of the inner nodes
abbrev pub IsApart : List ℕ → Option Spot → Type 0
IsApart nodes None = Unit {0}
IsApart nodes (Some s) = s.level ≡ 0 → is_among nodes s.page ≡ false

-- what holds of every walk
pub record IsWalk (w : Walk) : Type 0 where
  pub promised : IsPromised (sought w) w.spot
  pub apart : IsApart w.nodes w.spot

-- ---- what is in hand

abbrev pub object_at : ℕ → Option Spot → ObjName
object_at tree None = object.Tree tree
object_at tree (Some s) = object.Page tree s.page

abbrev pub object_of : Walk → ObjName
object_of w = object_at w.tree w.spot

-- the call in hand: a get of the object in hand
abbrev pub walk_ask : Walk → Ask
walk_ask w = Get (object_of w)

-- the page in hand, where it is no tree object
abbrev pub spot_of : Walk → Spot
spot_of w = unwrap_or w.spot (record { page = 1; level = 0; low = [] })

-- the same beside the cache
abbrev pub asks : Walk × Cache → Ask
asks m = walk_ask m.0

abbrev pub is_leaf_at : Option Spot → Bool
is_leaf_at None = false
is_leaf_at (Some s) = s.level == 0

-- whether the object in hand is a leaf
abbrev pub is_leaf : Walk → Bool
is_leaf w = is_leaf_at w.spot

abbrev pub is_got_at : Bool → Option Spot → Bool
is_got_at fresh None = fresh
is_got_at fresh (Some s) = s.level == 0

-- whether the object in hand is got also where the cache keeps it: a leaf, and the tree object of a fresh walk
abbrev pub is_got : Walk → Bool
is_got w = is_got_at w.fresh w.spot

-- ---- which pages it has come to

abbrev pub is_page : ℕ → Option Spot → Bool
is_page page None = false
is_page page (Some s) = s.page == page

-- whether the walk has come to the page: it has it in hand, or passed it
abbrev pub came_to : Walk → ℕ → Bool
came_to w page = is_page page w.spot || (is_among w.nodes page || is_among w.leaves page)

abbrev pub use_of : Walk → Walk
use_of w = record w { used = Some (object_of w) }

-- ---- links

-- a link leads to a page; one that the walk has come to before is a loop
abbrev pub linked : Walk → Spot → Next Walk ℕ
linked w s = if came_to w s.page then Stops w (trouble.Loop s.page) else Goes (record w { spot = Some s })

-- the page to the right and its low key, where the key is not below the high key; with a high key there is a right page
abbrev pub right_of : List ℕ → Option (List ℕ) → Option ℕ → Option (ℕ × List ℕ)
right_of key None page = None
right_of key (Some high) page = if bytes_below key high then None else Some (unwrap_or page 1, high)

-- to the right, on the same level
abbrev pub right_to : Walk → ℕ → ℕ × List ℕ → Next Walk ℕ
right_to w level next = linked (record w { turned = true }) (record { page = next.0; level = level; low = next.1 })

-- the entry that leads down: the greatest one at most the key, which is always there
abbrev pub entry_for : List ℕ → List Entry → Entry
entry_for key entries = unwrap_or (child_of key entries) ([], 1)

-- down from a level, by an entry
abbrev pub down_to : Walk → ℕ → Entry → Next Walk ℕ
down_to w level e = linked w (record { page = e.1; level = level - 1; low = e.0 })

-- ---- where an object leads

-- the page in hand has a low key that differs from what led to it
abbrev pub bad_fence : Walk → List ℕ → Trouble
bad_fence w found = trouble.BadFence (spot_of w).page (spot_of w).low found

-- the page in hand is an inner node of another level than its link promised; the offset is that of the level
abbrev pub bad_level : Walk → Trouble
bad_level w = trouble.Damaged (place.Object (object.Page w.tree (spot_of w).page)) 10

-- from the tree object: down
abbrev pub root_read : Walk → Tree → Next Walk ℕ
root_read w t = down_to (use_of w) t.level (entry_for (sought w) t.entries)

-- from an inner node: to the right as the key demands, else down
abbrev pub node_left : Walk → Inner → Option (ℕ × List ℕ) → Next Walk ℕ
node_left w n (Some next) = right_to w (spot_of w).level next
node_left w n None = down_to w (spot_of w).level (entry_for (sought w) n.entries)

abbrev pub node_passed : Walk → Walk
node_passed w = record w { nodes = w.nodes ++ (spot_of w).page ∷ [] }

-- first its level is checked, then its low key
abbrev pub node_read : Walk → Inner → Next Walk ℕ
node_read w n =
    if n.level == (spot_of w).level
    then (if bytes_same n.low (spot_of w).low then node_left (node_passed w) n (right_of (sought w) n.high (node_at n.right)) else Stops w (bad_fence w n.low))
    else Stops w (bad_level w)

abbrev pub leaf_passed : Walk → Walk
leaf_passed w = record w { leaves = w.leaves ++ (spot_of w).page ∷ [] }

-- from a leaf: to the right as the key demands, else the walk ends
abbrev pub leaf_left : Walk → Option (ℕ × List ℕ) → Next Walk ℕ
leaf_left w (Some next) = right_to (leaf_passed w) (spot_of w).level next
leaf_left w None = Ends w (spot_of w).page

abbrev pub leaf_read : Walk → Leaf → Next Walk ℕ
leaf_read w l =
    if bytes_same l.low (spot_of w).low then leaf_left (use_of w) (right_of (sought w) l.high (page_at l.right)) else Stops w (bad_fence w l.low)

-- where the object in hand leads, if the cache keeps it
abbrev pub read_at : Walk → Cache → Option Spot → Option (Next Walk ℕ)
read_at w c None = option_map (root_read w) (root_at c (object.Tree w.tree))
read_at w c (Some s) =
    if s.level == 0 then option_map (leaf_read w) (leaf_at c (object.Page w.tree s.page)) else option_map (node_read w) (inner_at c (object.Page w.tree s.page))

abbrev pub read_from : Walk → Cache → Option (Next Walk ℕ)
read_from w c = read_at w c w.spot

-- ---- up to the next call

-- where the object in hand leads without a call
abbrev pub read_kept : Walk → Cache → Option (Next Walk ℕ)
read_kept w c = if is_got w then None else read_from w c

-- a walk that goes on does so by `on`
abbrev pub follow : (Walk → Next Walk ℕ) → Next Walk ℕ → Next Walk ℕ
follow on (Goes w) = on w
follow on (Ends w page) = Ends w page
follow on (Stops w t) = Stops w t

-- from what was read; what was not read is got next
abbrev pub onward : (Walk → Next Walk ℕ) → Walk → Option (Next Walk ℕ) → Next Walk ℕ
onward on w None = Goes w
onward on w (Some next) = follow on next

-- through so many kept objects at most
unfoldable pub goes_through : Cache → ℕ → Walk → Next Walk ℕ
goes_through c zero w = Goes w
goes_through c (suc n) w = onward (goes_through c n) w (read_kept w c)

-- through all that the cache keeps on the way: they are few, and a walk passes none twice
abbrev pub goes_on : Cache → Walk → Next Walk ℕ
goes_on c w = goes_through c most_kept w

-- ---- turns

-- the tree object and the inner nodes that a walk passed
abbrev pub passed : Walk → List ObjName
passed w = object.Tree w.tree ∷ map (λ page. object.Page w.tree page) w.nodes

-- a walk that followed a right link drops them at its end
abbrev pub left_by : Walk → Cache → Cache
left_by w c = if w.turned then fold dropped c (passed w) else c

abbrev pub beside : Next Walk ℕ × Cache → Next (Walk × Cache) ℕ
beside (Goes w, c) = Goes (w, c)
beside (Ends w page, c) = Ends (w, left_by w c) page
beside (Stops w t, c) = Stops (w, left_by w c) t

-- a turn begins: it has used nothing
abbrev pub rested : Walk → Walk
rested w = record w { used = None }

-- before the first call
abbrev pub walk_ready : Walk × Cache → Next (Walk × Cache) ℕ
walk_ready m = beside (goes_on m.1 (rested m.0), m.1)

-- from the object that was got and is kept now
abbrev pub got_read : Walk → Cache → Next Walk ℕ
got_read w c = follow (goes_on c) (unwrap_or (read_from w c) (Stops w trouble.Failed))

-- after the get: what the cache refuses stops the walk
abbrev pub accepted_by : Walk → Cache → Result (ℕ × Cache) Trouble → Next Walk ℕ × Cache
accepted_by w c (Err t) = (Stops w t, c)
accepted_by w c (Ok served) = (got_read w served.1, served.1)

abbrev pub got_by : Walk → Cache → Result (Option (List ℕ)) Trouble → Next Walk ℕ × Cache
got_by w c (Err t) = (Stops w t, c)
got_by w c (Ok got) = accepted_by w c (accepts c (object_of w) (is_leaf w) got)

-- where an answer leads; a walk ends with the page of the leaf whose fences hold the key
abbrev pub walk_next : Walk × Cache → Answer → Next (Walk × Cache) ℕ
walk_next m a = beside (got_by (rested m.0) m.1 (got_of a))

-- no version that a session was served falls
abbrev pub ServesOn : Cache → Cache → Type 0
ServesOn c d = (name : ObjName) → served_at c name ≤ served_at d name

-- .. at want of memory neither; a walk has no lease to keep
abbrev pub KeepsServed : Walk × Cache → Answer → Walk × Cache → Type 0
KeepsServed m a n = ServesOn m.1 n.1

-- a walk beside its cache, as a machine
abbrev pub walk_machine : Machine (Walk × Cache) ℕ
walk_machine = machine_by asks (LeadsBy walk_next) KeepsServed

-- ---- what is said of it

abbrev pub spots : Option Spot → ℕ
spots None = 0
spots (Some s) = 1

-- how many pages a walk has come to, each once
abbrev pub pages : Walk → ℕ
pages w = (length w.nodes + length w.leaves) + spots w.spot

-- how many calls it has left at most: no two lists are longer than this together
abbrev pub calls_left : Walk → ℕ
calls_left w = 2 ^ 66 - pages w

-- a walk has the tree and the key of another: what it looks for does not change
pub record HasAim (old new : Walk) : Type 0 where
  pub tree : new.tree ≡ old.tree
  pub key : new.key ≡ old.key

-- the walk is at a leaf that the cache keeps and whose range holds the key; without a key it is the leaf at the left end
pub record IsAtLeaf (w : Walk) (c : Cache) (page : ℕ) : Type 0 where
  pub leaf : Leaf
  pub in_hand : object_of w ≡ object.Page w.tree page
  pub kept : leaf_at c (object.Page w.tree page) ≡ Some leaf
  pub holds : holds leaf (sought w) ≡ true
  pub leftmost : w.key ≡ None → leaf.low ≡ []
