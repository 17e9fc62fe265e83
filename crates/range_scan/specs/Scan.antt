-- A scan of a range of keys as a machine beside the cache: a walk to its first leaf, and then from each leaf to its right page.
use Rattle.std.specs.Prelude.{ℕ, ◌&&◌, ◌||◌, Bool, true, false, List, [], ◌∷◌, ◌++◌, Option, Some, None, Result, Ok, Err, if◌then◌else◌, unwrap_or}
use Rattle.byte_format.specs.Order.{bytes_same, below_bound}
use Rattle.db_base.specs.declared.names.ObjName.{ObjName}
use Rattle.db_base.specs.declared.names.ObjName.TheVariants as object
use Rattle.db_base.specs.declared.trouble.Trouble.{Trouble}
use Rattle.db_base.specs.declared.trouble.Trouble.TheVariants as trouble
use Rattle.leaf_view.specs.Leaf.{Leaf}
use Rattle.leaf_view.specs.Lookup.{page_at}
use Rattle.cloud_trait.specs.declared.answer.Answer.{Answer}
use Rattle.cloud_trait.specs.declared.turn.Turn.{Turn}
use Rattle.cloud_trait.specs.declared.turn.Turn.TheVariants.{More, Ended, Stopped}
use Rattle.cloud_trait.specs.Ask.{Ask, Get}
use Rattle.cloud_trait.specs.Machine.{Next, Goes, Ends, Stops, Machine, machine_by, LeadsBy}
use Rattle.cloud_trait.specs.Views.{got_of}
use Rattle.page_cache.specs.Cache.{Cache, accepts}
use Rattle.page_cache.specs.Held.{leaf_at}
use Rattle.tree_walk.specs.Walk.{Spot, Walk, new_walk, object_of, is_page, is_among, came_to, walk_ready, walk_next, ServesOn}

-- a scan: its walk, the key at which it stops, the right page in hand (its walk is in hand while there is none), the page to the
-- right of the newest leaf, and the right pages that it got
pub record Scan : Type 0 where
  pub walk : Walk
  pub to : Option (List ℕ)
  pub spot : Option Spot
  pub next : Option Spot
  pub passed : List ℕ

-- a scan before its first turn
abbrev pub new_scan : ℕ → Option (List ℕ) → Option (List ℕ) → Scan
new_scan tree from to = record { walk = new_walk tree from false; to = to; spot = None; next = None; passed = [] }

-- ---- what is in hand

abbrev pub scan_object_at : Scan → Option Spot → ObjName
scan_object_at s None = object_of s.walk
scan_object_at s (Some spot) = object.Page s.walk.tree spot.page

-- the object in hand: once the scan ended at a leaf, that leaf
abbrev pub scan_object : Scan → ObjName
scan_object s = scan_object_at s s.spot

-- the call in hand: a get of the object in hand
abbrev pub scan_ask : Scan → Ask
scan_ask s = Get (scan_object s)

-- the same beside the cache
abbrev pub scan_asks : Scan × Cache → Ask
scan_asks m = scan_ask m.0

-- the right page in hand, where one is
abbrev pub right_in : Scan → Spot
right_in s = unwrap_or s.spot (record { page = 1; level = 0; low = [] })

-- whether the scan has come to the page, in its walk too
abbrev pub scan_came_to : Scan → ℕ → Bool
scan_came_to s page = is_page page s.spot || (came_to s.walk page || is_among s.passed page)

-- ---- from leaf to leaf

-- the page to the right of a leaf, which begins at the leaf's high key
abbrev pub right_behind : Option (List ℕ) → Option ℕ → Option Spot
right_behind None page = None
right_behind (Some high) page = Some (record { page = unwrap_or page 1; level = 0; low = high })

-- whether a page is one to go on to: it begins below the key at which the scan stops
abbrev pub is_wanted : Option (List ℕ) → Option Spot → Bool
is_wanted to None = false
is_wanted to (Some next) = below_bound next.low to

-- at the end of a leaf: a right page to go on to that the scan has come to before is a loop
abbrev pub ended_at : Scan → ℕ → Option Spot → Next Scan ℕ
ended_at s page None = Ends (record s { next = None }) page
ended_at s page (Some next) =
    if below_bound next.low s.to && scan_came_to s next.page then Stops s (trouble.Loop next.page) else Ends (record s { next = Some next }) page

abbrev pub leaf_ended : Scan → Leaf → ℕ → Next Scan ℕ
leaf_ended s l page = ended_at s page (right_behind l.high (page_at l.right))

-- whether the scan goes on behind the newest leaf
abbrev pub goes_on : Scan → Bool
goes_on s = is_wanted s.to s.next

-- the scan with the right page of the newest leaf in hand, where it goes on
abbrev pub moved_on : Scan → Scan
moved_on s = if goes_on s then record s { spot = s.next; next = None } else s

-- ---- the first leaf

-- at the leaf at which the walk ended
abbrev pub first_in : Scan → ℕ → Option Leaf → Next Scan ℕ
first_in s page (Some l) = leaf_ended s l page
first_in s page None = Stops s trouble.Failed

abbrev pub first_read : Scan → Cache → ℕ → Next Scan ℕ
first_read s c page = first_in s page (leaf_at c (object_of s.walk))

-- the scan and the cache beside it
abbrev pub scan_beside : Next Scan ℕ × Cache → Next (Scan × Cache) ℕ
scan_beside (Goes s, c) = Goes (s, c)
scan_beside (Ends s page, c) = Ends (s, c) page
scan_beside (Stops s t, c) = Stops (s, c) t

-- where a turn of its walk leads
abbrev pub walked_on : Scan → Cache → Turn ℕ → Next Scan ℕ
walked_on s c More = Goes s
walked_on s c (Ended page) = first_read s c page
walked_on s c (Stopped t) = Stops s t

abbrev pub walked_by : Scan → Next (Walk × Cache) ℕ → Next (Scan × Cache) ℕ
walked_by s (Goes m) = scan_beside (walked_on (record s { walk = m.0 }) m.1 More, m.1)
walked_by s (Ends m page) = scan_beside (walked_on (record s { walk = m.0 }) m.1 (Ended page), m.1)
walked_by s (Stops m t) = scan_beside (walked_on (record s { walk = m.0 }) m.1 (Stopped t), m.1)

-- ---- the leaves behind it

-- at a right page: its low key must be the high key that led there
abbrev pub right_read_in : Scan → Option Leaf → Next Scan ℕ
right_read_in s None = Stops s trouble.Failed
right_read_in s (Some l) =
    if bytes_same l.low (right_in s).low
    then leaf_ended (record s { passed = s.passed ++ (right_in s).page ∷ [] }) l (right_in s).page
    else Stops s (trouble.BadFence (right_in s).page (right_in s).low l.low)

abbrev pub right_read : Scan → Cache → Next Scan ℕ
right_read s c = right_read_in s (leaf_at c (scan_object s))

-- after the get of a right page
abbrev pub right_accepted : Scan → Cache → Result (ℕ × Cache) Trouble → Next Scan ℕ × Cache
right_accepted s c (Err t) = (Stops s t, c)
right_accepted s c (Ok served) = (right_read s served.1, served.1)

abbrev pub right_got : Scan → Cache → Result (Option (List ℕ)) Trouble → Next Scan ℕ × Cache
right_got s c (Err t) = (Stops s t, c)
right_got s c (Ok got) = right_accepted s c (accepts c (scan_object s) true got)

-- ---- turns

-- before the first call
abbrev pub scan_ready : Scan × Cache → Next (Scan × Cache) ℕ
scan_ready m = walked_by m.0 (walk_ready (m.0.walk, m.1))

abbrev pub next_at : Option Spot → Scan × Cache → Answer → Next (Scan × Cache) ℕ
next_at None m a = walked_by m.0 (walk_next (m.0.walk, m.1) a)
next_at (Some spot) m a = scan_beside (right_got m.0 m.1 (got_of a))

-- where an answer leads; it ends with the page of each leaf in turn
abbrev pub scan_next : Scan × Cache → Answer → Next (Scan × Cache) ℕ
scan_next m a = next_at m.0.spot m a

-- want of memory keeps the versions that were served; a scan has no lease to keep
abbrev pub KeepsServed : Scan × Cache → Answer → Scan × Cache → Type 0
KeepsServed m a n = ServesOn m.1 n.1

-- a scan beside its cache, as a machine
abbrev pub scan_machine : Machine (Scan × Cache) ℕ
scan_machine = machine_by scan_asks (LeadsBy scan_next) KeepsServed
