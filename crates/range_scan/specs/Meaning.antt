-- What a scan comes to over its whole run: the leaves at which it ends, in turn.
use Rattle.std.specs.Prelude.{ℕ, ◌≡◌, true, false, List, [], ◌∷◌, Option, Some, None}
use Rattle.byte_format.specs.Order.{below_bound}
use Rattle.db_base.specs.declared.names.ObjName.TheVariants as object
use Rattle.leaf_view.specs.Leaf.{Leaf}
use Rattle.leaf_view.specs.Lookup.{holds, page_at}
use Rattle.cloud_trait.specs.declared.answer.Answer.{Answer}
use Rattle.cloud_trait.specs.declared.answer.Answer.TheVariants.{Got}
use Rattle.cloud_trait.specs.declared.turn.Turn.{Turn}
use Rattle.cloud_trait.specs.declared.turn.Turn.TheVariants.{More, Ended, Stopped}
use Rattle.cloud_trait.specs.Ask.{Ask, Get}
use Rattle.cloud_trait.specs.Machine.{Goes, Ends, Deed, IsMade}
use Rattle.cloud_trait.specs.State.{CloudState, newest, version_at}
use Rattle.page_cache.specs.Cache.{Cache}
use Rattle.page_cache.specs.Held.{leaf_at, as_leaf}
use Rattle.tree_walk.specs.Walk.{Spot, Walk}
use Rattle.tree_walk.specs.Meaning.{Walked}
use Rattle.tree_walk.specs.Within.{IsBegun}
use Rattle.range_scan.specs.Scan.{Scan, new_scan, scan_object, scan_asks, right_behind, goes_on, moved_on, scan_ready, scan_next}

-- what is asked for: a tree, the key from which on and the one below which pairs are listed
pub record Range : Type 0 where
  pub tree : ℕ
  pub from : Option (List ℕ)
  pub to : Option (List ℕ)

-- the scan of a range before its first turn
abbrev pub scan_of : Range → Scan
scan_of r = new_scan r.tree r.from r.to

-- the range of a scan
abbrev pub range_of : Scan → Range
range_of s = record { tree = s.walk.tree; from = s.walk.key; to = s.to }

-- a call that a scan went on from, and the leaf behind which it went on, where the call brought it to the end of one
pub record Move : Type 0 where
  pub deed : Deed
  pub behind : Option Leaf

-- where a call led: on to the next call, or to the end of a leaf that the cache kept, and on behind it
abbrev pub LedTo : Scan × Cache → Answer → Option Leaf → Scan × Cache → Type 0
LedTo m a None n = scan_next m a ≡ Goes n
LedTo m a (Some l) n =
    (s : Scan) × ((page : ℕ) × (scan_next m a ≡ Ends (s, n.1) page) × (leaf_at n.1 (scan_object s) ≡ Some l) × (goes_on s ≡ true) × (n.0 ≡ moved_on s))

-- the scan of a range came from its begin to this state by these moves, the newest first, whatever others did between them
abbrev pub Scanned : Range → List Move → Scan × Cache → Type 0
Scanned r [] m = (c : Cache) × (scan_ready (scan_of r, c) ≡ Goes m)
Scanned r (x ∷ h) m =
    (from : Scan × Cache) × Scanned r h from × (x.deed.ask ≡ scan_asks from) × IsMade x.deed × LedTo from x.deed.answer x.behind m

-- ---- leaves

-- the leaf of a page as a get answered it; a page 1 that was never put is the empty leaf
pub record IsGot (tree : ℕ) (ask : Ask) (a : Answer) (l : Leaf) : Type 0 where
  pub page : ℕ
  pub got : Option (List ℕ)
  pub asked : ask ≡ Get (object.Page tree page)
  pub answered : a ≡ Got got
  pub spelled : as_leaf (Some got) ≡ Some l

abbrev pub joined : Option Leaf → List Leaf → List Leaf
joined None ls = ls
joined (Some l) ls = l ∷ ls

-- the leaves behind which it went on, the newest first
abbrev pub leaves_of : List Move → List Leaf
leaves_of [] = []
leaves_of (x ∷ h) = joined x.behind (leaves_of h)

-- the leaf of a page as a call served it: a version that landed, and the newest where no count of stale gets rose
pub record IsServed (tree : ℕ) (d : Deed) (l : Leaf) : Type 0 where
  pub is_got : IsGot tree d.ask d.answer l
  pub landed : (s : CloudState) → d.before.state ≡ Some s → (k : ℕ) × (is_got.got ≡ version_at (s.versions (object.Page tree is_got.page)) k)
  pub newest_one : (s : CloudState) → d.before.state ≡ Some s → d.after.counts.stale ≡ d.before.counts.stale → is_got.got ≡ newest s (object.Page tree is_got.page)

-- a leaf behind which a scan went on is the one that its call served
abbrev pub IsServedBy : ℕ → Deed → Option Leaf → Type 0
IsServedBy tree d None = Unit {0}
IsServedBy tree d (Some l) = IsServed tree d l

-- .. and so is each of them
abbrev pub AreServed : ℕ → List Move → Type 0
AreServed tree [] = Unit {0}
AreServed tree (x ∷ h) = IsServedBy tree x.deed x.behind × AreServed tree h

-- the first leaf holds the first key, or is at the tree's left end where there is none
abbrev pub BeginsAt : Option (List ℕ) → Leaf → Type 0
BeginsAt (Some key) l = holds l key ≡ true
BeginsAt None l = l.low ≡ []

-- a leaf begins where the one before it ends, and below the key at which the scan stops
abbrev pub Continues : Range → Leaf → List Leaf → Type 0
Continues r l [] = BeginsAt r.from l
Continues r l (before ∷ ls) = (before.high ≡ Some l.low) × (below_bound l.low r.to ≡ true)

-- the ranges of leaves, the newest first, meet from the first one on
abbrev pub AreMeeting : Range → List Leaf → Type 0
AreMeeting r [] = Unit {0}
AreMeeting r (l ∷ ls) = Continues r l ls × AreMeeting r ls

-- nothing is to be listed behind a leaf: it has no high key, and so no right page, or one that is not below the key at which the scan stops
abbrev pub IsPast : Option (List ℕ) → Option (List ℕ) → Type 0
IsPast to None = Unit {0}
IsPast to (Some high) = below_bound high to ≡ false

-- a scan at a leaf that its newest call served and that the cache keeps: with the leaves behind which it went on, each of which a call
-- served, it meets from the first one on, and where the scan does not go on, it is the last
pub record ScanIsAt (r : Range) (d : Deed) (new : Scan × Cache) (h : List Move) (page : ℕ) : Type 0 where
  pub leaf : Leaf
  pub served : IsServed r.tree d leaf
  pub in_hand : scan_object new.0 ≡ object.Page r.tree page
  pub kept : leaf_at new.1 (object.Page r.tree page) ≡ Some leaf
  pub of : range_of new.0 ≡ r
  pub earlier : AreServed r.tree h
  pub meeting : AreMeeting r (leaf ∷ leaves_of h)
  pub last : goes_on new.0 ≡ false → IsPast r.to leaf.high

-- the right page in hand is the one behind the newest leaf, and begins at its high key
abbrev pub IsLed : List Leaf → Option Spot → Type 0
IsLed ls None = Unit {0}
IsLed [] (Some spot) = ⊥
IsLed (l ∷ ls) (Some spot) = right_behind l.high (page_at l.right) ≡ Some spot

abbrev pub deeds_of : List Move → List Deed
deeds_of [] = []
deeds_of (x ∷ h) = x.deed ∷ deeds_of h

-- the walk in hand came from its begin by all calls of the scan
pub record IsWalked (h : List Move) (m : Scan × Cache) : Type 0 where
  pub start : Walk × Cache
  pub begun : IsBegun start
  pub walked : Walked start (deeds_of h) (m.0.walk, m.1)

-- what a step means: the scan is of its range still, and at its end at a leaf
abbrev pub Means : Range → Deed → Scan × Cache → List Move → Turn ℕ → Type 0
Means r d new h More = range_of new.0 ≡ r
Means r d new h (Ended page) = ScanIsAt r d new h page
Means r d new h (Stopped t) = Unit {0}
