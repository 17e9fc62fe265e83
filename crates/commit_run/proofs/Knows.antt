-- What is known of a commit at each of its calls, by its calls so far.
use Rattle.std.proofs.Common.{◌≡◌, ℕ, ◌∷◌, [], ◌++◌, List, Some, false}
use Rattle.std.specs.Prelude.{slice_get, Option, Bool, true}
use Rattle.std.specs.List.{AllByRecursion}
use Rattle.db_base.specs.declared.names.ObjName.TheVariants as object
use Rattle.cloud_trait.specs.declared.turn.Turn.TheVariants.{Ended}
use Rattle.commit_run.specs.Ended.{Ended as EndedLeaf}
use Rattle.commit_run.specs.Draft.{KnowsNoMore}
use Rattle.commit_run.specs.Trips.{cache_behind, WasRead}
use Rattle.commit_run.specs.Meaning.{IsRouted}
use Rattle.commit_run.proofs.Words.{ObjName, CommitAnswer, Leaf, AtomicRec, Noted, Got, Stopped, Get, Next, Goes, Ends, Stops, LeadsBy, Came, Deed, Home, Cache, as_leaf, Walk, IsWalk, sought, Writing, waiting, begun, passes, writing_ask, writing_next, Calls, told, Hand, Writes, First, Change, Draft, Run, home_of, next_target, Use, Trip, uses_of, AreWalks, walked_home, AreLeaves, MeansWalks}

-- ---- what a cache keeps

-- an object as a cache keeps it
abbrev pub Kept : Type 0
Kept = ObjName × Option (List ℕ)

abbrev pub IsKeptRead : Cache → Calls → Kept → Type 0
IsKeptRead c calls o = WasRead c calls o.0 o.1

-- all that a cache keeps was read
abbrev pub KeepsRead : Cache → Calls → Cache → Type 0
KeepsRead c calls k = AllByRecursion (IsKeptRead c calls) k.objects

-- ---- walks

-- a leaf at which a walk ended has the range of the version that its newest call got
pub record IsGotAt (trips : List Trip) (e : EndedLeaf) : Type 0 where
  pub place : ℕ
  pub trip : Trip
  pub among : slice_get trips place ≡ Some trip
  pub in_tree : trip.tree ≡ e.tree
  pub left : Walk × Cache
  pub ended : trip.turn ≡ Ends left e.page
  pub earlier : Calls
  pub bytes : Option (List ℕ)
  pub got : trip.calls ≡ earlier ++ (Get (object.Page e.tree e.page), Got bytes) ∷ []
  pub leaf : Leaf
  pub spelled : as_leaf (Some bytes) ≡ Some leaf
  pub low : e.low ≡ leaf.low
  pub high : e.high ≡ leaf.high

-- what is planned behind walks that are over, where all that were made used these
pub record KnowsDraft (home : Home) (changes : List Noted) (trips : List Trip) (uses : List Use) (d : Draft) : Type 0 where
  pub writes : d.writes ≡ waiting (walked_home home uses) changes
  pub within : KnowsNoMore d
  pub leaves : AreLeaves trips changes d.plan.pages
  pub ended : AllByRecursion (IsGotAt trips) d.plan.ended

-- between the walks
pub record KnowsOver (home : Home) (changes : List Noted) (c : Cache) (calls : Calls) (d : Draft) (k : Cache) : Type 0 where
  pub trips : List Trip
  pub walks : AreWalks home changes c trips calls
  pub behind : cache_behind c trips ≡ k
  pub reads : KeepsRead c calls k
  pub draft : KnowsDraft home changes trips (uses_of trips) d

-- with a walk in hand, which is for the next change or for the first of many pending entries
pub record KnowsHeld (home : Home) (changes : List Noted) (c : Cache) (calls : Calls) (d : Draft) (first : Bool) (m : Walk × Cache) : Type 0 where
  pub earlier : List Trip
  pub trip : Trip
  pub walks : AreWalks home changes c (earlier ++ trip ∷ []) calls
  pub fresh : trip.fresh ≡ first
  pub goes : trip.turn ≡ Goes m
  pub reads : KeepsRead c calls m.1
  pub draft : KnowsDraft home changes earlier (uses_of (earlier ++ trip ∷ [])) d
  pub is : IsWalk m.0
  pub to : ◌≡◌ {A = ℕ × List ℕ} (trip.tree, trip.key) (m.0.tree, sought m.0)
  pub aimed : first ≡ false → next_target d ≡ Some (m.0.tree, sought m.0)

-- ---- behind the walks

-- the first record is sent
pub record KnowsBegun (home : Home) (changes : List Noted) (c : Cache) (calls : Calls) (w : Writing) : Type 0 where
  pub records : List AtomicRec
  pub routed : IsRouted home changes c calls records
  pub fits : passes records ≡ false
  pub begins : begun (waiting (walked_home home (uses_of routed.trips)) changes) records ≡ Goes w

-- .. and others after it
pub record KnowsWrites (home : Home) (changes : List Noted) (c : Cache) (h : List Deed) (w : Writing) : Type 0 where
  pub later : List Deed
  pub first : List Deed
  pub are : h ≡ later ++ first
  pub start : Writing
  pub begun_so : KnowsBegun home changes c (told first) start
  pub came : Came writing_ask (LeadsBy writing_next) start later w

-- ---- where a turn behind walks leads: to a walk, or to the first write

abbrev pub KnowsHand : Home → List Noted → Cache → Calls → Draft → Hand → Cache → Type 0
KnowsHand home changes c calls d Writes k = KnowsBegun home changes c calls d.writes
KnowsHand home changes c calls d (First w) k = KnowsHeld home changes c calls d true (w, k)
KnowsHand home changes c calls d (Change w) k = KnowsHeld home changes c calls d false (w, k)

abbrev pub KnowsNext : Home → List Noted → Cache → Calls → Next (Run × Cache) CommitAnswer → Type 0
KnowsNext home changes c calls (Goes n) = KnowsHand home changes c calls n.0.draft n.0.hand n.1
KnowsNext home changes c calls (Ends n a) = MeansWalks home changes c calls (home_of n.0) (Ended a)
KnowsNext home changes c calls (Stops n t) = MeansWalks home changes c calls (home_of n.0) (Stopped t)

-- at each call
abbrev pub KnowsAt : Home → List Noted → Cache → List Deed → Draft → Hand → Cache → Type 0
KnowsAt home changes c h d Writes k = KnowsWrites home changes c h d.writes
KnowsAt home changes c h d (First w) k = KnowsHeld home changes c (told h) d true (w, k)
KnowsAt home changes c h d (Change w) k = KnowsHeld home changes c (told h) d false (w, k)
