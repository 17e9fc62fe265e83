-- What a whole commit did, by its whole run.
use Rattle.std.specs.Prelude.{◌≡◌, ◌⊎◌, ℕ, ◌+◌, true, false, List, [], ◌∷◌, ◌++◌, length, slice_get, Option, Some}
use Rattle.db_base.specs.Change.{key_of}
use Rattle.db_base.specs.declared.names.ObjName.TheVariants as object
use Rattle.db_base.specs.declared.trouble.Trouble.{Trouble}
use Rattle.db_base.specs.declared.trouble.Trouble.TheVariants as trouble
use Rattle.db_base.specs.declared.trouble.Counter.TheVariants as counter
use Rattle.db_base.specs.declared.trouble.CommitAnswer.{CommitAnswer}
use Rattle.db_base.specs.declared.trouble.CommitAnswer.TheVariants.{NotCommitted}
use Rattle.head_codec.specs.declared.head.Head.{Head}
use Rattle.leaf_view.specs.Leaf.{Leaf}
use Rattle.leaf_view.specs.Lookup.{holds}
use Rattle.txn_buffer.specs.Noted.{Noted}
use Rattle.cloud_trait.specs.declared.answer.Answer.TheVariants.{Got}
use Rattle.cloud_trait.specs.declared.turn.Turn.{Turn}
use Rattle.cloud_trait.specs.declared.turn.Turn.TheVariants.{More, Ended, Stopped}
use Rattle.cloud_trait.specs.Ask.{Get}
use Rattle.cloud_trait.specs.Machine.{Ends, Stops, Deed}
use Rattle.recover_run.specs.declared.home.Home.{Home}
use Rattle.log_codec.specs.declared.record.AtomicRec.{AtomicRec}
use Rattle.route_plan.specs.Prune.{pruned_by_leaf, pruned_by_tree}
use Rattle.page_cache.specs.Cache.{Cache}
use Rattle.page_cache.specs.Held.{as_leaf}
use Rattle.tree_walk.specs.Walk.{Walk}
use Rattle.db_base.specs.Change.{goes_to_leaf}
use Rattle.commit_writes.specs.Writing.{Writing, routed_of, passes, is_spent}
use Rattle.commit_writes.specs.Calls.{Calls, told}
use Rattle.commit_run.specs.Run.{is_stale}
use Rattle.commit_run.specs.Trips.{Use, OfTree, OfLeaf, Trip, uses_of, AreWalks}

-- ---- pruning

-- the head without exactly the client's entries that what was used shows to be applied
abbrev pub pruned_once : ℕ → Head → Use → Head
pruned_once client head (OfTree tree root) = pruned_by_tree head client tree root
pruned_once client head (OfLeaf tree leaf) = pruned_by_leaf head client tree leaf

-- by all that were used, in their order
abbrev pub pruned_by : ℕ → Head → List Use → Head
pruned_by client head [] = head
pruned_by client head (u ∷ uses) = pruned_by client (pruned_once client head u) uses

-- the home behind walks that used these: with the next attempt number, and its head pruned
abbrev pub walked_home : Home → List Use → Home
walked_home home uses = record home { head = pruned_by home.client home.head uses; attempt = home.attempt + 1 }

-- ---- the leaves

-- a walk of the commit ended at the page, and its newest call got a version of it whose range holds the key
pub record IsHeldAt (trips : List Trip) (tree page : ℕ) (key : List ℕ) : Type 0 where
  pub place : ℕ
  pub trip : Trip
  pub among : slice_get trips place ≡ Some trip
  pub in_tree : trip.tree ≡ tree
  pub left : Walk × Cache
  pub ended : trip.turn ≡ Ends left page
  pub earlier : Calls
  pub bytes : Option (List ℕ)
  pub got : trip.calls ≡ earlier ++ (Get (object.Page tree page), Got bytes) ∷ []
  pub leaf : Leaf
  pub spelled : as_leaf (Some bytes) ≡ Some leaf
  pub holds : holds leaf key ≡ true

-- the walk of the commit that was for the key met a stale page
pub record WasStale (trips : List Trip) (tree : ℕ) (key : List ℕ) : Type 0 where
  pub place : ℕ
  pub trip : Trip
  pub among : slice_get trips place ≡ Some trip
  pub in_tree : trip.tree ≡ tree
  pub to : trip.key ≡ key
  pub own : trip.fresh ≡ false
  pub left : Walk × Cache
  pub trouble : Trouble
  pub stopped : trip.turn ≡ Stops left trouble
  pub stale : is_stale trouble ≡ true

-- the leaf of a change: a walk of the commit ended at it, in whose range the key lies; or it is page 1, and the change's own walk met a stale page
abbrev pub IsLeafOf : List Trip → Noted → ℕ → Type 0
IsLeafOf trips n page = IsHeldAt trips n.tree page (key_of n.change) ⊎ ((page ≡ 1) × WasStale trips n.tree (key_of n.change))

-- of each update, whose leaf routing looks at; routing looks at no other change's
abbrev pub AreLeaves : List Trip → List Noted → List ℕ → Type 0
AreLeaves trips [] pages = Unit {0}
AreLeaves trips (n ∷ changes) [] = Unit {0}
AreLeaves trips (n ∷ changes) (page ∷ pages) = (goes_to_leaf n.change ≡ true → IsLeafOf trips n page) × AreLeaves trips changes pages

-- ---- behind the walks

-- sticky routing: behind the walks of the commit each change has its leaf, and the records are those of the changes by the home with its pruned head
pub record IsRouted (home : Home) (changes : List Noted) (c : Cache) (calls : Calls) (records : List AtomicRec) : Type 0 where
  pub trips : List Trip
  pub walks : AreWalks home changes c trips calls
  pub pages : List ℕ
  pub known : length pages ≡ length changes
  pub leaves : AreLeaves trips changes pages
  pub are : records ≡ routed_of (walked_home home (uses_of trips)) changes pages

-- none of their numbers passes the greatest one, and they are written: behind the calls of the walks came the later ones
pub record IsWriting (home : Home) (changes : List Noted) (c : Cache) (h : List Deed) (w : Writing) : Type 0 where
  pub later : List Deed
  pub first : List Deed
  pub are : h ≡ later ++ first
  pub routed : IsRouted home changes c (told first) w.records
  pub fits : passes w.records ≡ false

-- the home from which the commit writes
abbrev pub home_in : {home : Home} {changes : List Noted} {c : Cache} {h : List Deed} {w : Writing} → IsWriting home changes c h w → Home
home_in {home = home} so = walked_home home (uses_of so.routed.trips)

-- ---- a walk that ends the commit

-- the newest walk stopped so, and at no stale page
pub record NewestStopped (trips : List Trip) (t : Trouble) : Type 0 where
  pub earlier : List Trip
  pub trip : Trip
  pub are : trips ≡ earlier ++ trip ∷ []
  pub left : Walk × Cache
  pub stopped : trip.turn ≡ Stops left t
  pub other : is_stale t ≡ false

-- a number of the records would pass the greatest one
pub record PassesGreatest (home : Home) (changes : List Noted) (trips : List Trip) (t : Trouble) : Type 0 where
  pub pages : List ℕ
  pub known : length pages ≡ length changes
  pub leaves : AreLeaves trips changes pages
  pub full : passes (routed_of (walked_home home (uses_of trips)) changes pages) ≡ true
  pub is : t ≡ trouble.Exhausted counter.Number

-- why nothing was committed before the first write: the newest walk stopped, or such a number
abbrev pub WhyNot : Home → List Noted → List Trip → Trouble → Type 0
WhyNot home changes trips t = NewestStopped trips t ⊎ PassesGreatest home changes trips t

-- the commit ends before its first write: its home has the next attempt number and is pruned
pub record IsRefused (home : Home) (changes : List Noted) (trips : List Trip) (left : Home) (a : CommitAnswer) : Type 0 where
  pub trouble : Trouble
  pub is : a ≡ NotCommitted trouble
  pub left_so : left ≡ walked_home home (uses_of trips)
  pub why : WhyNot home changes trips trouble

-- what a turn says of the walks up to it; a stop is want of memory
abbrev pub Refuses : Home → List Noted → List Trip → Home → Turn CommitAnswer → Type 0
Refuses home changes trips left More = Unit {0}
Refuses home changes trips left (Ended a) = IsRefused home changes trips left a
Refuses home changes trips left (Stopped t) = t ≡ trouble.Memory

-- what the calls of walks mean
pub record MeansWalks (home : Home) (changes : List Noted) (c : Cache) (calls : Calls) (left : Home) (turn : Turn CommitAnswer) : Type 0 where
  pub trips : List Trip
  pub walks : AreWalks home changes c trips calls
  pub means : Refuses home changes trips left turn

-- at its beginning nothing was called: the greatest attempt number leaves the home as it was
abbrev pub MeansReady : Home → List Noted → Cache → Home → Turn CommitAnswer → Type 0
MeansReady home changes c left (Ended a) =
    ((is_spent home ≡ true) × (a ≡ NotCommitted (trouble.Exhausted counter.Txn)) × (left ≡ home)) ⊎ ((is_spent home ≡ false) × MeansWalks home changes c [] left (Ended a))
MeansReady home changes c left More = MeansWalks home changes c [] left More
MeansReady home changes c left (Stopped t) = t ≡ trouble.Memory
