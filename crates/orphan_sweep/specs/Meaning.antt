-- What a sweep did by its calls.
use Rattle.std.specs.Prelude.{ℕ, ◌≡◌, ◌+◌, true, false, List, [], ◌∷◌, ◌++◌, length, take, Option, Some, None, Ok}
use Rattle.db_base.specs.Limits.{tree_ticks}
use Rattle.db_base.specs.declared.names.Lock.TheVariants as lock
use Rattle.db_base.specs.declared.names.ObjName.{ObjName}
use Rattle.db_base.specs.declared.names.ObjName.TheVariants as object
use Rattle.node_codec.specs.Tree.{Tree}
use Rattle.cloud_trait.specs.declared.answer.Answer.{Answer}
use Rattle.cloud_trait.specs.declared.answer.Answer.TheVariants as call
use Rattle.cloud_trait.specs.declared.turn.Turn.{Turn}
use Rattle.cloud_trait.specs.declared.turn.Turn.TheVariants.{More, Ended, Stopped}
use Rattle.cloud_trait.specs.Ask.{Ask, GetHeld, ListHeld, RemoveHeld, Take, Release}
use Rattle.cloud_trait.specs.Claim.{Claim}
use Rattle.cloud_trait.specs.Listing.{AscendAbove}
use Rattle.orphan_sweep.specs.declared.paths.Paths.{Paths}
use Rattle.orphan_sweep.specs.declared.spot.Spot.{Spot}
use Rattle.orphan_sweep.specs.declared.stage.Stage.{Stage}
use Rattle.orphan_sweep.specs.declared.stage.Stage.TheVariants.{TakingTree, GettingTree, Reading, Listing, Removing, Releasing, Finished}
use Rattle.orphan_sweep.specs.declared.swept.Swept.{Swept}
use Rattle.orphan_sweep.specs.Pages.{root_held, top_spot, paths_of, onward}
use Rattle.orphan_sweep.specs.Sweeping.{Sweeping, sweep_ask, next_orphan, is_among, strays, swept_of}

-- calls with their answers, the newest first
abbrev pub Calls : Type 0
Calls = List (Ask × Answer)

-- ---- pages that were come to

-- a page that a sweep came to, with its level and low key, and what a held get brought of it
pub record Visit : Type 0 where
  pub at : Spot
  pub got : Option (List ℕ)

-- These visits, the newest first, lead from the tree object on to this page, or to none once all levels are read: the first one is to the first page
-- that the tree object names, and each other one is to where the one before it leads, to the right page, or from the last page of a level to the
-- first page below the leftmost one.
abbrev pub LeadOn : ℕ → Tree → List Visit → Option Spot → Type 0
LeadOn tree root [] spot = spot ≡ Some (top_spot root)
LeadOn tree root (v ∷ vs) spot =
    LeadOn tree root vs (Some v.at) × ((paths : Paths) × (paths_of tree v.at v.got ≡ Ok paths) × (spot ≡ onward v.at paths))

-- the pages of visits, in the order in which they were come to
abbrev pub pages_in : List Visit → List ℕ
pages_in [] = []
pages_in (v ∷ vs) = pages_in vs ++ v.at.page ∷ []

-- ---- calls

-- the tree's lease is taken and the tree object got
abbrev pub opening : ℕ → Claim → Option (List ℕ) → Calls
opening tree l got = (GetHeld (object.Tree tree) l, call.Got got) ∷ (Take (lock.Tree tree) tree_ticks, call.Given l) ∷ []

-- visits follow calls
abbrev pub visits_over : ℕ → Claim → List Visit → Calls → Calls
visits_over tree l [] rest = rest
visits_over tree l (v ∷ vs) rest = (GetHeld (object.Page tree v.at.page) l, call.Got v.got) ∷ visits_over tree l vs rest

-- removals of these pages, one by one, follow calls
abbrev pub removals_over : ℕ → Claim → List ℕ → Calls → Calls
removals_over tree l [] rest = rest
removals_over tree l (page ∷ pages) rest = removals_over tree l pages ((RemoveHeld (object.Page tree page) l, call.Done) ∷ rest)

-- ---- what was done

-- the calls took the tree's lease, which is held, got the tree object and then pages, which lead on to the one at hand
pub record HasRead (tree : ℕ) (held : Option Claim) (calls : Calls) (at : Option Spot) : Type 0 where
  pub lease : Claim
  pub is_held : held ≡ Some lease
  pub got : Option (List ℕ)
  pub root : Tree
  pub is_root : root_held tree got ≡ Ok root
  pub visits : List Visit
  pub lead : LeadOn tree root visits at
  pub are : calls ≡ visits_over tree lease visits (opening tree lease got)

-- .. and all levels were read, by these pages
pub record HasReadAll (tree : ℕ) (held : Option Claim) (visited : List ℕ) (calls : Calls) : Type 0 where
  pub read : HasRead tree held calls None
  pub came : visited ≡ pages_in read.visits

-- Before them all levels were read. Then a listing was made, and those of its pages that the sweep did not come to are removed in ascending order:
-- so many of them were. The others are kept.
pub record HasListed (s : Sweeping) (calls : Calls) : Type 0 where
  pub before : Calls
  pub all : HasReadAll s.tree s.held s.visited before
  pub listed : List ℕ
  pub ascending : AscendAbove 0 listed
  pub orphans : s.orphans ≡ strays s.visited listed
  pub in_order : AscendAbove 0 s.orphans
  pub kept : s.kept + length s.orphans ≡ length listed
  pub are : calls ≡ removals_over s.tree all.read.lease (take s.removed s.orphans) ((ListHeld s.tree all.read.lease, call.Listed listed) ∷ before)

-- what its calls were at a stage
abbrev pub KnowsAt : Stage → Sweeping → Calls → Type 0
KnowsAt TakingTree s calls = (calls ≡ []) × (s.visited ≡ [])
KnowsAt GettingTree s calls = ((l : Claim) × (s.held ≡ Some l) × (calls ≡ (Take (lock.Tree s.tree) tree_ticks, call.Given l) ∷ [])) × (s.visited ≡ [])
KnowsAt Reading s calls = (read : HasRead s.tree s.held calls (Some s.at)) × (s.visited ≡ pages_in read.visits ++ s.at.page ∷ [])
KnowsAt Listing s calls = HasReadAll s.tree s.held s.visited calls
KnowsAt Removing s calls = HasListed s calls
KnowsAt Releasing s calls = s.trouble ≡ None → HasListed s calls × (s.removed ≡ length s.orphans)
KnowsAt Finished s calls = ⊥

abbrev pub Knows : Sweeping → Calls → Type 0
Knows s calls = KnowsAt s.stage s calls

-- a removal comes once all levels are read and the pages are listed, and is of the first listed page that was not come to and is not removed
pub record IsDue (s : Sweeping) (calls : Calls) (name : ObjName) : Type 0 where
  pub listed : HasListed s calls
  pub page : ℕ
  pub next : next_orphan s ≡ Some page
  pub there : is_among listed.listed page ≡ true
  pub apart : is_among s.visited page ≡ false
  pub named : name ≡ object.Page s.tree page

abbrev pub Removes : Sweeping → Calls → Ask → Type 0
Removes s calls (RemoveHeld name l) = IsDue s calls name
Removes s calls ask = Unit {0}

-- at an end all listed pages that were not come to are removed, the lease is given back, and the answer counts them and those that were come to
pub record IsSwept (s : Sweeping) (calls : Calls) (x : Swept) : Type 0 where
  pub listed : HasListed s calls
  pub all : s.removed ≡ length s.orphans
  pub last : sweep_ask s ≡ Release listed.all.read.lease
  pub answers : x ≡ swept_of s

abbrev pub MeansSwept : Sweeping → Calls → Turn Swept → Type 0
MeansSwept s calls More = Unit {0}
MeansSwept s calls (Ended x) = IsSwept s calls x
MeansSwept s calls (Stopped t) = Unit {0}
