-- What a sweep knows of a cloud at each of its calls.
use Rattle.std.specs.Prelude.{ℕ, ◌≡◌, ◌≢◌, ◌<◌, ◌≤◌, ◌⊎◌, true, List, [], length, Option, Some, None}
use Rattle.cloud_facts.specs.Book.Premises.{Removes}
use Rattle.cloud_facts.specs.Words.{IsTree, Trouble, Answer, Claim, Lasts, Goes, Ends, Stops, Store, StandsAt}
use Rattle.cloud_facts.specs.Homes.Homes.{Part, Away}
use Rattle.cloud_trait.specs.Listing.{AscendAbove}
use Rattle.db_base.specs.declared.names.Lock.TheVariants as lock
use Rattle.db_base.specs.declared.trouble.Trouble.TheVariants as trouble
use Rattle.orphan_sweep.specs.declared.stage.Stage.{Stage}
use Rattle.orphan_sweep.specs.declared.stage.Stage.TheVariants.{TakingTree, GettingTree, Reading, Listing, Removing, Releasing, Finished}
use Rattle.orphan_sweep.specs.Leases.{HoldsNone, HasOrphan, claims_of}
use Rattle.orphan_sweep.specs.Sweeping.{Sweeping, Step, sweep_next}
use Rattle.session_facts.specs.Machines.Sweeps.Places.{IsReading, AreAll}

-- ---- orphans

-- Behind the listing: so many of the orphans are removed, and each of the others can be removed. They ascend, so no page comes twice. All pages that
-- can be removed are among them.
pub record IsClearing (st : Store) (tree : ℕ) (visited orphans : List ℕ) (removed : ℕ) : Type 0 where
  pub all : AreAll (st.book.chain tree) visited
  pub ascending : AscendAbove 0 orphans
  pub gone : (place page : ℕ) → place < removed → StandsAt orphans place page → st.tally.gone tree page ≡ true
  pub left : (place page : ℕ) → removed ≤ place → StandsAt orphans place page → Removes st tree page
  pub whole : (page : ℕ) → page ≢ 1 → Removes st tree page → (place : ℕ) × (removed ≤ place) × StandsAt orphans place page

-- no page of the tree is left that landed and is in no chain
abbrev pub IsSwept : Store → ℕ → Type 0
IsSwept st tree = (page : ℕ) → Removes st tree page → ⊥

-- ---- the lease

-- the tree's lease is held, and this holds while it lasts
abbrev pub Under : ℕ → ℕ → Option Claim → Type 0 → Type 0
Under tree now (Some l) Known = (l.lock ≡ lock.Tree tree) × (Lasts now l → Known)
Under tree now None Known = ⊥

-- ---- why it stops

-- a call failed or came too late, the lock was held, or memory ran out: no object of the tree is ever broken or missing, and no way leads round
abbrev pub MayStopSweep : Trouble → Type 0
MayStopSweep trouble.Failed = Unit {0}
MayStopSweep (trouble.Late end now) = Unit {0}
MayStopSweep (trouble.Busy lock until) = Unit {0}
MayStopSweep trouble.Memory = Unit {0}
MayStopSweep t = ⊥

-- ---- by its stage

-- all orphans are removed
abbrev pub IsCleared : Store → Sweeping → Type 0
IsCleared st s = IsClearing st s.tree s.visited s.orphans s.removed × (s.removed ≡ length s.orphans)

abbrev pub KnowsAt : Stage → Store → ℕ → Sweeping → Type 0
KnowsAt TakingTree st now s = HoldsNone s.held × (s.visited ≡ [])
KnowsAt GettingTree st now s = Under s.tree now s.held (Unit {0}) × (s.visited ≡ [])
KnowsAt Reading st now s = Under s.tree now s.held (IsReading (st.book.chain s.tree) s.at s.visited)
KnowsAt Listing st now s = Under s.tree now s.held (AreAll (st.book.chain s.tree) s.visited)
KnowsAt Removing st now s = Under s.tree now s.held (IsClearing st s.tree s.visited s.orphans s.removed) × HasOrphan s
KnowsAt Releasing st now s = Under s.tree now s.held (s.trouble ≡ None → IsCleared st s)
KnowsAt Finished st now s = ⊥

-- what it knows before a call; the session has no client
pub record KnowsSweep (st : Store) (now : ℕ) (s : Sweeping) (part : Part) : Type 0 where
  pub tree : IsTree s.tree
  pub away : part ≡ Away
  pub may : (t : Trouble) → s.trouble ≡ Some t → MayStopSweep t
  -- a trouble is kept only while the lease is given back
  pub quiet : (s.stage ≡ Releasing) ⊎ (s.trouble ≡ None)
  pub at : KnowsAt s.stage st now s

-- ---- where an answer leads

-- a sweep that is over has no client, and stops for no fault of the tree
abbrev pub KnowsNext : Step → Store → ℕ → Part → Type 0
KnowsNext (Goes n) st now part = KnowsSweep st now n part
KnowsNext (Ends n x) st now part = part ≡ Away
KnowsNext (Stops n t) st now part = (part ≡ Away) × MayStopSweep t

-- what is known after an answer, wherever that leads
abbrev pub KnowsAfter : Sweeping → Answer → Store → ℕ → Part → Type 0
KnowsAfter s reply st now part = KnowsNext (sweep_next s reply) st now part

-- ---- its leases; its calls add nothing to the audit

abbrev pub leases_of_sweep : Sweeping → List Claim
leases_of_sweep s = claims_of s.held

abbrev pub leases_next : Step → List Claim
leases_next (Goes n) = leases_of_sweep n
leases_next (Ends n x) = []
leases_next (Stops n t) = []
