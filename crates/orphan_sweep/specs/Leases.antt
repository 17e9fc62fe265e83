-- How a sweep stands after its calls: the lease that it holds, the pages that it came to, and how many calls it made.
use Rattle.std.specs.Prelude.{ℕ, ◌≡◌, ◌≢◌, ◌+◌, ◌≤◌, ◌==◌, List, [], ◌∷◌, length, Option, Some, None}
use Rattle.std.specs.List.{IsDistinct}
use Rattle.db_base.specs.declared.names.Lock.TheVariants as lock
use Rattle.db_base.specs.declared.trouble.Trouble.TheVariants as trouble
use Rattle.cloud_trait.specs.declared.turn.Turn.{Turn}
use Rattle.cloud_trait.specs.declared.turn.Turn.TheVariants.{More, Ended, Stopped}
use Rattle.cloud_trait.specs.Ask.{Ask, GetHeld, ListHeld, RemoveHeld, Take, Release}
use Rattle.cloud_trait.specs.Claim.{Claim}
use Rattle.cloud_trait.specs.Machine.{Deed, LeadsBy, Came}
use Rattle.ckpt_parts.specs.Leasing.{outstanding}
use Rattle.orphan_sweep.specs.declared.stage.Stage.{Stage}
use Rattle.orphan_sweep.specs.declared.stage.Stage.TheVariants.{TakingTree, GettingTree, Reading, Listing, Removing, Releasing, Finished}
use Rattle.orphan_sweep.specs.declared.swept.Swept.{Swept}
use Rattle.orphan_sweep.specs.Sweeping.{Sweeping, new_sweeping, sweep_ask, sweep_next, next_orphan}

-- the sweep of the same tree before its first call
abbrev pub fresh : Sweeping → Sweeping
fresh s = new_sweeping s.tree

-- the sweep came here from its first call on by these calls, the newest first
abbrev pub Went : List Deed → Sweeping → Type 0
Went h s = Came sweep_ask (LeadsBy sweep_next) (fresh s) h s

-- ---- the lease

abbrev pub claims_of : Option Claim → List Claim
claims_of (Some l) = l ∷ []
claims_of None = []

-- the tree's lease is held
abbrev pub HoldsTree : Sweeping → Option Claim → Type 0
HoldsTree s (Some l) = l.lock ≡ lock.Tree s.tree
HoldsTree s None = ⊥

abbrev pub HoldsNone : Option Claim → Type 0
HoldsNone (Some l) = ⊥
HoldsNone None = Unit {0}

-- an orphan is left to be removed
abbrev pub HasOrphan : Sweeping → Type 0
HasOrphan s = (page : ℕ) × (next_orphan s ≡ Some page)

-- which lease is held at a stage
abbrev pub HoldsAt : Stage → Sweeping → Option Claim → Type 0
HoldsAt TakingTree s held = HoldsNone held
HoldsAt GettingTree s held = HoldsTree s held
HoldsAt Reading s held = HoldsTree s held
HoldsAt Listing s held = HoldsTree s held
HoldsAt Removing s held = HoldsTree s held × HasOrphan s
HoldsAt Releasing s held = HoldsTree s held
HoldsAt Finished s held = ⊥

-- ---- calls

-- how many calls were made at most before the call in hand, by the pages that were come to, those that were removed, and all orphans
abbrev pub DueAt : Stage → ℕ → ℕ → ℕ → ℕ → Type 0
DueAt TakingTree pages removed orphans made = made ≤ pages
DueAt GettingTree pages removed orphans made = made ≤ pages + 1
DueAt Reading pages removed orphans made = made ≤ pages + 1
DueAt Listing pages removed orphans made = made ≤ pages + 2
DueAt Removing pages removed orphans made = made ≤ pages + removed + 3
DueAt Releasing pages removed orphans made = made ≤ pages + orphans + 3
DueAt Finished pages removed orphans made = Unit {0}

-- each page is in the list once
abbrev pub AreOnce : List ℕ → Type 0
AreOnce pages = IsDistinct (λ p q. p == q) pages

-- after so many calls, with this lease to be given back
pub record StandsAt (s : Sweeping) (made : ℕ) (claims : List Claim) : Type 0 where
  pub held : claims_of s.held ≡ claims
  pub own : HoldsAt s.stage s s.held
  pub due : DueAt s.stage (length s.visited) s.removed (length s.orphans) made
  pub once : AreOnce s.visited

-- The lease that it holds is the one that its take gave, until it gave it back. It came to each page once.
abbrev pub Stands : Sweeping → List Deed → Type 0
Stands s h = StandsAt s (length h) (outstanding h)

-- a call names the lease that is held, which is the tree's; the take comes where none is held
abbrev pub NamesHeld : ℕ → Claim → List Claim → Type 0
NamesHeld tree l claims = (claims ≡ l ∷ []) × (l.lock ≡ lock.Tree tree)

abbrev pub Names : ℕ → Ask → List Claim → Type 0
Names tree (Take mine ticks) claims = (mine ≡ lock.Tree tree) × (claims ≡ [])
Names tree (GetHeld name l) claims = NamesHeld tree l claims
Names tree (ListHeld of l) claims = (of ≡ tree) × NamesHeld tree l claims
Names tree (RemoveHeld name l) claims = NamesHeld tree l claims
Names tree (Release l) claims = NamesHeld tree l claims
Names tree ask claims = ⊥

-- before any answer but that there is a next call, and but for want of memory, the lease was given back
abbrev pub GivesBack : Sweeping → Turn Swept → Type 0
GivesBack n More = Unit {0}
GivesBack n (Ended x) = n.held ≡ None
GivesBack n (Stopped t) = t ≢ trouble.Memory → n.held ≡ None

-- the same of the leases that calls took and did not give back
abbrev pub AreReturned : List Claim → Turn Swept → Type 0
AreReturned claims More = Unit {0}
AreReturned claims (Ended x) = claims ≡ []
AreReturned claims (Stopped t) = t ≢ trouble.Memory → claims ≡ []

-- so many calls are few: four, one for each page that was come to, and one for each orphan
abbrev pub AreFew : Sweeping → ℕ → Type 0
AreFew s calls = calls ≤ 4 + length s.visited + length s.orphans
