-- How a page checkpoint stands after its calls: the leases that it holds, and how many calls it made.
use Rattle.std.specs.Prelude.{ℕ, ◌≡◌, ◌≢◌, ◌+◌, ◌*◌, ◌≤◌, List, [], ◌∷◌, length, Option, Some, None}
use Rattle.db_base.specs.declared.names.Lock.{Lock}
use Rattle.db_base.specs.declared.names.Lock.TheVariants as lock
use Rattle.db_base.specs.declared.trouble.Trouble.TheVariants as trouble
use Rattle.cloud_trait.specs.declared.turn.CkptAnswer.{CkptAnswer}
use Rattle.cloud_trait.specs.declared.turn.Turn.{Turn}
use Rattle.cloud_trait.specs.declared.turn.Turn.TheVariants.{More, Ended, Stopped}
use Rattle.cloud_trait.specs.Ask.{Ask, GetHeld, PutHeld, Receive, Delete, Take, Release}
use Rattle.cloud_trait.specs.Claim.{Claim}
use Rattle.cloud_trait.specs.Machine.{Deed, Came}
use Rattle.ckpt_parts.specs.Deleting.{Deleting}
use Rattle.ckpt_parts.specs.Leasing.{claims_of, outstanding}
use Rattle.page_ckpt.specs.declared.stage.Stage.{Stage}
use Rattle.page_ckpt.specs.declared.stage.Stage.TheVariants.{TakingHome, GettingHome, Receiving, TakingRight, GettingRight, PuttingRight, ReleasingRight, PuttingHome, Deleting as DeletingNext, Releasing, Finished}
use Rattle.page_ckpt.specs.Paging.{Paging, new_paging, paging_ask, PagingLeads}
use Rattle.page_ckpt.specs.End.{held_count}

-- the checkpoint of the same page before its first call
abbrev pub fresh : Paging → Paging
fresh p = new_paging p.tree p.page

-- the checkpoint came here from its first call on by these calls, the newest first
abbrev pub Went : List Deed → Paging → Type 0
Went h p = Came paging_ask PagingLeads (fresh p) h p

-- ---- leases

abbrev pub OfHome : Paging → Claim → Type 0
OfHome p l = l.lock ≡ lock.Page p.tree p.page

abbrev pub OfRight : Paging → Claim → Type 0
OfRight p r = r.lock ≡ lock.Page p.tree p.at.page

-- the right page at hand is another one than the checkpoint's
abbrev pub IsElsewhere : Paging → Type 0
IsElsewhere p = p.at.page ≢ p.page

-- no lease is held
abbrev pub HoldsNone : Option Claim → Option Claim → Type 0
HoldsNone None None = Unit {0}
HoldsNone first second = ⊥

-- the page's lease alone is held
abbrev pub HoldsHome : Paging → Option Claim → Option Claim → Type 0
HoldsHome p (Some l) None = OfHome p l
HoldsHome p (Some l) (Some r) = ⊥
HoldsHome p None second = ⊥

-- the page's lease is held, and that of the right page at hand, which is another lock
abbrev pub HoldsBoth : Paging → Option Claim → Option Claim → Type 0
HoldsBoth p (Some l) (Some r) = OfHome p l × OfRight p r × IsElsewhere p
HoldsBoth p (Some l) None = ⊥
HoldsBoth p None second = ⊥

-- the page's lease is held, and maybe another
abbrev pub HoldsFirst : Option Claim → Type 0
HoldsFirst (Some l) = Unit {0}
HoldsFirst None = ⊥

-- an id is left to be deleted
abbrev pub HasIds : List ℕ → Type 0
HasIds [] = ⊥
HasIds (id ∷ ids) = Unit {0}

-- which leases are held at a stage
abbrev pub HoldsAt : Stage → Paging → Option Claim → Option Claim → Type 0
HoldsAt TakingHome p first second = HoldsNone first second
HoldsAt GettingHome p first second = HoldsHome p first second
HoldsAt Receiving p first second = HoldsHome p first second
HoldsAt TakingRight p first second = HoldsHome p first second × IsElsewhere p
HoldsAt GettingRight p first second = HoldsBoth p first second
HoldsAt PuttingRight p first second = HoldsBoth p first second
HoldsAt ReleasingRight p first second = HoldsBoth p first second
HoldsAt PuttingHome p first second = HoldsHome p first second
HoldsAt DeletingNext p first second = HoldsHome p first second × HasIds p.deletions.ids
HoldsAt Releasing p first second = HoldsFirst first
HoldsAt Finished p first second = ⊥

-- ---- calls

-- how many deletions were tried
abbrev pub tries : Deleting → ℕ
tries d = d.deleted + d.left

-- how many calls were made at most before the call in hand, by the right pages that were come to and the deletions that were tried
abbrev pub DueAt : Stage → ℕ → ℕ → ℕ → ℕ → Type 0
DueAt TakingHome rights tried held made = made ≤ 4 * rights
DueAt GettingHome rights tried held made = made ≤ 4 * rights + 1
DueAt Receiving rights tried held made = made ≤ 4 * rights + 2
DueAt TakingRight rights tried held made = made + 1 ≤ 4 * rights
DueAt GettingRight rights tried held made = made ≤ 4 * rights
DueAt PuttingRight rights tried held made = made ≤ 4 * rights + 1
DueAt ReleasingRight rights tried held made = made ≤ 4 * rights + 2
DueAt PuttingHome rights tried held made = made ≤ 4 * rights + 3
DueAt DeletingNext rights tried held made = made ≤ 4 * rights + 4 + tried
DueAt Releasing rights tried held made = made + held ≤ 4 * rights + 5 + tried
DueAt Finished rights tried held made = Unit {0}

-- after so many calls, with these leases to be given back
pub record StandsAt (p : Paging) (made : ℕ) (claims : List Claim) : Type 0 where
  pub held : claims_of p.held ≡ claims
  pub own : HoldsAt p.stage p p.held.first p.held.second
  pub due : DueAt p.stage (length p.visited) (tries p.deletions) (held_count p.held) made

-- The leases that it holds, the newest first, are those that its takes gave and that it did not give back.
abbrev pub Stands : Paging → List Deed → Type 0
Stands p h = StandsAt p (length h) (outstanding h)

-- none of the leases is of this lock
abbrev pub IsFreeOf : Lock → List Claim → Type 0
IsFreeOf lock [] = Unit {0}
IsFreeOf lock (c ∷ cs) = c.lock ≢ lock × IsFreeOf lock cs

-- A call names leases that are held: a get and a release the newest, a put the one or the two, the older first. A lock that is taken is
-- not held.
abbrev pub Names : Ask → List Claim → Type 0
Names (Take lock ticks) cs = IsFreeOf lock cs
Names (GetHeld name l) [] = ⊥
Names (GetHeld name l) (c ∷ cs) = l ≡ c
Names (PutHeld name bytes one None) cs = cs ≡ one ∷ []
Names (PutHeld name bytes one (Some two)) cs = cs ≡ two ∷ one ∷ []
Names (Release l) [] = ⊥
Names (Release l) (c ∷ cs) = l ≡ c
Names (Receive queue most) cs = Unit {0}
Names (Delete queue id) cs = Unit {0}
Names ask cs = ⊥

-- before any answer but that there is a next call, and but for want of memory, all leases were given back
abbrev pub GivesBack : Paging → Turn CkptAnswer → Type 0
GivesBack n More = Unit {0}
GivesBack n (Ended a) = claims_of n.held ≡ []
GivesBack n (Stopped t) = t ≢ trouble.Memory → claims_of n.held ≡ []

-- the same of the leases that calls took and did not give back
abbrev pub AreReturned : List Claim → Turn CkptAnswer → Type 0
AreReturned claims More = Unit {0}
AreReturned claims (Ended a) = claims ≡ []
AreReturned claims (Stopped t) = t ≢ trouble.Memory → claims ≡ []

-- so many calls are few: five, one for each id that is deleted, and four for each right page that was come to
abbrev pub AreFew : Paging → ℕ → Type 0
AreFew p calls = calls ≤ 5 + (tries p.deletions + length p.deletions.ids) + 4 * length p.visited
