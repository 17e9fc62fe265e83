-- How a tree checkpoint stands after its calls: the leases that it holds.
use Rattle.std.specs.Prelude.{ℕ, ◌≡◌, ◌≢◌, ◌<◌, false, length, List, [], ◌∷◌, Option, Some, None}
use Rattle.db_base.specs.declared.names.Lock.{Lock}
use Rattle.db_base.specs.declared.names.Lock.TheVariants as lock
use Rattle.db_base.specs.declared.trouble.Trouble.TheVariants as trouble
use Rattle.cloud_trait.specs.declared.turn.CkptAnswer.{CkptAnswer}
use Rattle.cloud_trait.specs.declared.turn.Turn.{Turn}
use Rattle.cloud_trait.specs.declared.turn.Turn.TheVariants.{More, Ended, Stopped}
use Rattle.cloud_trait.specs.Ask.{Ask, GetHeld, PutHeld, Receive, Delete, Take, Release}
use Rattle.cloud_trait.specs.Claim.{Claim}
use Rattle.cloud_trait.specs.Machine.{Deed, Came}
use Rattle.ckpt_parts.specs.Leasing.{newest_lease, outstanding}
use Rattle.tree_phases.specs.Placing.{has_nothing}
use Rattle.tree_phases.specs.declared.folding.Folding.{Folding as Leaf}
use Rattle.tree_ckpt.specs.declared.work.Work.{Work}
use Rattle.tree_ckpt.specs.declared.work.Work.TheVariants.{TakingTree, GettingTree, Receiving, Descending, TakingPage, Folding, ReleasingPage, LeftPage, Rising, Deleting, Releasing, Finished}
use Rattle.tree_ckpt.specs.Work.{claims_in}
use Rattle.tree_ckpt.specs.Making.{Making, new_making, making_ask, MakingLeads}

-- the checkpoint of the same tree before its first call
abbrev pub fresh : Making → Making
fresh m = new_making m.tree

-- the checkpoint came here from its first call on by these calls, the newest first
abbrev pub Went : List Deed → Making → Type 0
Went h m = Came making_ask MakingLeads (fresh m) h m

-- the lease is the tree's
abbrev pub OfTree : ℕ → Claim → Type 0
OfTree tree l = l.lock ≡ lock.Tree tree

-- the lease at hand is that of the leaf at hand
abbrev pub OfLeaf : Leaf → Type 0
OfLeaf f = f.lease.lock ≡ lock.Page f.chart.tree f.page

-- where something is to be put, a page is
abbrev pub IsPlanned : Leaf → Type 0
IsPlanned f = has_nothing f.placing ≡ false → 0 < length f.placing.puts

-- an id is left to be deleted
abbrev pub HasIds : List ℕ → Type 0
HasIds [] = ⊥
HasIds (id ∷ ids) = Unit {0}

-- a lease is held
abbrev pub HoldsOne : Option Claim → Type 0
HoldsOne (Some l) = Unit {0}
HoldsOne None = ⊥

-- which locks the leases are of that are held where it stands
abbrev pub HoldsAt : ℕ → Work → Type 0
HoldsAt tree TakingTree = Unit {0}
HoldsAt tree (GettingTree l) = OfTree tree l
HoldsAt tree (Receiving l root) = OfTree tree l
HoldsAt tree (Descending h d) = OfTree tree h.lease
HoldsAt tree (TakingPage h c) = OfTree tree h.lease
HoldsAt tree (Folding h f) = OfTree tree h.lease × OfLeaf f × IsPlanned f
HoldsAt tree (ReleasingPage h l o) = OfTree tree h.lease
HoldsAt tree (LeftPage h o) = ⊥
HoldsAt tree (Rising h r) = OfTree tree h.lease
HoldsAt tree (Deleting h applied) = OfTree tree h.lease × HasIds h.deletions.ids
HoldsAt tree (Releasing held end) = HoldsOne (newest_lease held)
HoldsAt tree Finished = ⊥

-- these leases are held, the newest first, and they are of the locks that the checkpoint is to hold there
pub record StandsAt (tree : ℕ) (w : Work) (claims : List Claim) : Type 0 where
  pub held : claims_in w ≡ claims
  pub own : HoldsAt tree w

-- the leases that it holds are those that its takes gave and that it did not give back
abbrev pub Stands : Making → List Deed → Type 0
Stands m h = StandsAt m.tree m.work (outstanding h)

-- ---- what a call names

-- none of the leases is of this lock
abbrev pub IsFreeOf : Lock → List Claim → Type 0
IsFreeOf lock [] = Unit {0}
IsFreeOf lock (c ∷ cs) = c.lock ≢ lock × IsFreeOf lock cs

abbrev pub IsNewest : Claim → List Claim → Type 0
IsNewest l [] = ⊥
IsNewest l (c ∷ cs) = l ≡ c

abbrev pub IsOldest : Claim → List Claim → Type 0
IsOldest l [] = ⊥
IsOldest l (c ∷ []) = l ≡ c
IsOldest l (c ∷ d ∷ cs) = IsOldest l (d ∷ cs)

-- A call names leases that are held: a get and a release the newest, a put the oldest, which is the tree's, and for a leaf or a piece of
-- it the leaf's behind that. A lock that is taken is not held.
abbrev pub Names : Ask → List Claim → Type 0
Names (Take lock ticks) cs = IsFreeOf lock cs
Names (GetHeld name l) cs = IsNewest l cs
Names (PutHeld name bytes one None) cs = IsOldest one cs
Names (PutHeld name bytes one (Some two)) cs = cs ≡ two ∷ one ∷ []
Names (Release l) cs = IsNewest l cs
Names (Receive queue most) cs = Unit {0}
Names (Delete queue id) cs = Unit {0}
Names ask cs = ⊥

-- before any answer but that there is a next call, and but for want of memory, all leases were given back
abbrev pub GivesBack : Making → Turn CkptAnswer → Type 0
GivesBack n More = Unit {0}
GivesBack n (Ended a) = claims_in n.work ≡ []
GivesBack n (Stopped t) = t ≢ trouble.Memory → claims_in n.work ≡ []

-- the same of the leases that calls took and did not give back
abbrev pub AreReturned : List Claim → Turn CkptAnswer → Type 0
AreReturned claims More = Unit {0}
AreReturned claims (Ended a) = claims ≡ []
AreReturned claims (Stopped t) = t ≢ trouble.Memory → claims ≡ []
