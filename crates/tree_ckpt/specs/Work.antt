-- What a tree checkpoint asks where it stands, and the leases that it holds there.
use Rattle.std.specs.Prelude.{ℕ, Bool, true, false, List, [], ◌∷◌, Option, Some, None}
use Rattle.db_base.specs.Limits.{page_ticks, tree_ticks, most_received}
use Rattle.db_base.specs.declared.names.Lock.TheVariants as lock
use Rattle.db_base.specs.declared.names.ObjName.TheVariants as object
use Rattle.db_base.specs.declared.names.QueueName.TheVariants as queue
use Rattle.cloud_trait.specs.Ask.{Ask, GetHeld, Receive, Delete, Take, Release}
use Rattle.cloud_trait.specs.Claim.{Claim}
use Rattle.ckpt_parts.specs.declared.leases.Leases.{Leases}
use Rattle.ckpt_parts.specs.Deleting.{next_id}
use Rattle.ckpt_parts.specs.Leasing.{newest_lease, without_newest, claims_of}
use Rattle.log_codec.specs.declared.record.PuItem.{PuItem}
use Rattle.tree_phases.specs.Descent.{descent_ask}
use Rattle.tree_phases.specs.Folding.{folding_ask, applying}
use Rattle.tree_phases.specs.Rising.{rising_ask}
use Rattle.tree_ckpt.specs.declared.work.Work.{Work}
use Rattle.tree_ckpt.specs.declared.work.Work.TheVariants.{TakingTree, GettingTree, Receiving, Descending, TakingPage, Folding, ReleasingPage, LeftPage, Rising, Deleting, Releasing, Finished}

-- the tree's lease alone
abbrev pub one_lease : Claim → Leases
one_lease l = record { first = Some l; second = None }

-- the tree's lease and then a leaf's
abbrev pub two_leases : Claim → Claim → Leases
two_leases l leaf = record { first = Some l; second = Some leaf }

-- ---- the call in hand

abbrev pub take_tree : ℕ → Ask
take_tree tree = Take (lock.Tree tree) tree_ticks

abbrev pub delete_ask : ℕ → Option ℕ → Ask
delete_ask tree (Some id) = Delete (queue.TreePu tree) id
delete_ask tree None = take_tree tree

abbrev pub release_ask : ℕ → Option Claim → Ask
release_ask tree (Some l) = Release l
release_ask tree None = take_tree tree

abbrev pub work_ask : ℕ → Work → Ask
work_ask tree TakingTree = take_tree tree
work_ask tree (GettingTree l) = GetHeld (object.Tree tree) l
work_ask tree (Receiving l root) = Receive (queue.TreePu tree) most_received
work_ask tree (Descending h d) = descent_ask d h.lease
work_ask tree (TakingPage h c) = Take (lock.Page c.chart.tree c.page) page_ticks
work_ask tree (Folding h f) = folding_ask f h.lease
work_ask tree (ReleasingPage h l o) = Release l
work_ask tree (LeftPage h o) = take_tree tree
work_ask tree (Rising h r) = rising_ask r h.lease
work_ask tree (Deleting h applied) = delete_ask tree (next_id h.deletions.ids)
work_ask tree (Releasing held end) = release_ask tree (newest_lease held)
work_ask tree Finished = take_tree tree

-- whether there is nothing in hand but leases, none that is kept from call to call
abbrev pub is_bare : Work → Bool
is_bare TakingTree = true
is_bare (Releasing held end) = true
is_bare Finished = true
is_bare w = false

-- whether the tree's lease is taken next
abbrev pub is_taking : Work → Bool
is_taking TakingTree = true
is_taking w = false

-- whether the tree object is got next
abbrev pub is_getting : Work → Bool
is_getting (GettingTree l) = true
is_getting w = false

-- whether the queue is received from next
abbrev pub is_receiving : Work → Bool
is_receiving (Receiving l root) = true
is_receiving w = false

-- whether the newest lease is given back next
abbrev pub is_releasing : Work → Bool
is_releasing (Releasing held end) = true
is_releasing w = false

-- the items that the put in hand applies, those of a leaf's own put
abbrev pub applying_in : Work → List PuItem
applying_in (Folding h f) = applying f
applying_in w = []

-- ---- leases

-- what is held, the newest first
abbrev pub claims_in : Work → List Claim
claims_in TakingTree = []
claims_in (GettingTree l) = l ∷ []
claims_in (Receiving l root) = l ∷ []
claims_in (Descending h d) = h.lease ∷ []
claims_in (TakingPage h c) = h.lease ∷ []
claims_in (Folding h f) = f.lease ∷ h.lease ∷ []
claims_in (ReleasingPage h l o) = l ∷ h.lease ∷ []
claims_in (LeftPage h o) = h.lease ∷ []
claims_in (Rising h r) = h.lease ∷ []
claims_in (Deleting h applied) = h.lease ∷ []
claims_in (Releasing held end) = claims_of held
claims_in Finished = []

-- a lease that the call in hand gives back has left
abbrev pub handed : Work → Work
handed (ReleasingPage h l o) = LeftPage h o
handed (Releasing held end) = Releasing (without_newest held) end
handed w = w

-- the lease that the call in hand gives back
abbrev pub leaving : Work → Option Claim
leaving (ReleasingPage h l o) = Some l
leaving (Releasing held end) = newest_lease held
leaving w = None
