-- What a checkpoint of a tree of any height knows where it stands, and wherever an answer leads.
use Rattle.std.specs.Prelude.{ℕ, ◌≡◌, List, [], ◌++◌, map, Option, Some, None, Result, Ok, Err}
use Rattle.cloud_facts.specs.Words.{IsTree, Trouble, Answer, Claim, Ask, PutHeld, Next, Goes, Ends, Stops, Store}
use Rattle.cloud_trait.specs.declared.turn.CkptAnswer.{CkptAnswer}
use Rattle.db_base.specs.declared.names.Lock.TheVariants as lock
use Rattle.db_base.specs.declared.names.ObjName.TheVariants as object
use Rattle.db_base.specs.declared.trouble.Trouble.TheVariants as trouble
use Rattle.history.specs.Audited.{Audited, applied_entry}
use Rattle.session_facts.specs.Machines.Runs.Knows.{MayDelete}
use Rattle.session_facts.specs.Sessions.Spent.{IsOfFolding}
use Rattle.tree_ckpt.specs.Making.{Making, MakingLeads}
use Rattle.tree_ckpt.specs.Leases.{OfTree, HasIds}
use Rattle.session_facts.specs.Machines.Trees.Charts.{KnowsRoot}
use Rattle.session_facts.specs.Machines.Trees.Leaves.{KnowsRest, IsGetting, IsCome, KnowsLeaf}
use Rattle.session_facts.specs.Machines.Risings.Knows.{KnowsRising}
use Rattle.tree_ckpt.specs.declared.work.Onward.{Onward}
use Rattle.tree_ckpt.specs.declared.work.Onward.TheVariants.{Right, Handled}
use Rattle.tree_ckpt.specs.declared.work.Held.{Held}
use Rattle.tree_ckpt.specs.declared.work.Work.{Work}
use Rattle.tree_ckpt.specs.declared.work.Work.TheVariants.{TakingTree, GettingTree, Receiving, Descending, TakingPage, Folding, ReleasingPage, LeftPage, Rising, Deleting, Releasing, Finished}
use Rattle.tree_ckpt.specs.Moves.{Step}
use Rattle.tree_ckpt.specs.Work.{applying_in, claims_in}
use Rattle.tree_phases.specs.Read.{tree_held}

-- ---- leases

-- the tree's lease is in hand, and what is known is of that tree
pub record IsUnder (tree : ℕ) (lease : Claim) (known : ℕ) : Type 0 where
  pub lock_is : OfTree tree lease
  pub tree_is : known ≡ tree

-- the lease is of a leaf of the tree
pub record OfPage (tree : ℕ) (l : Claim) : Type 0 where
  pub page : ℕ
  pub lock_is : l.lock ≡ lock.Page tree page

-- the tree's lease is to be given back, and before it that of a leaf, where there is one
abbrev pub HoldsLast : ℕ → Option Claim → Option Claim → Type 0
HoldsLast tree (Some l) None = OfTree tree l
HoldsLast tree (Some l) (Some leaf) = OfTree tree l × OfPage tree leaf
HoldsLast tree None second = ⊥

-- ---- why it stops

-- a call failed or came too late, a lock was held, a counter stands at its last value, or memory ran out: no page, no fence and no way is broken
abbrev pub MayStopTree : Trouble → Type 0
MayStopTree trouble.Failed = Unit {0}
MayStopTree (trouble.Late end now) = Unit {0}
MayStopTree (trouble.Busy lock until) = Unit {0}
MayStopTree (trouble.Exhausted what) = IsOfFolding what
MayStopTree trouble.Memory = Unit {0}
MayStopTree t = ⊥

-- it ends, or it stops so
abbrev pub EndsWell : Result CkptAnswer Trouble → Type 0
EndsWell (Ok x) = Unit {0}
EndsWell (Err t) = MayStopTree t

-- ---- where it stands

-- where it goes from a leaf
abbrev pub KnowsOnward : Store → ℕ → ℕ → Held → Onward → Type 0
KnowsOnward st now tree h (Right c) = IsUnder tree h.lease c.chart.tree × IsCome st now h.lease c h.deletions.ids
KnowsOnward st now tree h (Handled c) = IsUnder tree h.lease c.tree × KnowsRest st now h.lease c h.deletions.ids

-- no checkpoint stands between a release and where it leads
abbrev pub KnowsWork : Store → ℕ → ℕ → Work → Type 0
KnowsWork st now tree TakingTree = Unit {0}
KnowsWork st now tree (GettingTree l) = OfTree tree l
KnowsWork st now tree (Receiving l root) = OfTree tree l × KnowsRoot st now l tree (tree_held root)
KnowsWork st now tree (Descending h d) = IsUnder tree h.lease d.chart.tree × IsGetting st now h.lease d h.deletions.ids
KnowsWork st now tree (TakingPage h c) = IsUnder tree h.lease c.chart.tree × IsCome st now h.lease c h.deletions.ids
KnowsWork st now tree (Folding h f) = IsUnder tree h.lease f.chart.tree × KnowsLeaf st now h.lease f h.deletions.ids
KnowsWork st now tree (ReleasingPage h l o) = OfPage tree l × KnowsOnward st now tree h o
KnowsWork st now tree (LeftPage h o) = ⊥
KnowsWork st now tree (Rising h r) = IsUnder tree h.lease r.chart.tree × KnowsRising st now h.lease r h.deletions.ids
KnowsWork st now tree (Deleting h applied) = OfTree tree h.lease × MayDelete st tree 0 h.deletions.ids × HasIds h.deletions.ids
KnowsWork st now tree (Releasing held end) = HoldsLast tree held.first held.second × EndsWell end
KnowsWork st now tree Finished = ⊥

pub record KnowsMaking (st : Store) (now : ℕ) (m : Making) : Type 0 where
  pub tree : IsTree m.tree
  pub work : KnowsWork st now m.tree m.work

-- ---- wherever an answer leads

abbrev pub KnowsWorkNext : Store → ℕ → ℕ → Step → Type 0
KnowsWorkNext u now tree (Goes w) = KnowsWork u now tree w
KnowsWorkNext u now tree (Ends w x) = Unit {0}
KnowsWorkNext u now tree (Stops w t) = MayStopTree t

abbrev pub KnowsMakingNext : Store → ℕ → Next Making CkptAnswer → Type 0
KnowsMakingNext u now (Goes n) = KnowsMaking u now n
KnowsMakingNext u now (Ends n x) = Unit {0}
KnowsMakingNext u now (Stops n t) = MayStopTree t

abbrev pub KnowsAfter : Making → Answer → Store → ℕ → Type 0
KnowsAfter m reply u now = (next : Next Making CkptAnswer) → MakingLeads m reply next → KnowsMakingNext u now next

-- ---- its leases, and what its puts add to the audit

abbrev pub leases_of_making : Making → List Claim
leases_of_making m = claims_in m.work

abbrev pub leases_next : Next Making CkptAnswer → List Claim
leases_next (Goes n) = claims_in n.work
leases_next (Ends n x) = []
leases_next (Stops n t) = []

abbrev pub making_note : Making → Ask → Audited → Audited
making_note m (PutHeld (object.Page tree page) bytes one two) a = record a { order = a.order ++ map (applied_entry tree) (applying_in m.work) }
making_note m ask a = a
