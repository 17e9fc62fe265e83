-- Troubles that no call brought: a counter is spent, or the page that was named is none.
use Rattle.std.proofs.Common.{◌≡◌, inl, inr, ℕ, refl}
use Rattle.client_work.specs.declared.work.Work.{Work}
use Rattle.client_work.specs.declared.work.Work.TheVariants as work
use Rattle.cloud_trait.specs.State.{CloudState}
use Rattle.db_base.specs.declared.trouble.Counter.{Counter}
use Rattle.db_base.specs.declared.trouble.Counter.TheVariants as counter
use Rattle.db_base.specs.declared.trouble.Trouble.{Trouble}
use Rattle.db_base.specs.declared.trouble.Trouble.TheVariants as trouble
use Rattle.session_facts.specs.Machines.CommitRuns.Stops.{MayStopCommit}
use Rattle.session_facts.specs.Machines.Openings.Knows.{MayStopOpening}
use Rattle.session_facts.specs.Machines.PageCheckpoints.Knows.{MayStopPage}
use Rattle.session_facts.specs.Sessions.Stops.{MayRefuse, MaySettle}
use Rattle.session_facts.specs.Sessions.Explains.{spent_for}
use Rattle.session_facts.specs.Sessions.Spent.{IsOfSettling, IsSpentToOpen, IsSpentToCommit, IsSpentInPages, IsSpentInTree, IsSpentToSettle}
use Rattle.session_facts.specs.Sessions.Untroubled.{IsOfNoCall, IsSpent, IsSpentOrOf}
use Rattle.session_facts.specs.Machines.TreeCheckpoints.Knows.{MayStopTree}
use Rattle.session_facts.specs.Machines.Walks.Knows.{MayStopWalk}
use Rattle.session_facts.proofs.Sessions.Spent.{pages_in_tree}

pub opening_spent : (u : CloudState) (k : Trouble) → MayStopOpening k → IsOfNoCall IsSpentToOpen u k → (k ≡ trouble.Memory → ⊥) → IsSpent IsSpentToOpen u k
opening_spent u (trouble.Exhausted what) may none other = none
opening_spent u trouble.Memory may none other = other refl
opening_spent u trouble.Failed may none other = none
opening_spent u (trouble.Late end now) may none other = none
opening_spent u (trouble.Busy lock until) may none other = none
opening_spent u (trouble.Waiting have need) may none other = none
opening_spent u k may none other = may

pub commit_spent : (u : CloudState) (k : Trouble) → MayStopCommit k → IsOfNoCall IsSpentToCommit u k → (k ≡ trouble.Memory → ⊥) → IsSpent IsSpentToCommit u k
commit_spent u (trouble.Exhausted what) may none other = none
commit_spent u trouble.Memory may none other = other refl
commit_spent u trouble.Failed may none other = none
commit_spent u (trouble.Late end now) may none other = none
commit_spent u k may none other = may

pub tree_spent : (u : CloudState) (tree : ℕ) (k : Trouble) → MayStopTree k → IsOfNoCall (IsSpentInTree tree) u k → (k ≡ trouble.Memory → ⊥) → IsSpent (IsSpentInTree tree) u k
tree_spent u tree (trouble.Exhausted what) may none other = none
tree_spent u tree trouble.Memory may none other = other refl
tree_spent u tree trouble.Failed may none other = none
tree_spent u tree (trouble.Late end now) may none other = none
tree_spent u tree (trouble.Busy lock until) may none other = none
tree_spent u tree k may none other = may

-- whatever is at work, a counter of a settling is spent as it is for a settling
pub settles_by : (u : CloudState) (w : Work) (what : Counter) → IsOfSettling what → spent_for w u what → IsSpentToSettle u what
settles_by u (work.Opening r) what may is = inl is
settles_by u (work.Committing r) counter.Txn may is = absurd may
settles_by u (work.Committing r) counter.Number may is = absurd may
settles_by u (work.Committing r) what may is = absurd is
settles_by u (work.Folding home m) what may is = inr (m.tree, is)
settles_by u (work.Paging home p) what may is = inr (p.tree, pages_in_tree p.tree u what is)
settles_by u (work.Settling m) what may is = is
settles_by u (work.Sweeping m) what may is = absurd is
settles_by u (work.Reading home m) what may is = absurd is
settles_by u (work.Scanning home m) what may is = absurd is
settles_by u (work.Looking home m) what may is = absurd is
settles_by u (work.Closing l) what may is = absurd is
settles_by u (work.Renewing home) what may is = absurd is
settles_by u work.Closed what may is = absurd is
settles_by u (work.Idle home) what may is = absurd is
settles_by u (work.Broken l) what may is = absurd is

pub settled_spent : (u : CloudState) (w : Work) (k : Trouble) → MaySettle k → IsOfNoCall (spent_for w) u k → (k ≡ trouble.Memory → ⊥) → IsSpent IsSpentToSettle u k
settled_spent u w (trouble.Exhausted what) may none other = settles_by u w what may none
settled_spent u w trouble.Memory may none other = other refl
settled_spent u w trouble.Failed may none other = none
settled_spent u w (trouble.Late end now) may none other = none
settled_spent u w (trouble.Busy lock until) may none other = none
settled_spent u w (trouble.Waiting have need) may none other = none
settled_spent u w k may none other = may

pub page_spent : (u : CloudState) (tree page : ℕ) (k : Trouble) → MayStopPage page k → IsOfNoCall (IsSpentInPages tree) u k → (k ≡ trouble.Memory → ⊥) → IsSpentOrOf tree page u k
page_spent u tree page (trouble.Exhausted what) may none other = none
page_spent u tree page (trouble.Absent named) may none other = may
page_spent u tree page (trouble.NotALeaf named) may none other = may
page_spent u tree page trouble.Memory may none other = other refl
page_spent u tree page trouble.Failed may none other = none
page_spent u tree page (trouble.Late end now) may none other = none
page_spent u tree page (trouble.Busy lock until) may none other = none
page_spent u tree page k may none other = may

pub refuse_never : (u : CloudState) (Spent : CloudState → Counter → Type 0) (k : Trouble) → MayRefuse k → IsOfNoCall Spent u k → (k ≡ trouble.Memory → ⊥) → ⊥
refuse_never u Spent trouble.Memory may none other = other refl
refuse_never u Spent trouble.Failed may none other = none
refuse_never u Spent (trouble.Late end now) may none other = none
refuse_never u Spent k may none other = may

pub walk_never : (u : CloudState) (Spent : CloudState → Counter → Type 0) (k : Trouble) → MayStopWalk k → IsOfNoCall Spent u k → (k ≡ trouble.Memory → ⊥) → ⊥
walk_never u Spent trouble.Memory may none other = other refl
walk_never u Spent trouble.Failed may none other = none
walk_never u Spent (trouble.Stale page least got) may none other = none
walk_never u Spent k may none other = may
