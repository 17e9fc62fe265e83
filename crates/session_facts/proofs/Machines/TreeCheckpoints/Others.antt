-- What a checkpoint knows survives the calls of others.
use Rattle.std.proofs.Common.{◌≡◌, ◌≤◌, inl, inr, ℕ, zero, suc, List, [], ◌∷◌, refl, sym, ap, ◌∙◌}
use Rattle.cloud_facts.specs.Words.{Claim, Store, IsIn}
use Rattle.db_base.specs.declared.names.Lock.TheVariants as lock
use Rattle.tree_phases.specs.declared.folding.Folding.{Folding}
use Rattle.session_facts.proofs.Machines.Runs.Marks.{delete_stays}
use Rattle.tree_ckpt.specs.Making.{Making}
use Rattle.session_facts.specs.Machines.TreeCheckpoints.Knows.{IsUnder, KnowsOnward, KnowsWork, KnowsMaking, leases_of_making}
use Rattle.session_facts.specs.Machines.Trees.Leaves.{KnowsLeaf}
use Rattle.cloud_facts.specs.Calls.Others.{Others}
use Rattle.session_facts.proofs.Machines.Trees.Others.{root_stays}
use Rattle.session_facts.proofs.Machines.Folds.Others.{reading_others, putting_others, rest_others, come_others, getting_others}
use Rattle.session_facts.proofs.Machines.Risings.Others.{rising_others}
use Rattle.cloud_facts.proofs.Calls.Guarding.{others_itself}
use Rattle.tree_ckpt.specs.declared.work.Held.{Held}
use Rattle.tree_ckpt.specs.declared.work.Onward.{Onward}
use Rattle.tree_ckpt.specs.declared.work.Onward.TheVariants as onward
use Rattle.tree_ckpt.specs.declared.work.Work.{Work}
use Rattle.tree_ckpt.specs.declared.work.Work.TheVariants.{TakingTree, GettingTree, Receiving, Descending, TakingPage, Folding as FoldingLeaf, ReleasingPage, LeftPage, Rising, Deleting, Releasing, Finished}
use Rattle.tree_ckpt.specs.Work.{claims_in}
use Rattle.tree_phases.specs.Read.{tree_held}

-- the lock of the tree that is known of
pub lock_of : (tree known : ℕ) (lease : Claim) → IsUnder tree lease known → lease.lock ≡ lock.Tree known
lock_of tree known lease under = under.lock_is ∙ ap lock.Tree (sym under.tree_is)

module _ (st su : Store) (now later tree : ℕ) (after : now ≤ later) where
  onward_others : (mine : List Claim) (h : Held) (o : Onward) → IsIn mine h.lease → Others mine later st su → KnowsOnward st now tree h o → KnowsOnward su later tree h o
  onward_others mine h (onward.Right c) held o k =
      (k.0, come_others mine st su now later h.lease c h.deletions.ids after held (lock_of tree c.chart.tree h.lease k.0) o k.1)
  onward_others mine h (onward.Handled c) held o k = (k.0, rest_others mine st su now later h.lease c h.deletions.ids after held (lock_of tree c.tree h.lease k.0) o k.1)

  leaf_others : (mine : List Claim) (h : Held) (f : Folding) → IsIn mine h.lease → IsIn mine f.lease → h.lease.lock ≡ lock.Tree f.chart.tree → Others mine later st su
      → KnowsLeaf st now h.lease f h.deletions.ids → KnowsLeaf su later h.lease f h.deletions.ids
  leaf_others mine h f held own is o (inl reading) = inl (reading_others mine st su now later h.lease f h.deletions.ids after held is o reading)
  leaf_others mine h f held own is o (inr putting) = inr (putting_others mine st su now later h.lease f h.deletions.ids after held is own o putting)

  pub work_others : (w : Work) → Others (claims_in w) later st su → KnowsWork st now tree w → KnowsWork su later tree w
  work_others TakingTree o k = k
  work_others (GettingTree l) o k = k
  work_others (Receiving l root) o k =
      (k.0, root_stays st su now later l tree (tree_held root) after o.passes.grows (o.roots l tree (zero, refl) k.0) k.1)
  work_others (Descending h d) o k =
      (k.0, getting_others (h.lease ∷ []) st su now later h.lease d h.deletions.ids after (zero, refl) (lock_of tree d.chart.tree h.lease k.0) o k.1)
  work_others (TakingPage h c) o k =
      (k.0, come_others (h.lease ∷ []) st su now later h.lease c h.deletions.ids after (zero, refl) (lock_of tree c.chart.tree h.lease k.0) o k.1)
  work_others (FoldingLeaf h f) o k =
      (k.0, leaf_others (f.lease ∷ h.lease ∷ []) h f (suc zero, refl) (zero, refl) (lock_of tree f.chart.tree h.lease k.0) o k.1)
  work_others (ReleasingPage h l way) o k = (k.0, onward_others (l ∷ h.lease ∷ []) h way (suc zero, refl) o k.1)
  work_others (LeftPage h way) o k = absurd k
  work_others (Rising h r) o k =
      (k.0, rising_others (h.lease ∷ []) st su now later h.lease r h.deletions.ids after (zero, refl) (lock_of tree r.chart.tree h.lease k.0) o k.1)
  work_others (Deleting h applied) o k = (k.0, delete_stays st su tree 0 h.deletions.ids o.passes.grows k.1, k.2)
  work_others (Releasing held end) o k = k
  work_others Finished o k = absurd k

pub making_others : (st su : Store) (now later : ℕ) (m : Making) → now ≤ later → Others (leases_of_making m) later st su → KnowsMaking st now m → KnowsMaking su later m
making_others st su now later m after o k = record { tree = k.tree; work = work_others st su now later m.tree after m.work o k.work }

-- time goes on
pub making_later : (st : Store) (now later : ℕ) (m : Making) → now ≤ later → KnowsMaking st now m → KnowsMaking st later m
making_later st now later m after k = making_others st st now later m after (others_itself (leases_of_making m) later st) k
