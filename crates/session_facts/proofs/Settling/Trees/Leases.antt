-- The leases of a tree checkpoint: those that it took and did not give back; it takes no lock of one of them.
use Rattle.std.proofs.Common.{◌≡◌, ◌≢◌, ℕ, [], ◌∷◌, Option, Some, None, refl, sym, ◌∙◌}
use Rattle.ckpt_parts.specs.Deleting.{next_id}
use Rattle.ckpt_parts.specs.Leasing.{claims_of, newest_lease, outstanding_after}
use Rattle.cloud_facts.specs.Words.{Answer, Claim, Next, Goes, Ends, Stops, Store}
use Rattle.cloud_trait.specs.declared.turn.CkptAnswer.{CkptAnswer}
use Rattle.db_base.specs.declared.names.Lock.TheVariants as lock
use Rattle.tree_phases.specs.Folding.{folding_ask}
use Rattle.session_facts.specs.Settling.Locks.{UsesOwn}
use Rattle.session_facts.specs.Machines.TreeCheckpoints.Knows.{HoldsLast, KnowsWork, KnowsMaking, leases_of_making}
use Rattle.session_facts.proofs.Settling.Locks.{HoldsNext, quiet_uses, none_of, one_of}
use Rattle.session_facts.proofs.Machines.TreeCheckpoints.Held.{leaf_quiet, up_quiet, delete_quiet, on_left}
use Rattle.tree_ckpt.specs.Making.{Making, making_ask, MakingLeads}
use Rattle.tree_ckpt.specs.Leases.{OfTree}
use Rattle.tree_ckpt.proofs.Outcomes.{comes}
use Rattle.tree_ckpt.specs.declared.work.Work.{Work}
use Rattle.tree_ckpt.specs.declared.work.Work.TheVariants as work
use Rattle.tree_ckpt.specs.Work.{delete_ask, release_ask, work_ask, claims_in}
use Rattle.tree_phases.specs.Rising.{rising_ask}

-- ---- the call in hand

-- a tree's lock is no page's
tree_no_page : (l : Claim) (tree of page : ℕ) → OfTree tree l → l.lock ≢ lock.Page of page
tree_no_page l tree of page is e = absurd (let other : lock.Tree tree ≡ lock.Page of page = sym is ∙ e in cc (other))

last_uses : (tree : ℕ) (first second : Option Claim) → HoldsLast tree first second
    → UsesOwn (release_ask tree (newest_lease (record { first = first; second = second }))) (claims_of (record { first = first; second = second }))
last_uses tree (Some l) (Some leaf) own = refl
last_uses tree (Some l) None own = refl
last_uses tree None second never = absurd never

work_uses : (st : Store) (now tree : ℕ) (w : Work) → KnowsWork st now tree w → UsesOwn (work_ask tree w) (claims_in w)
work_uses st now tree work.TakingTree k = none_of (lock.Tree tree)
work_uses st now tree (work.GettingTree l) k = tt
work_uses st now tree (work.Receiving l root) k = tt
work_uses st now tree (work.Descending h d) k = tt
work_uses st now tree (work.TakingPage h c) k = one_of h.lease (lock.Page c.chart.tree c.page) (tree_no_page h.lease tree c.chart.tree c.page k.0.lock_is)
work_uses st now tree (work.Folding h f) k = quiet_uses (folding_ask f h.lease) (f.lease ∷ h.lease ∷ []) (leaf_quiet f h.lease)
work_uses st now tree (work.ReleasingPage h l o) k = refl
work_uses st now tree (work.LeftPage h o) k = absurd k
work_uses st now tree (work.Rising h r) k = quiet_uses (rising_ask r h.lease) (h.lease ∷ []) (up_quiet r h.lease)
work_uses st now tree (work.Deleting h applied) k = quiet_uses (delete_ask tree (next_id h.deletions.ids)) (h.lease ∷ []) (delete_quiet tree h.deletions.ids k.2)
work_uses st now tree (work.Releasing held end) k = last_uses tree held.first held.second k.0
work_uses st now tree work.Finished k = absurd k

pub making_uses : (st : Store) (now : ℕ) (m : Making) → KnowsMaking st now m → UsesOwn (making_ask m) (leases_of_making m)
making_uses st now m k = work_uses st now m.tree m.work k.work

-- ---- one step

pub making_holds : (st : Store) (now : ℕ) (m : Making) → KnowsMaking st now m → (a : Answer) (next : Next Making CkptAnswer) → MakingLeads m a next
    → HoldsNext leases_of_making (outstanding_after (making_ask m) a (leases_of_making m)) next
making_holds st now m k a (Goes n) leads = on_left st now m.tree k.work (comes m.tree m.work a (Goes n.work) leads.1)
making_holds st now m k a (Ends n x) leads = on_left st now m.tree k.work (comes m.tree m.work a (Ends n.work x) leads.1)
making_holds st now m k a (Stops n t) leads = on_left st now m.tree k.work (comes m.tree m.work a (Stops n.work t) leads.1)
