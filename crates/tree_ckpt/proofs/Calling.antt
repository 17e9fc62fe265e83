-- The call in hand, and the lease that it gives back.
use Rattle.std.proofs.Common.{◌≡◌, ℕ, Option, Some, None, refl, ap}
use Rattle.cloud_trait.specs.Ask.{Release}
use Rattle.cloud_trait.specs.Claim.{Claim}
use Rattle.ckpt_parts.specs.Leasing.{newest_lease, without_newest}
use Rattle.tree_ckpt.specs.declared.work.Work.{Work}
use Rattle.tree_ckpt.specs.declared.work.Work.TheVariants.{TakingTree, GettingTree, Receiving, Descending, TakingPage, Folding, ReleasingPage, LeftPage, Rising as GoingUp, Deleting, Releasing, Finished}
use Rattle.tree_ckpt.specs.Work.{work_ask, release_ask, handed, leaving}

-- and it leaves what is in hand
pub stays : (w : Work) → leaving w ≡ None → handed w ≡ w
stays TakingTree e = refl
stays (GettingTree l) e = refl
stays (Receiving l root) e = refl
stays (Descending h d) e = refl
stays (TakingPage h c) e = refl
stays (Folding h f) e = refl
stays (ReleasingPage h l o) e = absurd (cc (e))
stays (LeftPage h o) e = refl
stays (GoingUp h r) e = refl
stays (Deleting h applied) e = refl
stays (Releasing held end) e = on held.first held.second e where
  on : (first second : Option Claim) → newest_lease (record { first = first; second = second }) ≡ None
      → Releasing (without_newest (record { first = first; second = second })) end ≡ Releasing (record { first = first; second = second }) end
  on None None f = refl
  on None (Some r) f = absurd (cc (f))
  on (Some l) None f = absurd (cc (f))
  on (Some l) (Some r) f = absurd (cc (f))
stays Finished e = refl

-- a lease that leaves is given back
pub gives : (tree : ℕ) (w : Work) (l : Claim) → leaving w ≡ Some l → work_ask tree w ≡ Release l
gives tree TakingTree l e = absurd (cc (e))
gives tree (GettingTree k) l e = absurd (cc (e))
gives tree (Receiving k root) l e = absurd (cc (e))
gives tree (Descending h d) l e = absurd (cc (e))
gives tree (TakingPage h c) l e = absurd (cc (e))
gives tree (Folding h f) l e = absurd (cc (e))
gives tree (ReleasingPage h k o) l e = let same : k ≡ l = cc (e) in ap Release same
gives tree (LeftPage h o) l e = absurd (cc (e))
gives tree (GoingUp h r) l e = absurd (cc (e))
gives tree (Deleting h applied) l e = absurd (cc (e))
gives tree (Releasing held end) l e = ap (release_ask tree) e
gives tree Finished l e = absurd (cc (e))
