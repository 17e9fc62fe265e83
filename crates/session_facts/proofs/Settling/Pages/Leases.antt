-- The leases of a page checkpoint: those that it took and did not give back; it takes no lock of one of them.
use Rattle.std.proofs.Common.{◌≡◌, ◌≢◌, inl, inr, ℕ, refl, sym, subst, ◌∙◌}
use Rattle.ckpt_parts.specs.declared.leases.Leases.{Leases}
use Rattle.ckpt_parts.specs.Leasing.{claims_of, outstanding_after}
use Rattle.cloud_facts.specs.Words.{Answer, Claim, Store}
use Rattle.db_base.specs.declared.names.Lock.TheVariants as lock
use Rattle.page_ckpt.specs.declared.stage.Stage.{Stage}
use Rattle.page_ckpt.specs.declared.stage.Stage.TheVariants.{TakingHome, TakingRight, ReleasingRight, Releasing, Finished}
use Rattle.page_ckpt.specs.Paging.{Paging, Step, ask_at, paging_ask, PagingLeads}
use Rattle.page_ckpt.proofs.Outcomes.{comes}
use Rattle.session_facts.specs.Machines.PageCheckpoints.Knows.{KnowsPagingAt, KnowsPaging, leases_of_paging}
use Rattle.session_facts.specs.Settling.Locks.{HasNone, UsesOwn}
use Rattle.session_facts.proofs.Machines.PageCheckpoints.Held.{quiet, on_left}
use Rattle.session_facts.proofs.Settling.Locks.{HoldsNext, quiet_uses, none_of, one_of}

-- a lock of another page
page_no_other : (l : Claim) (tree page right : ℕ) → l.lock ≡ lock.Page tree page → right ≢ page → l.lock ≢ lock.Page tree right
page_no_other l tree page right is other e =
    let same : lock.Page tree page ≡ lock.Page tree right = sym is ∙ e in
    let numbers : page ≡ right = cc in
    other (sym numbers)

-- by the stage: it takes a lock that it has no lease of, or gives the newest lease back, or moves no lock
uses_at : (st : Store) (now : ℕ) (stage : Stage) (p : Paging) → KnowsPagingAt stage st now p → UsesOwn (ask_at stage p) (leases_of_paging p)
uses_at st now TakingHome p k = subst (λ (h : Leases). HasNone (claims_of h) (lock.Page p.tree p.page)) (sym k.0) (none_of (lock.Page p.tree p.page))
uses_at st now TakingRight p k =
    subst (λ (h : Leases). HasNone (claims_of h) (lock.Page p.tree p.at.page)) (sym k.0.is)
    (one_of k.0.lease (lock.Page p.tree p.at.page) (page_no_other k.0.lease p.tree p.page p.at.page k.0.lock_is k.1.elsewhere))
uses_at st now ReleasingRight p k = subst (λ (h : Leases). UsesOwn (ask_at ReleasingRight (record p { held = h })) (claims_of h)) (sym k.0.is) refl
uses_at st now Releasing p (inl has) = subst (λ (h : Leases). UsesOwn (ask_at Releasing (record p { held = h })) (claims_of h)) (sym has.is) refl
uses_at st now Releasing p (inr (right, has)) = subst (λ (h : Leases). UsesOwn (ask_at Releasing (record p { held = h })) (claims_of h)) (sym has.is) refl
uses_at st now Finished p k = absurd k
uses_at st now stage p k = quiet_uses (ask_at stage p) (leases_of_paging p) (quiet st now stage p k tt)

pub paging_uses : (st : Store) (now : ℕ) (p : Paging) → KnowsPaging st now p → UsesOwn (paging_ask p) (leases_of_paging p)
paging_uses st now p k = uses_at st now p.stage p k.at

pub paging_holds : (st : Store) (now : ℕ) (p : Paging) → KnowsPaging st now p → (a : Answer) (next : Step) → PagingLeads p a next
    → HoldsNext leases_of_paging (outstanding_after (paging_ask p) a (leases_of_paging p)) next
paging_holds st now p k a next leads = on_left st now (comes p a next leads) k.at
