-- Which leases a page checkpoint goes on with: those that its call leaves outstanding.
use Rattle.std.proofs.Common.{◌≡◌, inl, inr, ℕ, List, [], ◌∷◌, Option, Some, None, refl, sym, ap, subst, ◌∙◌}
use Rattle.ckpt_parts.specs.declared.leases.Leases.{Leases}
use Rattle.ckpt_parts.specs.Deleting.{next_id}
use Rattle.ckpt_parts.specs.Leasing.{claims_of, outstanding_after}
use Rattle.cloud_facts.specs.Words.{Trouble, Answer, Claim, Store}
use Rattle.cloud_trait.specs.Ask.{MovesNoLock}
use Rattle.db_base.specs.declared.names.Lock.TheVariants as lock
use Rattle.page_ckpt.specs.declared.link.Link.{Link}
use Rattle.page_ckpt.specs.declared.stage.Stage.{Stage}
use Rattle.page_ckpt.specs.declared.stage.Stage.TheVariants.{GettingHome, Receiving, GettingRight, PuttingRight, ReleasingRight, PuttingHome, Deleting as DeletingNext, Releasing}
use Rattle.page_ckpt.specs.Paging.{Paging, Step, ask_at, paging_ask, delete_next}
use Rattle.page_ckpt.proofs.Outcomes.{leased, IsLast, Onward, Clears, Fails, Comes}
use Rattle.page_ckpt.proofs.Outcomes as step
use Rattle.session_facts.specs.Machines.PageCheckpoints.Knows.{HasLeases, KnowsPagingAt, leases_of_paging}
use Rattle.session_facts.proofs.Settling.Locks.{HoldsNext, quiet_after, not_given}

-- the call in hand moves no lock
abbrev pub LeavesLocks : Stage → Type 0
LeavesLocks GettingHome = Unit {0}
LeavesLocks Receiving = Unit {0}
LeavesLocks GettingRight = Unit {0}
LeavesLocks PuttingRight = Unit {0}
LeavesLocks PuttingHome = Unit {0}
LeavesLocks DeletingNext = Unit {0}
LeavesLocks stage = ⊥

-- the leases that are outstanding behind the call in hand
abbrev pub left_by : Paging → Answer → List Claim
left_by p a = outstanding_after (paging_ask p) a (leases_of_paging p)

-- behind the last release none is
none_left : (p : Paging) (first second : Option Claim) (a : Answer) → HasLeases (leased p Releasing first second) → IsLast first second
    → left_by (leased p Releasing first second) a ≡ []
none_left p first second a (inl has) last = subst (λ (h : Leases). left_by (leased p Releasing h.first h.second) a ≡ []) (sym has.is) refl
none_left p first second a (inr (right, has)) last = absurd (subst (λ (h : Leases). IsLast h.first h.second) has.is last)

module _ (st : Store) (now : ℕ) where
  pub quiet : (stage : Stage) (p : Paging) → KnowsPagingAt stage st now p → LeavesLocks stage → MovesNoLock (ask_at stage p)
  quiet GettingHome p k is = subst (λ (h : Leases). MovesNoLock (ask_at GettingHome (record p { held = h }))) (sym k.0.is) tt
  quiet Receiving p k is = tt
  quiet GettingRight p k is = subst (λ (h : Leases). MovesNoLock (ask_at GettingRight (record p { held = h }))) (sym k.0.is) tt
  quiet PuttingRight p k is = subst (λ (h : Leases). MovesNoLock (ask_at PuttingRight (record p { held = h }))) (sym k.0.is) tt
  quiet PuttingHome p k is = subst (λ (h : Leases). MovesNoLock (ask_at PuttingHome (record p { held = h }))) (sym k.0.is) tt
  quiet DeletingNext p (has, each, (id, rest, is_next)) is = subst (λ (ids : List ℕ). MovesNoLock (delete_next p (next_id ids))) (sym is_next) tt
  quiet stage p k never = absurd never

  -- so it leaves the leases as they are
  still : (p : Paging) (a : Answer) → KnowsPagingAt p.stage st now p → LeavesLocks p.stage → leases_of_paging p ≡ left_by p a
  still p a k is = sym (quiet_after (paging_ask p) a (leases_of_paging p) (quiet p.stage p k is))

  -- ---- local work

  onward_left : {p q : Paging} {a : Answer} {o : Option Link} → Onward p a q o → KnowsPagingAt p.stage st now p → leases_of_paging q ≡ left_by p a
  onward_left (step.with_run p first second ms i read some) k = refl
  onward_left (step.from_right p first second a) k =
      subst (λ (h : Leases). claims_of (record h { second = None }) ≡ left_by (leased p ReleasingRight h.first h.second) a) (sym k.0.is) refl

  clears_left : {p q : Paging} {a : Answer} → Clears p a q → KnowsPagingAt p.stage st now p → leases_of_paging q ≡ left_by p a
  clears_left (step.no_run p first second ms i read none) k = refl
  clears_left {p = p} {a = a} c k = still p a k tt

  fails_left : {p q : Paging} {a : Answer} {t : Trouble} → Fails p a q t → KnowsPagingAt p.stage st now p → leases_of_paging q ≡ left_by p a
  fails_left {p = from} (step.no_lease p first second a t e) k = sym (not_given (lock.Page p.tree p.at.page) 30 a (leases_of_paging from) t e)
  fails_left (step.round link on seen) k = onward_left on k
  fails_left (step.home_spent on spent) k = onward_left on k
  fails_left {p = p} {a = a} f k = still p a k tt

  -- ---- a step

  pub on_left : {p : Paging} {a : Answer} {next : Step} → Comes p a next → KnowsPagingAt p.stage st now p → HoldsNext leases_of_paging (left_by p a) next
  on_left (step.takes_home p first second l) k = ap (λ (h : Leases). l ∷ claims_of h) (sym k.0)
  on_left {p = from} (step.refused p first second a t e) k = not_given (lock.Page p.tree p.page) 30 a (leases_of_paging from) t e ∙ ap claims_of k.0
  on_left (step.stops q t f) k = fails_left f k
  on_left (step.turns q link on new) k = onward_left on k
  on_left (step.takes_right p first second r) k = subst (λ (h : Leases). claims_of (record h { second = Some r }) ≡ r ∷ claims_of h) (sym k.0.is) refl
  on_left (step.puts_home q out on fresh is) k = onward_left on k
  on_left (step.deletes q id c some) k = clears_left c k
  on_left (step.rests q c none) k = clears_left c k
  on_left (step.gives_back p l r a) k = refl
  on_left (step.ends p first second a last none) k = none_left p first second a k last
  on_left (step.stopped p first second a t last kept) k = none_left p first second a k last
  on_left (step.nothing p first second a) k = absurd k
  on_left {p = p} {a = a} c k = still p a k tt
