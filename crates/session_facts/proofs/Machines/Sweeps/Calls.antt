-- A sweep from call to call, by the cloud that it began over: it leaves all but pages that nothing reached, and once none of these is left, just the reached
-- pages have bytes, also behind the release that it ends with.
use Rattle.std.proofs.Common.{◌≡◌, ℕ, List, Option, Some, None, sym, subst, ◌∙◌}
use Rattle.cloud_facts.specs.Words.{Entry, Answer, CloudState, called, Caller, Claim, Lasts, Goes, Ends, Stops, Book, store_of, IsCall, StandsUnder}
use Rattle.cloud_facts.specs.Homes.Homes.{Part}
use Rattle.cloud_trait.proofs.RowLemmas.{row_versions}
use Rattle.cloud_trait.specs.Ask.{PutsNothing}
use Rattle.cloud_trait.specs.declared.answer.Answer.TheVariants.{Done}
use Rattle.orphan_sweep.proofs.Outcomes.{leased, Clears, listed, removed, Comes, takes, refused, stops, reads_on, has_read, removes, rests, ends, stopped, nothing, came_by}
use Rattle.orphan_sweep.specs.declared.stage.Stage.{Stage}
use Rattle.orphan_sweep.specs.declared.stage.Stage.TheVariants.{Removing, Releasing}
use Rattle.orphan_sweep.specs.declared.swept.Swept.{Swept}
use Rattle.orphan_sweep.specs.Leases.{HoldsAt}
use Rattle.orphan_sweep.specs.Sweeping.{Sweeping, Step, remove_next, ask_at, sweep_ask, sweep_next}
use Rattle.session_facts.specs.Machines.Sweeps.Remains.{Remains, AreJustReached}
use Rattle.session_facts.specs.Machines.Sweeps.Knows.{IsCleared, KnowsAt, KnowsSweep}
use Rattle.session_facts.proofs.Machines.Sweeps.Asks.{same_tree}
use Rattle.session_facts.proofs.Machines.Sweeps.Swept.{ended_at, under_known}
use Rattle.session_facts.proofs.Machines.Sweeps.Leases.{held_at}
use Rattle.session_facts.proofs.Machines.Sweeps.Remains.{itself_remains, same_just, call_remains, just_reached}

-- ---- the lease lasted at the call behind which it is given back without a trouble

clears_lasts : (who : Caller) (s t : CloudState) (m : Sweeping) (a : Answer) (q : Sweeping) → Clears m a q → IsCall who (sweep_ask m) a s t → HoldsAt m.stage m m.held → (l : Claim)
    → q.held ≡ Some l → Lasts t.now l
clears_lasts who s t _ _ _ (listed m (Some h) pages) call own l e = let same : h ≡ l = cc (e) in subst (λ (x : Claim). Lasts t.now x) same call.row.1
clears_lasts who s t _ _ _ (listed m None pages) call own l e = absurd own
clears_lasts who s t _ _ _ (removed m (Some h)) call own l e =
    let same : h ≡ l = cc (e) in
    subst (λ (x : Claim). Lasts t.now x) same (subst (λ (o : Option ℕ). IsCall who (remove_next (leased m Removing (Some h)) h o) Done s t) own.1.1 call).row.1
clears_lasts who s t _ _ _ (removed m None) call own l e = absurd own.0

abbrev RestsLasting : ℕ → Step → Type 0
RestsLasting now (Goes n) = n.stage ≡ Releasing → n.trouble ≡ None → (l : Claim) → n.held ≡ Some l → Lasts now l
RestsLasting now (Ends n x) = Unit {0}
RestsLasting now (Stops n k) = Unit {0}

rests_lasting : (who : Caller) (s t : CloudState) (m : Sweeping) (a : Answer) (next : Step) → Comes m a next → IsCall who (sweep_ask m) a s t → HoldsAt m.stage m m.held
    → RestsLasting t.now next
rests_lasting who s t _ _ _ (takes m held l) call own = λ at none x e. absurd (cc (at))
rests_lasting who s t _ _ _ (refused m held a k e) call own = tt
rests_lasting who s t m a _ (stops k fails) call own = λ at none x e. absurd (cc (none))
rests_lasting who s t m a _ (reads_on spot on new) call own = λ at none x e. absurd (cc (at))
rests_lasting who s t m a _ (has_read on) call own = λ at none x e. absurd (cc (at))
rests_lasting who s t m a _ (removes q page c there) call own = λ at none x e. absurd (cc (at))
rests_lasting who s t m a _ (rests q c end) call own = λ at none x e. clears_lasts who s t m a q c call own x e
rests_lasting who s t _ _ _ (ends m held a none) call own = tt
rests_lasting who s t _ _ _ (stopped m held a k some) call own = tt
rests_lasting who s t _ _ _ (nothing m held a) call own = tt

-- ---- from call to call

-- how a sweep of a tree that began over a cloud stands over another one
pub record SweepsFrom (start : CloudState) (tree : ℕ) (m : Sweeping) (s : CloudState) : Type 0 where
  pub of : m.tree ≡ tree
  pub remains : Remains start s tree
  pub just : m.stage ≡ Releasing → m.trouble ≡ None → AreJustReached start s tree

module _ (start : CloudState) (tree : ℕ) (who : Caller) (s t : CloudState) (book : Book) (order : List Entry) (stands : StandsUnder book order s) (m : Sweeping) (part : Part)
    (knows : KnowsSweep (store_of book order s) s.now m part) (reply : Answer) (call : IsCall who (sweep_ask m) reply s t) (f : SweepsFrom start tree m s) where
  -- wherever it leads
  pub leaves_remaining : Remains start t tree
  leaves_remaining =
      subst (λ (k : ℕ). Remains start t k) f.of
      (call_remains start who s t book order stands m reply knows.tree (subst (λ (k : ℕ). Remains start s k) (sym f.of) f.remains) part knows call)

  module _ (n : Sweeping) (leads : sweep_next m reply ≡ Goes n) (book_after : Book) (order_after : List Entry) (stands_after : StandsUnder book_after order_after t) (part_after : Part)
      (knows_after : KnowsSweep (store_of book_after order_after t) t.now n part_after) where
    of_next : n.tree ≡ tree
    of_next = same_tree m reply n leads ∙ f.of

    rests_just : n.stage ≡ Releasing → n.trouble ≡ None → AreJustReached start t tree
    rests_just at none =
        let st = store_of book_after order_after t in
        let there : KnowsAt Releasing st t.now n = subst (λ (stage : Stage). KnowsAt stage st t.now n) at knows_after.at in
        let u = under_known n.tree t.now n.held (n.trouble ≡ None → IsCleared st n) there in
        let lasts : Lasts t.now u.0 =
        rests_lasting who s t m reply (Goes n) (came_by m reply (Goes n) leads) call (held_at m.stage (store_of book order s) s.now m knows.at) at none u.0 u.1 in
        subst (λ (k : ℕ). AreJustReached start t k) of_next
        (just_reached start t book_after order_after stands_after n knows_after.tree (subst (λ (k : ℕ). Remains start t k) (sym of_next) leaves_remaining) (u.2 lasts none))

    pub goes_from : SweepsFrom start tree n t
    goes_from = record { of = of_next; remains = leaves_remaining; just = rests_just }

  -- its lease is given back: no version changes
  gives_back : (held : Option Claim) → PutsNothing (ask_at Releasing (record m { held = held }))
  gives_back (Some l) = tt
  gives_back None = tt

  pub ends_just : (n : Sweeping) (x : Swept) → sweep_next m reply ≡ Ends n x → AreJustReached start t tree
  ends_just n x leads =
      let end = ended_at m reply (Ends n x) (came_by m reply (Ends n x) leads) in
      let puts : PutsNothing (sweep_ask m) = subst (λ (stage : Stage). PutsNothing (ask_at stage m)) (sym end.0) (gives_back m.held) in
      same_just start s t tree (row_versions who (sweep_ask m) reply call.before call.after (called who t.now s) t call.row puts) (f.just end.0 end.1)

-- before its first call
pub begins_from : (s : CloudState) (tree : ℕ) (m : Sweeping) → m.tree ≡ tree → (m.stage ≡ Releasing → ⊥) → SweepsFrom s tree m s
begins_from s tree m of never = record { of = of; remains = itself_remains s tree; just = λ at. absurd (never at) }
