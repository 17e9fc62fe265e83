-- The lease that a sweep's call names is its own and guards what it removes, and none is new but the one that it was given.
use Rattle.std.proofs.Common.{◌≡◌, ◌≤◌, inl, inr, ℕ, zero, List, [], ◌∷◌, Option, Some, None, refl, sym, ap, subst}
use Rattle.cloud_facts.specs.Words.{Trouble, Answer, CloudState, Caller, Claim, Take, Store, IsIn}
use Rattle.cloud_facts.specs.Calls.Acting.{exchange, Handles}
use Rattle.cloud_facts.specs.Homes.Homes.{Part}
use Rattle.cloud_facts.specs.Leases.Leases.{GainedBy}
use Rattle.cloud_facts.proofs.Book.Places.{get_single, in_none}
use Rattle.cloud_trait.specs.declared.answer.Answer.TheVariants.{Given}
use Rattle.db_base.specs.declared.names.Lock.TheVariants as lock
use Rattle.orphan_sweep.proofs.Outcomes.{leased, Onward, Clears, Fails, Comes, came_by}
use Rattle.orphan_sweep.proofs.Outcomes as step
use Rattle.orphan_sweep.specs.declared.spot.Spot.{Spot}
use Rattle.orphan_sweep.specs.declared.stage.Stage.{Stage}
use Rattle.orphan_sweep.specs.declared.stage.Stage.TheVariants.{TakingTree, GettingTree, Reading, Listing, Removing, Releasing, Finished}
use Rattle.orphan_sweep.specs.Leases.{claims_of}
use Rattle.orphan_sweep.specs.Sweeping.{Sweeping, Step, next_orphan, remove_next, ask_at, sweep_ask, sweep_next}
use Rattle.session_facts.specs.Machines.Sweeps.Knows.{KnowsAt, KnowsSweep, leases_of_sweep, leases_next}
use Rattle.session_facts.proofs.Machines.Sweeps.Others.{sweep_later}

-- ---- what a step leaves in hand

-- a take gave it; else it was in hand, and it was not given back
abbrev IsKept : Stage → Answer → Option Claim → Claim → Type 0
IsKept TakingTree a held x = a ≡ Given x
IsKept Releasing a held x = ⊥
IsKept stage a held x = IsIn (claims_of held) x

abbrev Keeps : Sweeping → Answer → List Claim → Type 0
Keeps s a left = (x : Claim) → IsIn left x → IsKept s.stage a s.held x

onward_keeps : {s : Sweeping} {a : Answer} {o : Option Spot} → Onward s a o → Keeps s a (claims_of s.held)
onward_keeps (step.from_root s held got root e) x is = is
onward_keeps (step.from_page s held got paths e) x is = is

clears_keeps : {s q : Sweeping} {a : Answer} → Clears s a q → Keeps s a (claims_of q.held)
clears_keeps (step.listed s held pages) x is = is
clears_keeps (step.removed s held) x is = is

fails_keeps : {s : Sweeping} {a : Answer} {t : Trouble} → Fails s a t → Keeps s a (claims_of s.held)
fails_keeps (step.round spot on seen) x is = onward_keeps on x is
fails_keeps f x is = is

keeps : {s : Sweeping} {a : Answer} {next : Step} → Comes s a next → Keeps s a (leases_next next)
keeps (step.takes s held l) x is = ap (λ (c : Claim). Given c) (get_single l is.0 x is.1)
keeps (step.stops t f) x is = fails_keeps f x is
keeps (step.reads_on spot on new) x is = onward_keeps on x is
keeps (step.has_read on) x is = onward_keeps on x is
keeps (step.removes q page c e) x is = clears_keeps c x is
keeps (step.rests q c e) x is = clears_keeps c x is
keeps c x is = absurd (in_none [] x refl is)

-- a take renews no lease, whichever
abbrev any_lease : ℕ → Claim
any_lease tree = record { lock = lock.Tree tree; generation = 0; end = 0 }

-- ---- by where it stands

module _ (who : Caller) (s t : CloudState) (st : Store) (m : Sweeping) (reply : Answer) (after : List Claim) where
  abbrev Hand : Stage → Option Claim → Type 0
  Hand stage held = Handles (exchange who s t (ask_at stage (leased m stage held)) reply) (claims_of held) after

  hands_at : (stage : Stage) (held : Option Claim) → KnowsAt stage st t.now (leased m stage held) → ((x : Claim) → IsIn after x → IsKept stage reply held x) → Hand stage held
  hands_at TakingTree None k kept = record {
    owns = tt;
    guarded = tt;
    renewed = any_lease m.tree;
    renews = tt;
    own = λ x is. inr (subst (λ (a : Answer). GainedBy (Take (lock.Tree m.tree) 60) a (any_lease m.tree) x) (sym (kept x is)) refl);
  }
  hands_at TakingTree (Some l) k kept = absurd k.0
  hands_at GettingTree (Some l) k kept = record { owns = (zero, refl); guarded = tt; renewed = l; renews = tt; own = λ x is. inl (kept x is, tt) }
  hands_at GettingTree None k kept = absurd k.0
  hands_at Reading (Some l) k kept = record { owns = (zero, refl); guarded = tt; renewed = l; renews = tt; own = λ x is. inl (kept x is, tt) }
  hands_at Reading None k kept = absurd k
  hands_at Listing (Some l) k kept = record { owns = (zero, refl); guarded = tt; renewed = l; renews = tt; own = λ x is. inl (kept x is, tt) }
  hands_at Listing None k kept = absurd k
  hands_at Removing (Some l) k kept =
      let next : next_orphan m ≡ Some k.1.0 = k.1.1 in
      subst (λ (o : Option ℕ). Handles (exchange who s t (remove_next (leased m Removing (Some l)) l o) reply) (l ∷ []) after) (sym next)
      (record { owns = (zero, refl); guarded = λ lasts. k.0.0; renewed = l; renews = tt; own = λ x is. inl (kept x is, tt) })
  hands_at Removing None k kept = absurd k.0
  hands_at Releasing (Some l) k kept = record { owns = (zero, refl); guarded = tt; renewed = l; renews = tt; own = λ x is. absurd (kept x is) }
  hands_at Releasing None k kept = absurd k
  hands_at Finished held k kept = absurd k

-- a call of a sweep, and the lease in hand where its answer leads
pub sweep_handles : (who : Caller) (s t : CloudState) (st : Store) (m : Sweeping) (part : Part) (reply : Answer) → s.now ≤ t.now → KnowsSweep st s.now m part → (next : Step)
    → sweep_next m reply ≡ next → Handles (exchange who s t (sweep_ask m) reply) (leases_of_sweep m) (leases_next next)
sweep_handles who s t st m part reply later k next leads =
    hands_at who s t st m reply (leases_next next) m.stage m.held (sweep_later st s.now t.now m part later k).at (keeps (came_by m reply next leads))

-- wherever it leads, and also where memory ran out, it may be let go
pub sweep_drops : (who : Caller) (s t : CloudState) (st : Store) (m : Sweeping) (part : Part) (reply : Answer) → s.now ≤ t.now → KnowsSweep st s.now m part
    → Handles (exchange who s t (sweep_ask m) reply) (leases_of_sweep m) []
sweep_drops who s t st m part reply later k =
    hands_at who s t st m reply [] m.stage m.held (sweep_later st s.now t.now m part later k).at (λ x is. absurd (in_none [] x refl is))
