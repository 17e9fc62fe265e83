-- Where the answer to a call of a sweep leads, by what was known before it and by what it brought.
use Rattle.std.proofs.Common.{◌≡◌, ◌≤◌, ◌⊎◌, inl, inr, ℕ, length, Option, Some, None, refl, ap, subst, arith}
use Rattle.cloud_facts.specs.Words.{IsTree, Trouble, Answer, CloudState, Caller, Claim, Store, IsCall}
use Rattle.cloud_facts.specs.Homes.Homes.{Part}
use Rattle.db_base.specs.declared.names.Lock.TheVariants as lock
use Rattle.orphan_sweep.proofs.Lists.{past}
use Rattle.orphan_sweep.proofs.Outcomes.{leased, Onward, Clears, Fails, Comes}
use Rattle.orphan_sweep.proofs.Outcomes as step
use Rattle.orphan_sweep.specs.declared.spot.Spot.{Spot}
use Rattle.orphan_sweep.specs.declared.stage.Stage.TheVariants.{TakingTree, Releasing}
use Rattle.orphan_sweep.specs.Sweeping.{Sweeping, Step, sweep_ask}
use Rattle.session_facts.specs.Machines.Sweeps.Knows.{IsClearing, Under, MayStopSweep, KnowsSweep, KnowsNext}
use Rattle.session_facts.proofs.Machines.Sweeps.Onward.{GoesOnTo}
use Rattle.session_facts.proofs.Machines.Refusals.{TakesRefusals, given_may}

-- an answer that brings no value stops it
pub sweep_refusals : TakesRefusals MayStopSweep
sweep_refusals = record { failed = tt; late = λ until now. tt; memory = tt }

-- ---- where it leads

-- so many of the orphans are removed, and the others can be
abbrev pub Stands : Store → Sweeping → Type 0
Stands u q = (q.removed ≤ length q.orphans) × IsClearing u q.tree q.visited q.orphans q.removed

-- the tree's lease is in hand, and no trouble is kept
abbrev IsCalm : ℕ → Sweeping → Type 0
IsCalm now m = IsTree m.tree × Under m.tree now m.held (Unit {0}) × (m.trouble ≡ None)

-- what holds anyway holds while the lease lasts
under : (tree now : ℕ) (held : Option Claim) (K L : Type 0) → Under tree now held K → L → Under tree now held L
under tree now (Some l) K L is k = (is.0, λ lasts. k)
under tree now None K L never k = absurd never

module _ (who : Caller) (s t : CloudState) (st u : Store) (part : Part) where
  abbrev now : ℕ
  now = t.now

  no_trouble : (m : Sweeping) → KnowsSweep st now m part → (m.stage ≡ Releasing → ⊥) → m.trouble ≡ None
  no_trouble m k never = on k.quiet
    where
      on : (m.stage ≡ Releasing) ⊎ (m.trouble ≡ None) → m.trouble ≡ None
      on (inl e) = absurd (never e)
      on (inr none) = none

  calm : (m : Sweeping) (K : Type 0) → KnowsSweep st now m part → (m.stage ≡ Releasing → ⊥) → Under m.tree now m.held K → IsCalm now m
  calm m K k never is = (k.tree, under m.tree now m.held K _ is tt, no_trouble m k never)

  onward_calm : {m : Sweeping} {a : Answer} {o : Option Spot} → KnowsSweep st now m part → Onward m a o → IsCalm now m
  onward_calm {m = m} k (step.from_root n held got root e) = calm m _ k (λ e. cc (e)) k.at.0
  onward_calm {m = m} k (step.from_page n held got paths e) = calm m _ k (λ e. cc (e)) k.at

  fails_calm : {m : Sweeping} {a : Answer} {why : Trouble} → KnowsSweep st now m part → Fails m a why → IsCalm now m
  fails_calm {m = m} k (step.no_root n held a why e) = calm m _ k (λ e. cc (e)) k.at.0
  fails_calm {m = m} k (step.no_page n held a why e) = calm m _ k (λ e. cc (e)) k.at
  fails_calm {m = m} k (step.no_list n held a why e) = calm m _ k (λ e. cc (e)) k.at
  fails_calm {m = m} k (step.not_removed n held a why e) = calm m _ k (λ e. cc (e)) k.at.0
  fails_calm {m = m} k (step.bad_root n held got why e) = calm m _ k (λ e. cc (e)) k.at.0
  fails_calm {m = m} k (step.bad_page n held got why e) = calm m _ k (λ e. cc (e)) k.at
  fails_calm k (step.round spot on seen) = onward_calm k on

  clears_calm : {m q : Sweeping} {a : Answer} → KnowsSweep st now m part → Clears m a q → IsCalm now q
  clears_calm {m = m} k (step.listed n held pages) = calm m _ k (λ e. cc (e)) k.at
  clears_calm {m = m} k (step.removed n held) = calm m _ k (λ e. cc (e)) k.at.0

  pub leads : {m : Sweeping} {a : Answer} {next : Step} → KnowsSweep st now m part → IsCall who (sweep_ask m) a s t → ((why : Trouble) → Fails m a why → MayStopSweep why)
      → ((o : Option Spot) → Onward m a o → GoesOnTo (u.book.chain m.tree) m.visited o) → ((q : Sweeping) → Clears m a q → Stands u q) → Comes m a next
      → KnowsNext next u now part
  leads k call fails goes clears (step.takes m None l) = record {
    tree = k.tree;
    away = k.away;
    may = k.may;
    quiet = inr (no_trouble (leased m TakingTree None) k (λ e. cc (e)));
    at = ((ap (λ (x : Claim). x.lock) call.row.1, λ lasts. tt), k.at.1);
  }
  leads k call fails goes clears (step.takes m (Some other) l) = absurd k.at.0
  leads k call fails goes clears (step.refused m held a t e) = (k.away, given_may sweep_refusals (λ k until. tt) (lock.Tree m.tree) a t e)
  leads {m = m} k call fails goes clears (step.stops why f) = record {
    tree = k.tree;
    away = k.away;
    may = λ other e. let same : why ≡ other = cc (e) in subst MayStopSweep same (fails why f);
    quiet = inl refl;
    at = under m.tree now m.held _ _ (fails_calm k f).1 (λ none. absurd (cc (none)));
  }
  leads {m = m} k call fails goes clears (step.reads_on spot on new) =
      let is = onward_calm k on in record { tree = k.tree; away = k.away; may = k.may; quiet = inr is.2; at = under m.tree now m.held _ _ is.1 (goes (Some spot) on).0 }
  leads {m = m} k call fails goes clears (step.has_read on) =
      let is = onward_calm k on in record { tree = k.tree; away = k.away; may = k.may; quiet = inr is.2; at = under m.tree now m.held _ _ is.1 (goes None on) }
  leads k call fails goes clears (step.removes q page c e) =
      let is = clears_calm k c in
      record { tree = is.0; away = k.away; may = λ why some. absurd (let none = is.2 in cc (none, some)); quiet = inr is.2; at = (under q.tree now q.held _ _ is.1 (clears q c).1, (page, e)) }
  leads k call fails goes clears (step.rests q c e) =
      let is = clears_calm k c in
      let few = (clears q c).0 in
      let end = past q.orphans q.removed e in
      record {
        tree = is.0;
        away = k.away;
        may = λ why some. absurd (let none = is.2 in cc (none, some));
        quiet = inl refl;
        at = under q.tree now q.held _ _ is.1 (λ none. ((clears q c).1, omega (arith, few, end)));
      }
  leads k call fails goes clears (step.ends m held a e) = k.away
  leads k call fails goes clears (step.stopped m held a why e) = (k.away, k.may why e)
  leads k call fails goes clears (step.nothing m held a) = absurd k.at
