-- A commit run begins, or is answered at once.
use Rattle.std.proofs.Common.{◌≡◌, ◌≤◌, ℕ, Bool, true, false, cond, List, length, Option, Some, None, refl, subst}
use Rattle.std.specs.Prelude.{nat_lt, slice_get}
use Rattle.std.specs.Option.{option_map}
use Rattle.std.proofs.lemmas.Option.{same_Some}
use Rattle.cloud_facts.specs.Words.{IsTree, Entry, CloudState, Claim, Book, Store, at, store_of, StandsUnder}
use Rattle.session_facts.specs.Machines.Commits.Knows.{MayCommit}
use Rattle.session_facts.proofs.Machines.Commits.Begins.{KnowsHeld}
use Rattle.commit_run.specs.Run.{new_run, pending_target, long_pending, long_target, run_ready}
use Rattle.commit_run.proofs.Outcomes as step
use Rattle.commit_run.proofs.Outcomes.{Starts, starts, taken}
use Rattle.session_facts.specs.Machines.CommitRuns.Knows.{KnowsDraft, KnowsRunNext}
use Rattle.session_facts.proofs.Machines.CommitRuns.Plans.{empty_known}
use Rattle.session_facts.proofs.Machines.CommitRuns.Refusals.{RefusesAtMost, ready_refuses}
use Rattle.session_facts.proofs.Machines.CommitRuns.Leases.{RunLeaseStays, ready_lease}
use Rattle.session_facts.proofs.Machines.CommitRuns.Nexts.{RunStep, LedTo, begins_led, plans_led}
use Rattle.session_facts.specs.Machines.Openings.Client.{AreOfTrees}
use Rattle.head_codec.specs.declared.lists.Pending.{Pending}
use Rattle.cloud_facts.specs.Homes.Homes.{Part, Parts, HomesHold}
use Rattle.cloud_facts.proofs.Homes.HomeLemmas.{keeps_part}
use Rattle.cloud_facts.specs.Landings.Holding.{Holds}
use Rattle.page_cache.specs.Cache.{Cache}
use Rattle.recover_run.specs.declared.home.Home.{Home as Held}
use Rattle.txn_buffer.specs.Noted.{Noted}
use Rattle.session_facts.specs.Machines.Walks.Caches.{KnowsCache}

-- the entry to which a long list leads is of a tree
pub long_tree : (pending : List Pending) → AreOfTrees pending → (to : ℕ × List ℕ) → long_target pending ≡ Some to → IsTree to.0
long_tree pending trees to aims = on (nat_lt long_pending (length pending)) (slice_get pending 0) refl aims
  where
    on : (b : Bool) (o : Option Pending) → slice_get pending 0 ≡ o → cond b (option_map pending_target o) None ≡ Some to → IsTree to.0
    on true (Some e) is aims = subst (λ (t : ℕ × List ℕ). IsTree t.0) (same_Some (pending_target e) to aims) (trees e (0, is))
    on true None is aims = absurd (cc)
    on false o is aims = absurd (cc)

module _ (st : Store) (now : ℕ) (h : Holds st) (parts : Parts) (session : ℕ) (homes : HomesHold st.tally now parts) (home : Held) (changes : List Noted) (c : Cache)
    (k : KnowsHeld st now home (parts session)) (may : MayCommit changes) (some : 1 ≤ length changes) (cache : KnowsCache st c) where
  known : KnowsDraft st now (taken home changes) (parts session)
  known = record {
    taken = record { before = home.attempt; taken = refl; home = k };
    may = may;
    some = some;
    none = refl;
    plan = λ lasts. empty_known st.book changes;
  }

  starts_led : {next : RunStep} → Starts home changes c next → LedTo st now parts session next
  starts_led (step.spent e) = record { part = parts session; homes = keeps_part st.tally now parts session (parts session) refl homes; knows = (k, cache) }
  starts_led (step.long to next left aims begins) = begins_led st now h parts session homes begins known cache (long_tree home.head.pending k.trees to aims)
  starts_led (step.few next left none plans) = plans_led st now h parts session homes plans known cache

-- ---- the whole

-- where a commit run leads before its first call: a part of the session, what is known with it, and the home's lease
pub record HasBegun (st : Store) (now : ℕ) (parts : Parts) (session : ℕ) (lease : Claim) (step : RunStep) : Type 0 where
  pub part : Part
  pub homes : HomesHold st.tally now (at session part parts)
  pub knows : KnowsRunNext step st now part
  pub lease_is : RunLeaseStays lease step
  -- an end commits nothing
  pub refuses : RefusesAtMost step

pub run_begins : (book : Book) (order : List Entry) (s : CloudState) → StandsUnder book order s → (now : ℕ) (parts : Parts) (session : ℕ)
    → HomesHold (store_of book order s).tally now parts → (home : Held) (changes : List Noted) (c : Cache) → KnowsHeld (store_of book order s) now home (parts session)
    → MayCommit changes → 1 ≤ length changes → KnowsCache (store_of book order s) c → (step : RunStep) → run_ready (new_run home changes, c) ≡ step
    → HasBegun (store_of book order s) now parts session home.lease step
run_begins book order s stands now parts session homes home changes c k may some cache step is = subst (HasBegun (store_of book order s) now parts session home.lease) is (record {
  part = led.part;
  homes = led.homes;
  knows = led.knows;
  lease_is = ready_lease home changes c;
  refuses = ready_refuses home changes c;
})
  where
    led : LedTo (store_of book order s) now parts session (run_ready (new_run home changes, c))
    led = starts_led (store_of book order s) now stands.holds parts session homes home changes c k may some cache (starts home changes c)
