-- One step of a session's sweep.
use Rattle.std.proofs.Common.{◌≡◌, ◌≤◌, List, Some, sym, subst}
use Rattle.client_work.specs.declared.answer.Answer.{Answer}
use Rattle.client_work.specs.declared.answer.Answer.TheVariants as answer
use Rattle.client_work.specs.declared.work.Work.{Work}
use Rattle.client_work.specs.declared.work.Work.TheVariants.{Closed, Sweeping as SweepingOn}
use Rattle.cloud_facts.specs.Words.{Entry, Answer as Reply, Turn, More, Ended, Stopped, CloudState, Caller, Seen, Goes, Book, store_of, IsCall}
use Rattle.cloud_facts.specs.Calls.Acting.{footing, actor, Setting, Outcome}
use Rattle.cloud_facts.specs.Homes.Homes.{Parts}
use Rattle.cloud_facts.proofs.Calls.Calls.{call_of}
use Rattle.cloud_facts.proofs.Calls.Outcomes.{gives_up, weaker}
use Rattle.cloud_trait.specs.Weather.{Makes}
use Rattle.history.specs.Audited.{Audited}
use Rattle.orphan_sweep.specs.Sweeping.{Sweeping, sweep_ask, sweep_next}
use Rattle.page_cache.specs.Cache.{Cache}
use Rattle.session_facts.specs.Sessions.Knows.{KnowsWork}
use Rattle.session_facts.specs.Sessions.Led.{LedSweeping}
use Rattle.session_facts.specs.Machines.Sweeps.Knows.{KnowsSweep, KnowsNext, KnowsAfter, leases_of_sweep}
use Rattle.session_facts.specs.Machines.Walks.Caches.{KnowsCache}
use Rattle.session_facts.proofs.Sessions.Kept.{with_cache}
use Rattle.session_facts.proofs.Sessions.Steps.Leases.{passage, IsStepOf}
use Rattle.session_facts.proofs.Machines.Sweeps.Hands.{sweep_handles, sweep_drops}
use Rattle.session_facts.proofs.Machines.Sweeps.Outcome.{sweep_outcome}

module _ (who : Caller) (before after : Seen) (book : Book) (order : List Entry) (s t : CloudState) (parts : Parts) (m : Sweeping)
    (setting : s.now ≤ t.now → Setting (footing book order s) t.now (actor parts who.session (leases_of_sweep m))) (knows : KnowsSweep (store_of book order s) s.now m (parts who.session))
    (c : Cache) (kept : KnowsCache (store_of book order s) c) (e : before.state ≡ Some s) (g : after.state ≡ Some t) where
  -- its calls add nothing to the audit
  abbrev note : Audited → Audited
  note = λ a. a

  abbrev Stepped : Work → Type 0
  Stepped work = IsStepOf (footing book order s) t parts (sweep_ask m) note (passage who (SweepingOn m) work c)

  module _ (reply : Reply) (made : Makes who (sweep_ask m) reply before after) where
    call : IsCall who (sweep_ask m) reply s t
    call = call_of who (sweep_ask m) reply before after s t made e g

    outcome : Outcome (footing book order s) t (actor parts who.session (leases_of_sweep m)) (sweep_ask m) note (KnowsAfter m reply)
    outcome = sweep_outcome who s t book order parts m reply (setting call.later) knows call

    goes_on : (n : Sweeping) → sweep_next m reply ≡ Goes n → Stepped (SweepingOn n)
    goes_on n leads = record {
      reply = reply;
      call = call;
      handles = sweep_handles who s t (store_of book order s) m (parts who.session) reply call.later knows (Goes n) leads;
      outcome = with_cache who book order s t parts (leases_of_sweep m) (sweep_ask m) note c (SweepingOn n) kept
          (weaker who book order s t parts (leases_of_sweep m) (sweep_ask m) note (KnowsAfter m reply) (λ su now part. KnowsWork su now c (SweepingOn n) part)
          (λ su now part behind. subst (λ x. KnowsNext x su now part) leads behind) outcome);
    }

    -- it is over, and all is let go
    ends : Stepped Closed
    ends = record {
      reply = reply;
      call = call;
      handles = sweep_drops who s t (store_of book order s) m (parts who.session) reply call.later knows;
      outcome = with_cache who book order s t parts (leases_of_sweep m) (sweep_ask m) note c Closed kept
          (gives_up who book order s t parts (leases_of_sweep m) (sweep_ask m) note (KnowsAfter m reply) outcome);
    }

    pub sweeping_step : (work : Work) (turn : Turn Answer) → LedSweeping m reply work turn → Stepped work
    sweeping_step work More (n, led, is) = subst Stepped (sym is) (goes_on n led)
    sweeping_step work (Ended (answer.Swept x)) (left, led, is) = subst Stepped (sym is) ends
    sweeping_step work (Ended (answer.Trouble k)) (left, led, is) = subst Stepped (sym is) ends
    sweeping_step work (Stopped k) never = absurd never
    sweeping_step work (Ended answer.Closed) never = absurd never
    sweeping_step work (Ended (answer.Renewed end)) never = absurd never
    sweeping_step work (Ended (answer.Opened epoch)) never = absurd never
    sweeping_step work (Ended (answer.Commit a)) never = absurd never
    sweeping_step work (Ended (answer.Done n)) never = absurd never
    sweeping_step work (Ended answer.Value) never = absurd never
    sweeping_step work (Ended answer.Scan) never = absurd never
    sweeping_step work (Ended (answer.Settled n)) never = absurd never
