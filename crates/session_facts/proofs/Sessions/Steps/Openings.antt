-- One step of a session's opening.
use Rattle.std.proofs.Common.{◌≡◌, ◌≤◌, ℕ, List, [], Option, Some, None, refl, sym, ap, subst, ◌∙◌}
use Rattle.client_work.specs.Session.{opened_work}
use Rattle.client_work.specs.declared.answer.Answer.{Answer}
use Rattle.client_work.specs.declared.answer.Answer.TheVariants as answer
use Rattle.client_work.specs.declared.work.Work.{Work}
use Rattle.client_work.specs.declared.work.Work.TheVariants.{Closed, Opening}
use Rattle.cloud_facts.specs.Calls.Acting.{footing, exchange, actor, Setting, Outcome, Handles}
use Rattle.cloud_facts.specs.Words.{Entry, Answer as Reply, Turn, More, Ended, Stopped, CloudState, Caller, Seen, Goes, Ends, Stops, Book, Store, store_of, IsCall}
use Rattle.cloud_facts.proofs.Calls.Calls.{call_of}
use Rattle.cloud_facts.proofs.Calls.Outcomes.{gives_up, weaker, fewer_handles}
use Rattle.cloud_trait.specs.Weather.{Makes}
use Rattle.cloud_facts.specs.Homes.Homes.{Part, Parts}
use Rattle.session_facts.specs.Machines.Openings.Knows.{KnowsOpening, KnowsEnd, KnowsNext, leases_of_recovery, leases_of_end, leases_of_next}
use Rattle.session_facts.proofs.Machines.Openings.Outcome.{opening_outcome}
use Rattle.session_facts.proofs.Machines.Openings.Hands.{opening_handles}
use Rattle.page_cache.specs.Cache.{Cache}
use Rattle.recover_run.specs.declared.home.Home.{Home}
use Rattle.recover_run.specs.Recovery.{Recovery, Step, recovery_ask, recovery_next, home_of, IsSound}
use Rattle.session_facts.specs.Sessions.Knows.{leases_of, KnowsWork}
use Rattle.session_facts.specs.Sessions.Led.{LedOpening}
use Rattle.session_facts.proofs.Sessions.Kept.{with_cache}
use Rattle.session_facts.proofs.Sessions.Steps.Leases.{passage, IsStepOf}
use Rattle.cloud_facts.proofs.Book.Places.{in_none}
use Rattle.session_facts.specs.Machines.Walks.Caches.{KnowsCache}

-- what is in hand where a step leads
abbrev pub LeadsTo : Step → Work → Type 0
LeadsTo (Goes m) work = work ≡ Opening m
LeadsTo (Ends m a) work = work ≡ opened_work (home_of m)
LeadsTo (Stops m t) work = work ≡ Closed

end_known : (c : Cache) (o : Option Home) (st : Store) (now : ℕ) (part : Part) → KnowsEnd o st now part → KnowsWork st now c (opened_work o) part
end_known c (Some h) st now part k = k
end_known c None st now part k = k

next_known : (c : Cache) (step : Step) (work : Work) → LeadsTo step work → (st : Store) (now : ℕ) (part : Part) → KnowsNext step st now part → KnowsWork st now c work part
next_known c (Goes m) work is st now part k = subst (λ w. KnowsWork st now c w part) (sym is) k
next_known c (Ends m a) work is st now part k = subst (λ w. KnowsWork st now c w part) (sym is) (end_known c (home_of m) st now part k)
next_known c (Stops m t) work is st now part k = subst (λ w. KnowsWork st now c w part) (sym is) k

end_leases : (o : Option Home) → leases_of_end o ≡ leases_of (opened_work o)
end_leases (Some h) = refl
end_leases None = refl

pub next_leases : (step : Step) (work : Work) → LeadsTo step work → leases_of_next step ≡ leases_of work
next_leases (Goes m) work is = sym (ap leases_of is)
next_leases (Ends m a) work is = end_leases (home_of m) ∙ sym (ap leases_of is)
next_leases (Stops m t) work is = sym (ap leases_of is)

module _ (who : Caller) (before after : Seen) (book : Book) (order : List Entry) (s t : CloudState) (parts : Parts) (r : Recovery)
    (setting : s.now ≤ t.now → Setting (footing book order s) t.now (actor parts who.session (leases_of_recovery r))) (knows : s.now ≤ t.now → KnowsOpening (store_of book order s) t.now r (parts who.session))
    (sound : IsSound r) (c : Cache) (kept : KnowsCache (store_of book order s) c) (e : before.state ≡ Some s) (f : after.state ≡ Some t) where
  abbrev Stepped : Work → Type 0
  Stepped work = IsStepOf (footing book order s) t parts (recovery_ask r) (λ a. a) (passage who (Opening r) work c)

  module _ (reply : Reply) (made : Makes who (recovery_ask r) reply before after) where
    call : IsCall who (recovery_ask r) reply s t
    call = call_of who (recovery_ask r) reply before after s t made e f

    outcome : Outcome (footing book order s) t (actor parts who.session (leases_of_recovery r)) (recovery_ask r) (λ a. a) (KnowsNext (recovery_next r reply))
    outcome = opening_outcome who book order s t parts r (parts who.session) reply (setting call.later) refl (knows call.later) sound call made.fits

    handles : Handles (exchange who s t (recovery_ask r) reply) (leases_of_recovery r) (leases_of_next (recovery_next r reply))
    handles = opening_handles who book order s t r (parts who.session) reply (knows call.later)

    by_next : (step : Step) → recovery_next r reply ≡ step → (work : Work) → LeadsTo step work → Stepped work
    by_next step is work leads = record {
      reply = reply;
      call = call;
      handles = subst (λ ls. Handles (exchange who s t (recovery_ask r) reply) (leases_of_recovery r) ls) (ap leases_of_next is ∙ next_leases step work leads) handles;
      outcome = with_cache who book order s t parts (leases_of_recovery r) (recovery_ask r) (λ a. a) c work kept
          (weaker who book order s t parts (leases_of_recovery r) (recovery_ask r) (λ a. a) (KnowsNext (recovery_next r reply)) (λ st now part. KnowsWork st now c work part)
          (λ st now part k. next_known c step work leads st now part (subst (λ n. KnowsNext n st now part) is k)) outcome);
    }

    -- whatever was answered
    by_end : (work : Work) → work ≡ Closed → Stepped work
    by_end work closed = subst Stepped (sym closed) (record {
      reply = reply;
      call = call;
      handles = fewer_handles who s t (recovery_ask r) reply (leases_of_recovery r) (leases_of_next (recovery_next r reply)) [] (λ x is. absurd (in_none [] x refl is)) handles;
      outcome = with_cache who book order s t parts (leases_of_recovery r) (recovery_ask r) (λ a. a) c Closed kept
          (gives_up who book order s t parts (leases_of_recovery r) (recovery_ask r) (λ a. a) (KnowsNext (recovery_next r reply)) outcome);
    })

    pub opening_step : (work : Work) (turn : Turn Answer) → LedOpening r reply work turn → Stepped work
    opening_step work More (m, led, is) = by_next (Goes m) led work is
    opening_step work (Ended (answer.Opened epoch)) (m, led, is) = by_next _ led work is
    opening_step work (Ended (answer.Trouble k)) (m, led, is) = by_end work is
    opening_step work (Stopped k) never = absurd never
    opening_step work (Ended answer.Closed) never = absurd never
    opening_step work (Ended (answer.Renewed end)) never = absurd never
    opening_step work (Ended (answer.Commit a)) never = absurd never
    opening_step work (Ended answer.Value) never = absurd never
    opening_step work (Ended answer.Scan) never = absurd never
    opening_step work (Ended (answer.Settled n)) never = absurd never
    opening_step work (Ended (answer.Swept x)) never = absurd never
    opening_step work (Ended (answer.Done n)) never = absurd never
