-- One step of a session's settling.
use Rattle.std.proofs.Common.{◌≡◌, ◌≤◌, List, Some, refl, sym, subst}
use Rattle.client_work.specs.declared.answer.Answer.{Answer}
use Rattle.client_work.specs.declared.answer.Answer.TheVariants as answer
use Rattle.client_work.specs.declared.work.Work.{Work}
use Rattle.client_work.specs.declared.work.Work.TheVariants.{Closed, Settling as SettlingAll}
use Rattle.cloud_facts.specs.Calls.Acting.{footing, actor, Setting, Outcome}
use Rattle.cloud_facts.specs.Words.{Entry, Answer as Reply, Turn, More, Ended, Stopped, CloudState, Caller, Seen, Ask, Get, GetHeld, PutHeld, Send, Receive, Delete, Take, Renew, Release, Goes, Book, store_of, IsCall}
use Rattle.cloud_facts.proofs.Calls.Calls.{call_of}
use Rattle.cloud_facts.proofs.Calls.Outcomes.{gives_up, weaker}
use Rattle.cloud_trait.specs.Ask.{ListHeld, RemoveHeld}
use Rattle.cloud_trait.specs.Weather.{Makes}
use Rattle.db_base.specs.declared.names.ObjName.TheVariants as object
use Rattle.history.specs.Audited.{Audited}
use Rattle.cloud_facts.specs.Homes.Homes.{Parts}
use Rattle.page_cache.specs.Cache.{Cache}
use Rattle.session_facts.specs.Sessions.Audited.{noted_at}
use Rattle.session_facts.specs.Sessions.Knows.{KnowsWork}
use Rattle.session_facts.specs.Sessions.Led.{LedSettling}
use Rattle.session_facts.proofs.Sessions.Kept.{with_cache}
use Rattle.session_facts.proofs.Sessions.Steps.Leases.{passage, IsStepOf}
use Rattle.session_facts.specs.Machines.Settlings.Knows.{KnowsSettling, KnowsAfter, leases_of_settling, settling_note}
use Rattle.session_facts.proofs.Machines.Settlings.Hands.{settling_handles, settling_drops}
use Rattle.session_facts.proofs.Machines.Settlings.Outcome.{settling_outcome}
use Rattle.settle_run.specs.Parts.{IsSoundPart}
use Rattle.settle_run.specs.Settling.{Settling, SettleLeads, settle_ask}
use Rattle.session_facts.specs.Machines.Walks.Caches.{KnowsCache}

-- what the audit takes
pub settling_noted : (m : Settling) (ask : Ask) (a : Audited) → noted_at (SettlingAll m) ask a ≡ settling_note m ask a
settling_noted m (PutHeld (object.Head client) bytes one two) a = refl
settling_noted m (PutHeld (object.Page tree page) bytes one two) a = refl
settling_noted m (PutHeld (object.Tree tree) bytes one two) a = refl
settling_noted m (Get name) a = refl
settling_noted m (GetHeld name l) a = refl
settling_noted m (ListHeld tree l) a = refl
settling_noted m (RemoveHeld name l) a = refl
settling_noted m (Send queue bytes) a = refl
settling_noted m (Receive queue most) a = refl
settling_noted m (Delete queue id) a = refl
settling_noted m (Take lock ticks) a = refl
settling_noted m (Renew l ticks) a = refl
settling_noted m (Release l) a = refl

module _ (who : Caller) (before after : Seen) (book : Book) (order : List Entry) (s t : CloudState) (parts : Parts) (m : Settling)
    (setting : s.now ≤ t.now → Setting (footing book order s) t.now (actor parts who.session (leases_of_settling m))) (knows : KnowsSettling (store_of book order s) s.now m (parts who.session))
    (sound : IsSoundPart m.part) (c : Cache) (kept : KnowsCache (store_of book order s) c) (e : before.state ≡ Some s) (g : after.state ≡ Some t) where
  abbrev note : Audited → Audited
  note = settling_note m (settle_ask m)

  abbrev Stepped : Work → Type 0
  Stepped work = IsStepOf (footing book order s) t parts (settle_ask m) note (passage who (SettlingAll m) work c)

  module _ (reply : Reply) (made : Makes who (settle_ask m) reply before after) where
    call : IsCall who (settle_ask m) reply s t
    call = call_of who (settle_ask m) reply before after s t made e g

    outcome : Outcome (footing book order s) t (actor parts who.session (leases_of_settling m)) (settle_ask m) note (KnowsAfter m reply)
    outcome = settling_outcome who s t book order parts m reply (setting call.later) knows sound call made.fits

    goes_on : (n : Settling) → SettleLeads m reply (Goes n) → Stepped (SettlingAll n)
    goes_on n leads = record {
      reply = reply;
      call = call;
      handles = settling_handles who s t book order parts (leases_of_settling m) m (parts who.session) reply (setting call.later) knows call (Goes n) leads;
      outcome = with_cache who book order s t parts (leases_of_settling m) (settle_ask m) note c (SettlingAll n) kept
          (weaker who book order s t parts (leases_of_settling m) (settle_ask m) note (KnowsAfter m reply) (λ su now part. KnowsWork su now c (SettlingAll n) part)
          (λ su now part behind. behind (Goes n) leads) outcome);
    }

    -- it is over, and all is let go
    ends : Stepped Closed
    ends = record {
      reply = reply;
      call = call;
      handles = settling_drops who s t book order parts (leases_of_settling m) m (parts who.session) reply (setting call.later) knows call;
      outcome = with_cache who book order s t parts (leases_of_settling m) (settle_ask m) note c Closed kept
          (gives_up who book order s t parts (leases_of_settling m) (settle_ask m) note (KnowsAfter m reply) outcome);
    }

    pub settling_step : (work : Work) (turn : Turn Answer) → LedSettling m reply work turn → Stepped work
    settling_step work More (n, led, is) = subst Stepped (sym is) (goes_on n led)
    settling_step work (Ended (answer.Settled n)) (left, led, is) = subst Stepped (sym is) ends
    settling_step work (Ended (answer.Trouble k)) (left, led, is) = subst Stepped (sym is) ends
    settling_step work (Stopped k) never = absurd never
    settling_step work (Ended answer.Closed) never = absurd never
    settling_step work (Ended (answer.Renewed end)) never = absurd never
    settling_step work (Ended (answer.Opened epoch)) never = absurd never
    settling_step work (Ended (answer.Commit a)) never = absurd never
    settling_step work (Ended (answer.Done n)) never = absurd never
    settling_step work (Ended answer.Value) never = absurd never
    settling_step work (Ended answer.Scan) never = absurd never
    settling_step work (Ended (answer.Swept x)) never = absurd never
