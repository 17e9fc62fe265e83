-- One step of a session's look-up: a get, which changes nothing.
use Rattle.std.proofs.Common.{◌≡◌, ◌≢◌, ◌≤◌, ◌⊎◌, inl, inr, List, [], ◌∷◌, Some, sym, ap, subst, ◌∙◌}
use Rattle.attr_index.specs.Look.{Own, Look, look_ask, look_next}
use Rattle.client_work.specs.Session.{stopped_work, acting_of, in_hand}
use Rattle.client_work.specs.Shows.{own_of}
use Rattle.client_work.specs.declared.answer.Answer.{Answer}
use Rattle.client_work.specs.declared.answer.Answer.TheVariants as answer
use Rattle.client_work.specs.declared.shown.Shown.{Shown}
use Rattle.client_work.specs.declared.work.Work.{Work}
use Rattle.client_work.specs.declared.work.Work.TheVariants.{Idle, Looking, Broken}
use Rattle.cloud_facts.specs.Calls.Acting.{footing, actor, Setting}
use Rattle.cloud_facts.specs.Words.{Trouble, Entry, Answer as Reply, Turn, More, Ended, Stopped, CloudState, Caller, Seen, Goes, Stops, Book, Store, store_of, IsCall}
use Rattle.cloud_facts.proofs.Calls.Calls.{call_of}
use Rattle.cloud_trait.specs.Weather.{Makes}
use Rattle.db_base.specs.declared.trouble.Trouble.TheVariants as trouble
use Rattle.cloud_facts.specs.Homes.Homes.{Parts}
use Rattle.page_cache.specs.Cache.{Cache}
use Rattle.recover_run.specs.declared.home.Home.{Home}
use Rattle.session_facts.specs.Machines.Looks.Knows.{KnowsLook, KnowsLooking, LookLeads}
use Rattle.session_facts.proofs.Machines.Looks.Outcome.{look_goes}
use Rattle.session_facts.specs.Sessions.Knows.{IsHome}
use Rattle.session_facts.specs.Sessions.Led.{LedLooking}
use Rattle.session_facts.proofs.Sessions.Steps.Gets.{get_handles, get_out, broken_out}
use Rattle.session_facts.proofs.Sessions.Steps.Leases.{passage, IsStepOf}
use Rattle.session_facts.proofs.Sessions.Troubles.{stays_open}
use Rattle.tree_walk.specs.Walk.{object_of}
use Rattle.txn_buffer.specs.Noted.{Noted}
use Rattle.session_facts.specs.Machines.Walks.Caches.{KnowsCache}
use Rattle.session_facts.specs.Machines.Walks.Knows.{MayStopWalk}
use Rattle.tree_walk.proofs.Demands.{memory_or}

module _ (who : Caller) (before after : Seen) (book : Book) (order : List Entry) (s t : CloudState) (parts : Parts) (home : Home) (l : Look) (buffer : List Noted)
    (setting : s.now ≤ t.now → Setting (footing book order s) t.now (actor parts who.session (home.lease ∷ []))) (knows : s.now ≤ t.now → IsHome (store_of book order s) t.now home (parts who.session))
    (look : KnowsLook (store_of book order s) l) (c d : Cache) (kept : KnowsCache (store_of book order s) c) (e : before.state ≡ Some s) (f : after.state ≡ Some t) where
  abbrev st : Store
  st = store_of book order s

  abbrev own : Own
  own = own_of home buffer

  abbrev Stepped : Work → Type 0
  Stepped work = IsStepOf (footing book order s) t parts (look_ask l) (λ a. a) (passage who (Looking home l) work d)

  module _ (reply : Reply) (made : Makes who (look_ask l) reply before after) where
    call : IsCall who (look_ask l) reply s t
    call = call_of who (look_ask l) reply before after s t made e f

    leads : LookLeads st MayStopWalk (look_next own (l, c) reply)
    leads = look_goes book order s (setting call.later).cloud who own l c reply t call (record { look = look; cache = kept })

    goes_on : (n : Look) → look_next own (l, c) reply ≡ Goes (n, d) → Stepped (Looking home n)
    goes_on n took =
        let k : KnowsLooking st n d = subst (LookLeads st MayStopWalk) took leads in
        record {
          reply = reply;
          call = call;
          handles = get_handles who book order s t parts home (object_of l.walk) setting knows reply call;
          outcome = get_out who book order s t parts home (object_of l.walk) setting knows reply call d (Looking home n) ((knows call.later, k.look), k.cache);
        }

    -- the client stays open
    ends : KnowsCache st d → Stepped (Idle home)
    ends known = record {
      reply = reply;
      call = call;
      handles = get_handles who book order s t parts home (object_of l.walk) setting knows reply call;
      outcome = get_out who book order s t parts home (object_of l.walk) setting knows reply call d (Idle home) (knows call.later, known);
    }

    -- memory ran out
    breaks : Stepped (Broken home.lease)
    breaks = record {
      reply = reply;
      call = call;
      handles = get_handles who book order s t parts home (object_of l.walk) setting knows reply call;
      outcome = broken_out who book order s t parts home (object_of l.walk) setting knows reply call d;
    }

    stops : (n : Look) (k : Trouble) (work : Work) → (k ≢ trouble.Memory → look_next own (l, c) reply ≡ Stops (n, d) k) → work ≡ stopped_work k home → Stepped work
    stops n k work took is = on (memory_or k)
      where
        on : (k ≡ trouble.Memory) ⊎ (k ≢ trouble.Memory) → Stepped work
        on (inl memory) = subst Stepped (sym (is ∙ ap (λ q. stopped_work q home) memory)) breaks
        on (inr other) =
            let known : KnowsCache st d × MayStopWalk k = subst (LookLeads st MayStopWalk) (took other) leads in
            subst Stepped (sym (is ∙ stays_open home k other)) (ends known.0)

    pub looking_step : (work : Work) (shown : Shown) (turn : Turn Answer) → LedLooking (in_hand home l c) reply (acting_of buffer work d shown) turn → Stepped work
    looking_step work shown More (n, led, is, none) = subst Stepped (sym is) (goes_on n led)
    looking_step work shown (Ended answer.Scan) (n, led, is, some) =
        let k : KnowsCache st d = subst (LookLeads st MayStopWalk) led leads in
        subst Stepped (sym is) (ends k)
    looking_step work shown (Ended (answer.Trouble k)) (n, led, is, none) = stops n k work led.0 is
    looking_step work shown (Stopped k) never = absurd never
    looking_step work shown (Ended answer.Closed) never = absurd never
    looking_step work shown (Ended (answer.Renewed end)) never = absurd never
    looking_step work shown (Ended (answer.Opened epoch)) never = absurd never
    looking_step work shown (Ended (answer.Commit a)) never = absurd never
    looking_step work shown (Ended (answer.Done n)) never = absurd never
    looking_step work shown (Ended answer.Value) never = absurd never
    looking_step work shown (Ended (answer.Settled n)) never = absurd never
    looking_step work shown (Ended (answer.Swept x)) never = absurd never
