-- One step of a session's read: a get, which changes nothing.
use Rattle.std.proofs.Common.{◌≡◌, ◌≢◌, ◌≤◌, ◌⊎◌, inl, inr, List, [], ◌∷◌, Some, sym, ap, subst, ◌∙◌}
use Rattle.client_work.specs.Session.{stopped_work, acting_of, in_hand}
use Rattle.client_work.specs.declared.answer.Answer.{Answer}
use Rattle.client_work.specs.declared.answer.Answer.TheVariants as answer
use Rattle.client_work.specs.declared.shown.Shown.{Shown}
use Rattle.client_work.specs.declared.work.Work.{Work}
use Rattle.client_work.specs.declared.work.Work.TheVariants.{Idle, Reading, Broken}
use Rattle.cloud_facts.specs.Calls.Acting.{footing, actor, Setting}
use Rattle.cloud_facts.specs.Words.{Trouble, Entry, Answer as Reply, Turn, More, Ended, Stopped, CloudState, Caller, Seen, Goes, Stops, Book, Store, store_of, IsCall}
use Rattle.cloud_facts.proofs.Calls.Calls.{call_of}
use Rattle.cloud_trait.specs.Weather.{Makes}
use Rattle.db_base.specs.declared.trouble.Trouble.TheVariants as trouble
use Rattle.cloud_facts.specs.Homes.Homes.{Parts}
use Rattle.txn_buffer.specs.Noted.{Noted}
use Rattle.page_cache.specs.Cache.{Cache}
use Rattle.recover_run.specs.declared.home.Home.{Home}
use Rattle.session_facts.specs.Sessions.Knows.{IsHome}
use Rattle.session_facts.specs.Sessions.Led.{LedReading}
use Rattle.session_facts.proofs.Sessions.Steps.Gets.{get_handles, get_out, broken_out}
use Rattle.session_facts.proofs.Sessions.Steps.Leases.{passage, IsStepOf}
use Rattle.session_facts.proofs.Sessions.Troubles.{stays_open}
use Rattle.tree_walk.specs.Walk.{Walk, object_of, walk_ask, walk_next}
use Rattle.session_facts.specs.Machines.Walks.Caches.{KnowsCache}
use Rattle.session_facts.specs.Machines.Walks.Knows.{KnowsWalk, KnowsWalking, IsAtSeenLeaf, WalkLeads, MayStopWalk}
use Rattle.session_facts.proofs.Machines.Walks.Outcome.{walk_goes}
use Rattle.tree_walk.proofs.Demands.{memory_or}

module _ (who : Caller) (before after : Seen) (book : Book) (order : List Entry) (s t : CloudState) (parts : Parts) (home : Home) (w : Walk)
    (setting : s.now ≤ t.now → Setting (footing book order s) t.now (actor parts who.session (home.lease ∷ []))) (knows : s.now ≤ t.now → IsHome (store_of book order s) t.now home (parts who.session))
    (walk : KnowsWalk (store_of book order s) w) (c d : Cache) (kept : KnowsCache (store_of book order s) c) (e : before.state ≡ Some s) (f : after.state ≡ Some t) where
  abbrev st : Store
  st = store_of book order s

  abbrev Stepped : Work → Type 0
  Stepped work = IsStepOf (footing book order s) t parts (walk_ask w) (λ a. a) (passage who (Reading home w) work d)

  module _ (reply : Reply) (made : Makes who (walk_ask w) reply before after) where
    call : IsCall who (walk_ask w) reply s t
    call = call_of who (walk_ask w) reply before after s t made e f

    leads : WalkLeads st MayStopWalk (walk_next (w, c) reply)
    leads = walk_goes book order s (setting call.later).cloud who w c reply t call (record { walk = walk; cache = kept })

    goes_on : (n : Walk) → walk_next (w, c) reply ≡ Goes (n, d) → Stepped (Reading home n)
    goes_on n took =
        let k : KnowsWalking st n d = subst (WalkLeads st MayStopWalk) took leads in
        record {
          reply = reply;
          call = call;
          handles = get_handles who book order s t parts home (object_of w) setting knows reply call;
          outcome = get_out who book order s t parts home (object_of w) setting knows reply call d (Reading home n) ((knows call.later, k.walk), k.cache);
        }

    -- the client stays open
    ends : KnowsCache st d → Stepped (Idle home)
    ends known = record {
      reply = reply;
      call = call;
      handles = get_handles who book order s t parts home (object_of w) setting knows reply call;
      outcome = get_out who book order s t parts home (object_of w) setting knows reply call d (Idle home) (knows call.later, known);
    }

    -- memory ran out
    breaks : Stepped (Broken home.lease)
    breaks = record {
      reply = reply;
      call = call;
      handles = get_handles who book order s t parts home (object_of w) setting knows reply call;
      outcome = broken_out who book order s t parts home (object_of w) setting knows reply call d;
    }

    stops : (n : Walk) (k : Trouble) (work : Work) → (k ≢ trouble.Memory → walk_next (w, c) reply ≡ Stops (n, d) k) → work ≡ stopped_work k home → Stepped work
    stops n k work took is = on (memory_or k)
      where
        on : (k ≡ trouble.Memory) ⊎ (k ≢ trouble.Memory) → Stepped work
        on (inl memory) = subst Stepped (sym (is ∙ ap (λ q. stopped_work q home) memory)) breaks
        on (inr other) =
            let known : KnowsWalking st n d × MayStopWalk k = subst (WalkLeads st MayStopWalk) (took other) leads in
            subst Stepped (sym (is ∙ stays_open home k other)) (ends known.0.cache)

    pub reading_step : (buffer : List Noted) (work : Work) (shown : Shown) (turn : Turn Answer) → LedReading (in_hand home w c) reply (acting_of buffer work d shown) turn → Stepped work
    reading_step buffer work shown More (n, led, is, none) = subst Stepped (sym is) (goes_on n led)
    reading_step buffer work shown (Ended answer.Value) (n, page, led, is, some) =
        let k : KnowsWalking st n d × IsAtSeenLeaf st n d page = subst (WalkLeads st MayStopWalk) led leads in
        subst Stepped (sym is) (ends k.0.cache)
    reading_step buffer work shown (Ended (answer.Trouble k)) (n, led, is, none) = stops n k work led.0 is
    reading_step buffer work shown (Stopped k) never = absurd never
    reading_step buffer work shown (Ended answer.Closed) never = absurd never
    reading_step buffer work shown (Ended (answer.Renewed end)) never = absurd never
    reading_step buffer work shown (Ended (answer.Opened epoch)) never = absurd never
    reading_step buffer work shown (Ended (answer.Commit a)) never = absurd never
    reading_step buffer work shown (Ended (answer.Done n)) never = absurd never
    reading_step buffer work shown (Ended answer.Scan) never = absurd never
    reading_step buffer work shown (Ended (answer.Settled n)) never = absurd never
    reading_step buffer work shown (Ended (answer.Swept x)) never = absurd never
