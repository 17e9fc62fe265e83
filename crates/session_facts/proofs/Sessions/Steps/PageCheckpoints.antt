-- One step of a session's page checkpoint.
use Rattle.std.proofs.Common.{◌≡◌, ◌≤◌, ℕ, List, [], ◌∷◌, Some, refl, sym, subst}
use Rattle.session_facts.specs.Machines.PageCheckpoints.Knows.{KnowsPaging, KnowsAfter, paging_note}
use Rattle.session_facts.proofs.Machines.PageCheckpoints.Hands.{paging_handles, paging_home_handles}
use Rattle.session_facts.proofs.Machines.PageCheckpoints.Outcome.{paging_outcome}
use Rattle.client_work.specs.Session.{stopped_work}
use Rattle.client_work.specs.declared.answer.Answer.{Answer}
use Rattle.client_work.specs.declared.answer.Answer.TheVariants as answer
use Rattle.client_work.specs.declared.work.Work.{Work}
use Rattle.client_work.specs.declared.work.Work.TheVariants.{Idle, Paging as PagingOn, Broken}
use Rattle.cloud_facts.specs.Calls.Acting.{footing, exchange, actor, Setting, Outcome, Handles, Aside}
use Rattle.cloud_facts.specs.Words.{Trouble, Entry, Answer as Reply, Turn, More, Ended, Stopped, CloudState, Caller, Seen, Ask, Get, GetHeld, PutHeld, Send, Receive, Delete, Take, Renew, Release, Goes, Book, Store, store_of, IsCall}
use Rattle.cloud_facts.proofs.Calls.Calls.{call_of}
use Rattle.cloud_facts.proofs.Calls.OthersLemmas.{home_aside}
use Rattle.cloud_facts.proofs.Calls.Outcomes.{gives_up}
use Rattle.cloud_trait.specs.Ask.{ListHeld, RemoveHeld}
use Rattle.cloud_trait.specs.Weather.{Makes}
use Rattle.db_base.specs.declared.names.ObjName.TheVariants as object
use Rattle.db_base.specs.declared.trouble.Trouble.TheVariants as trouble
use Rattle.page_ckpt.specs.Paging.{Paging, PagingLeads, paging_ask}
use Rattle.history.specs.Audited.{Audited}
use Rattle.cloud_facts.specs.Homes.Homes.{Part, Parts}
use Rattle.page_cache.specs.Cache.{Cache}
use Rattle.recover_run.specs.declared.home.Home.{Home}
use Rattle.session_facts.specs.Sessions.Audited.{noted_at}
use Rattle.session_facts.specs.Sessions.Knows.{leases_of, IsHome, KnowsWork}
use Rattle.session_facts.specs.Sessions.Led.{LedPaging}
use Rattle.session_facts.proofs.Sessions.Kept.{KnowsBoth, with_cache}
use Rattle.session_facts.proofs.Sessions.Steps.Leases.{passage, IsStepOf}
use Rattle.cloud_facts.specs.Book.Growth.{Grows}
use Rattle.session_facts.specs.Machines.Walks.Caches.{KnowsCache}
use Rattle.session_facts.proofs.Machines.Openings.Counted.{counted_stay}
use Rattle.session_facts.proofs.Machines.Openings.Entries.{records_stay}

-- what the audit takes
pub paging_noted : (home : Home) (p : Paging) (ask : Ask) (a : Audited) → noted_at (PagingOn home p) ask a ≡ paging_note p ask a
paging_noted home p (PutHeld (object.Head client) bytes one two) a = refl
paging_noted home p (PutHeld (object.Page tree page) bytes one two) a = refl
paging_noted home p (PutHeld (object.Tree tree) bytes one two) a = refl
paging_noted home p (Get name) a = refl
paging_noted home p (GetHeld name l) a = refl
paging_noted home p (ListHeld tree l) a = refl
paging_noted home p (RemoveHeld name l) a = refl
paging_noted home p (Send queue bytes) a = refl
paging_noted home p (Receive queue most) a = refl
paging_noted home p (Delete queue id) a = refl
paging_noted home p (Take lock ticks) a = refl
paging_noted home p (Renew l ticks) a = refl
paging_noted home p (Release l) a = refl

module _ (who : Caller) (before after : Seen) (book : Book) (order : List Entry) (s t : CloudState) (parts : Parts) (home : Home) (p : Paging)
    (setting : s.now ≤ t.now → Setting (footing book order s) t.now (actor parts who.session (leases_of (PagingOn home p))))
    (knows_home : IsHome (store_of book order s) s.now home (parts who.session)) (knows : KnowsPaging (store_of book order s) s.now p)
    (c : Cache) (kept : KnowsCache (store_of book order s) c) (e : before.state ≡ Some s) (g : after.state ≡ Some t) where
  abbrev st : Store
  st = store_of book order s

  abbrev note : Audited → Audited
  note = paging_note p (paging_ask p)

  abbrev Stepped : Work → Type 0
  Stepped work = IsStepOf (footing book order s) t parts (paging_ask p) note (passage who (PagingOn home p) work c)

  module _ (reply : Reply) (made : Makes who (paging_ask p) reply before after) where
    call : IsCall who (paging_ask p) reply s t
    call = call_of who (paging_ask p) reply before after s t made e g

    abbrev Known : Store → ℕ → Part → Type 0
    Known = Aside st (parts who.session) (KnowsAfter p reply)

    outcome : Outcome (footing book order s) t (actor parts who.session (leases_of (PagingOn home p))) (paging_ask p) note Known
    outcome = paging_outcome who s t book order parts (leases_of (PagingOn home p)) p reply (setting call.later) knows call

    home_handles : Handles (exchange who s t (paging_ask p) reply) (leases_of (PagingOn home p)) (home.lease ∷ [])
    home_handles = paging_home_handles who s t book order parts (leases_of (PagingOn home p)) p reply (setting call.later) knows call home.lease home.client knows_home.at.lock_is

    -- the home is as it was
    at_home : (u : Store) (part : Part) → Grows st u → Known u t.now part → IsHome u t.now home part
    at_home u part grows a = record {
      at = home_aside st u s.now t.now home.client home.lease home.head home.attempt (parts who.session) part (KnowsAfter p reply) call.later grows knows_home.at a;
      trees = knows_home.trees;
      of_records = records_stay st u home.client home.head.pending grows knows_home.of_records;
      counted = counted_stay st u home.client home.head.counters grows knows_home.counted;
    }

    -- what is known by the whole outcome, at the clock that the call leaves
    known_as : (work : Work) → ((u : Store) (part : Part) → Grows st u → Known u t.now part → KnowsWork u t.now c work part)
        → Outcome (footing book order s) t (actor parts who.session (leases_of (PagingOn home p))) (paging_ask p) note (KnowsBoth c work)
    known_as work less = with_cache who book order s t parts (leases_of (PagingOn home p)) (paging_ask p) note c work kept (record {
      book_after = outcome.book_after;
      order_after = outcome.order_after;
      cloud = outcome.cloud;
      passes = outcome.passes;
      joins = outcome.joins;
      links = outcome.links;
      gone = outcome.gone;
      part = outcome.part;
      homes = outcome.homes;
      knows = less (store_of outcome.book_after outcome.order_after t) outcome.part outcome.passes.grows outcome.knows;
      noted = outcome.noted;
    })

    goes_on : (n : Paging) → PagingLeads p reply (Goes n) → Stepped (PagingOn home n)
    goes_on n leads = record {
      reply = reply;
      call = call;
      handles = paging_handles who s t book order parts (leases_of (PagingOn home p)) p reply (setting call.later) knows call home.lease home.client knows_home.at.lock_is (Goes n) leads;
      outcome = known_as (PagingOn home n) (λ u part grows a. (at_home u part grows a, a.knows (Goes n) leads));
    }

    -- it is over, and the client stays open
    ends : (work : Work) → work ≡ Idle home → Stepped work
    ends work is = subst Stepped (sym is) (record { reply = reply; call = call; handles = home_handles; outcome = known_as (Idle home) at_home })

    -- memory ran out
    breaks : (work : Work) → work ≡ Broken home.lease → Stepped work
    breaks work is = subst Stepped (sym is) (record {
      reply = reply;
      call = call;
      handles = home_handles;
      outcome = with_cache who book order s t parts (leases_of (PagingOn home p)) (paging_ask p) note c (Broken home.lease) kept
          (gives_up who book order s t parts (leases_of (PagingOn home p)) (paging_ask p) note Known outcome);
    })

    stops : (k : Trouble) → (work : Work) → work ≡ stopped_work k home → Stepped work
    stops trouble.Memory work is = breaks work is
    stops trouble.Failed work is = ends work is
    stops (trouble.Late end now) work is = ends work is
    stops (trouble.Busy lock until) work is = ends work is
    stops (trouble.Waiting have need) work is = ends work is
    stops (trouble.Stale page least got) work is = ends work is
    stops (trouble.Absent page) work is = ends work is
    stops (trouble.NotALeaf page) work is = ends work is
    stops (trouble.Damaged place offset) work is = ends work is
    stops (trouble.BadFence page expected found) work is = ends work is
    stops (trouble.Loop page) work is = ends work is
    stops (trouble.Exhausted what) work is = ends work is

    pub paging_step : (work : Work) (turn : Turn Answer) → LedPaging (home, p) reply work turn → Stepped work
    paging_step work More (n, led, is) = subst Stepped (sym is) (goes_on n led)
    paging_step work (Ended (answer.Done done)) (n, led, is) = ends work is
    paging_step work (Ended (answer.Trouble k)) (n, led, is) = stops k work is
    paging_step work (Stopped k) never = absurd never
    paging_step work (Ended answer.Closed) never = absurd never
    paging_step work (Ended (answer.Renewed end)) never = absurd never
    paging_step work (Ended (answer.Opened epoch)) never = absurd never
    paging_step work (Ended (answer.Commit a)) never = absurd never
    paging_step work (Ended answer.Value) never = absurd never
    paging_step work (Ended answer.Scan) never = absurd never
    paging_step work (Ended (answer.Settled n)) never = absurd never
    paging_step work (Ended (answer.Swept x)) never = absurd never
