-- One step of a session's tree checkpoint.
use Rattle.std.proofs.Common.{◌≡◌, ◌≤◌, ℕ, List, [], ◌∷◌, Some, refl, sym, subst}
use Rattle.client_work.specs.Session.{stopped_work}
use Rattle.client_work.specs.declared.answer.Answer.{Answer}
use Rattle.client_work.specs.declared.answer.Answer.TheVariants as answer
use Rattle.client_work.specs.declared.work.Work.{Work}
use Rattle.client_work.specs.declared.work.Work.TheVariants.{Idle, Folding as FoldingTree, Broken}
use Rattle.cloud_facts.specs.Calls.Acting.{footing, exchange, actor, Setting, Outcome, Handles, Aside}
use Rattle.cloud_facts.specs.Words.{Trouble, Entry, Answer as Reply, Turn, More, Ended, Stopped, CloudState, Caller, Seen, Claim, Ask, Get, GetHeld, PutHeld, Send, Receive, Delete, Take, Renew, Release, Goes, Book, Store, IsIn, store_of, IsCall}
use Rattle.cloud_facts.proofs.Calls.Calls.{call_of}
use Rattle.cloud_facts.proofs.Calls.OthersLemmas.{home_aside}
use Rattle.cloud_facts.proofs.Calls.Outcomes.{gives_up}
use Rattle.cloud_trait.specs.Ask.{ListHeld, RemoveHeld}
use Rattle.cloud_trait.specs.Weather.{Makes}
use Rattle.db_base.specs.declared.names.ObjName.TheVariants as object
use Rattle.db_base.specs.declared.trouble.Trouble.TheVariants as trouble
use Rattle.history.specs.Audited.{Audited}
use Rattle.cloud_facts.specs.Homes.Homes.{Part, Parts}
use Rattle.page_cache.specs.Cache.{Cache}
use Rattle.recover_run.specs.declared.home.Home.{Home}
use Rattle.session_facts.specs.Sessions.Audited.{noted_at}
use Rattle.session_facts.specs.Sessions.Knows.{leases_of, IsHome, KnowsWork}
use Rattle.session_facts.specs.Sessions.Led.{LedFolding}
use Rattle.session_facts.proofs.Sessions.Kept.{KnowsBoth, with_cache}
use Rattle.session_facts.proofs.Sessions.Steps.Leases.{passage, IsStepOf}
use Rattle.cloud_facts.specs.Book.Growth.{Grows}
use Rattle.cloud_facts.proofs.Book.Places.{in_behind}
use Rattle.session_facts.specs.Machines.Walks.Caches.{KnowsCache}
use Rattle.tree_ckpt.specs.Making.{Making, MakingLeads, making_ask}
use Rattle.session_facts.specs.Machines.TreeCheckpoints.Knows.{KnowsMaking, KnowsAfter, leases_of_making, making_note}
use Rattle.session_facts.proofs.Machines.TreeCheckpoints.Hands.{making_handles, making_home_handles}
use Rattle.session_facts.proofs.Machines.TreeCheckpoints.Outcome.{making_outcome}
use Rattle.session_facts.proofs.Machines.Openings.Counted.{counted_stay}
use Rattle.session_facts.proofs.Machines.Openings.Entries.{records_stay}

-- what the audit takes
pub making_noted : (home : Home) (m : Making) (ask : Ask) (a : Audited) → noted_at (FoldingTree home m) ask a ≡ making_note m ask a
making_noted home m (PutHeld (object.Head client) bytes one two) a = refl
making_noted home m (PutHeld (object.Page tree page) bytes one two) a = refl
making_noted home m (PutHeld (object.Tree tree) bytes one two) a = refl
making_noted home m (Get name) a = refl
making_noted home m (GetHeld name l) a = refl
making_noted home m (ListHeld tree l) a = refl
making_noted home m (RemoveHeld name l) a = refl
making_noted home m (Send queue bytes) a = refl
making_noted home m (Receive queue most) a = refl
making_noted home m (Delete queue id) a = refl
making_noted home m (Take lock ticks) a = refl
making_noted home m (Renew l ticks) a = refl
making_noted home m (Release l) a = refl

module _ (who : Caller) (before after : Seen) (book : Book) (order : List Entry) (s t : CloudState) (parts : Parts) (home : Home) (m : Making)
    (setting : s.now ≤ t.now → Setting (footing book order s) t.now (actor parts who.session (leases_of (FoldingTree home m))))
    (knows_home : IsHome (store_of book order s) s.now home (parts who.session)) (knows : KnowsMaking (store_of book order s) s.now m)
    (c : Cache) (kept : KnowsCache (store_of book order s) c) (e : before.state ≡ Some s) (g : after.state ≡ Some t) where
  abbrev st : Store
  st = store_of book order s

  abbrev note : Audited → Audited
  note = making_note m (making_ask m)

  abbrev Stepped : Work → Type 0
  Stepped work = IsStepOf (footing book order s) t parts (making_ask m) note (passage who (FoldingTree home m) work c)

  module _ (reply : Reply) (made : Makes who (making_ask m) reply before after) where
    call : IsCall who (making_ask m) reply s t
    call = call_of who (making_ask m) reply before after s t made e g

    abbrev Known : Store → ℕ → Part → Type 0
    Known = Aside st (parts who.session) (KnowsAfter m reply)

    -- its leases are among the session's
    within : (x : Claim) → IsIn (leases_of_making m) x → IsIn (leases_of (FoldingTree home m)) x
    within x is = in_behind (home.lease ∷ []) (leases_of_making m) x is

    outcome : Outcome (footing book order s) t (actor parts who.session (leases_of (FoldingTree home m))) (making_ask m) note Known
    outcome = making_outcome who s t book order parts (leases_of (FoldingTree home m)) m reply (setting call.later) within knows call

    home_handles : Handles (exchange who s t (making_ask m) reply) (leases_of (FoldingTree home m)) (home.lease ∷ [])
    home_handles = making_home_handles who s t book order parts (leases_of (FoldingTree home m)) m reply (setting call.later) knows call home.lease home.client knows_home.at.lock_is

    -- the home is as it was
    at_home : (u : Store) (part : Part) → Grows st u → Known u t.now part → IsHome u t.now home part
    at_home u part grows a = record {
      at = home_aside st u s.now t.now home.client home.lease home.head home.attempt (parts who.session) part (KnowsAfter m reply) call.later grows knows_home.at a;
      trees = knows_home.trees;
      of_records = records_stay st u home.client home.head.pending grows knows_home.of_records;
      counted = counted_stay st u home.client home.head.counters grows knows_home.counted;
    }

    -- what is known by the whole outcome, at the clock that the call leaves
    known_as : (work : Work) → ((u : Store) (part : Part) → Grows st u → Known u t.now part → KnowsWork u t.now c work part)
        → Outcome (footing book order s) t (actor parts who.session (leases_of (FoldingTree home m))) (making_ask m) note (KnowsBoth c work)
    known_as work less = with_cache who book order s t parts (leases_of (FoldingTree home m)) (making_ask m) note c work kept (record {
      book_after = outcome.book_after;
      order_after = outcome.order_after;
      cloud = outcome.cloud;
      passes = outcome.passes;
      joins = outcome.joins;
      links = outcome.links;
      gone = outcome.gone;
      part = outcome.part;
      homes = outcome.homes;
      knows = less (store_of outcome.book_after outcome.order_after t) outcome.part outcome.passes.grows outcome.knows;
      noted = outcome.noted;
    })

    goes_on : (n : Making) → MakingLeads m reply (Goes n) → Stepped (FoldingTree home n)
    goes_on n leads = record {
      reply = reply;
      call = call;
      handles = making_handles who s t book order parts (leases_of (FoldingTree home m)) m reply (setting call.later) knows call home.lease home.client knows_home.at.lock_is (Goes n) leads;
      outcome = known_as (FoldingTree home n) (λ u part grows a. (at_home u part grows a, a.knows (Goes n) leads));
    }

    -- it is over, and the client stays open
    ends : (work : Work) → work ≡ Idle home → Stepped work
    ends work is = subst Stepped (sym is) (record { reply = reply; call = call; handles = home_handles; outcome = known_as (Idle home) at_home })

    -- memory ran out
    breaks : (work : Work) → work ≡ Broken home.lease → Stepped work
    breaks work is = subst Stepped (sym is) (record {
      reply = reply;
      call = call;
      handles = home_handles;
      outcome = with_cache who book order s t parts (leases_of (FoldingTree home m)) (making_ask m) note c (Broken home.lease) kept
          (gives_up who book order s t parts (leases_of (FoldingTree home m)) (making_ask m) note Known outcome);
    })

    stops : (k : Trouble) → (work : Work) → work ≡ stopped_work k home → Stepped work
    stops trouble.Memory work is = breaks work is
    stops trouble.Failed work is = ends work is
    stops (trouble.Late end now) work is = ends work is
    stops (trouble.Busy lock until) work is = ends work is
    stops (trouble.Waiting have need) work is = ends work is
    stops (trouble.Stale page least got) work is = ends work is
    stops (trouble.Absent page) work is = ends work is
    stops (trouble.NotALeaf page) work is = ends work is
    stops (trouble.Damaged place offset) work is = ends work is
    stops (trouble.BadFence page expected found) work is = ends work is
    stops (trouble.Loop page) work is = ends work is
    stops (trouble.Exhausted what) work is = ends work is

    pub making_step : (work : Work) (turn : Turn Answer) → LedFolding (home, m) reply work turn → Stepped work
    making_step work More (n, led, is) = subst Stepped (sym is) (goes_on n led)
    making_step work (Ended (answer.Done done)) (n, led, is) = ends work is
    making_step work (Ended (answer.Trouble k)) (n, led, is) = stops k work is
    making_step work (Stopped k) never = absurd never
    making_step work (Ended answer.Closed) never = absurd never
    making_step work (Ended (answer.Renewed end)) never = absurd never
    making_step work (Ended (answer.Opened epoch)) never = absurd never
    making_step work (Ended (answer.Commit a)) never = absurd never
    making_step work (Ended answer.Value) never = absurd never
    making_step work (Ended answer.Scan) never = absurd never
    making_step work (Ended (answer.Settled n)) never = absurd never
    making_step work (Ended (answer.Swept x)) never = absurd never
