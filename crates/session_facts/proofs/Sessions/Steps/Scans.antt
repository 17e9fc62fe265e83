-- One step of a session's scan: a get, which changes nothing, and behind it the records of a leaf where the scan is at one.
use Rattle.std.proofs.Common.{◌≡◌, ◌≢◌, ◌≤◌, ◌⊎◌, inl, inr, ℕ, List, [], ◌∷◌, Some, sym, ap, subst, ◌∙◌}
use Rattle.client_work.specs.Session.{Follows, ListsLeaf, stopped_work, acting_of, in_hand}
use Rattle.client_work.specs.declared.answer.Answer.{Answer}
use Rattle.client_work.specs.declared.answer.Answer.TheVariants as answer
use Rattle.client_work.specs.declared.listing.Listing.{Listing}
use Rattle.client_work.specs.declared.shown.Shown.{Shown}
use Rattle.client_work.specs.declared.work.Work.{Work}
use Rattle.client_work.specs.declared.work.Work.TheVariants.{Idle, Scanning, Broken}
use Rattle.cloud_facts.specs.Calls.Acting.{footing, actor, Setting}
use Rattle.cloud_facts.specs.Words.{Trouble, Entry, Answer as Reply, Turn, More, Ended, Stopped, CloudState, Caller, Seen, Stops, Book, Store, store_of, IsCall}
use Rattle.cloud_facts.proofs.Calls.Calls.{call_of}
use Rattle.cloud_trait.specs.Machine.{LeadsBy, Took}
use Rattle.cloud_trait.specs.Weather.{Makes}
use Rattle.db_base.specs.declared.trouble.Trouble.TheVariants as trouble
use Rattle.cloud_facts.specs.Homes.Homes.{Parts}
use Rattle.page_cache.specs.Cache.{Cache}
use Rattle.range_scan.specs.Scan.{Scan, scan_object, scan_ask, scan_next, moved_on, KeepsServed}
use Rattle.recover_run.specs.declared.home.Home.{Home}
use Rattle.session_facts.specs.Machines.Scans.Knows.{KnowsScan, KnowsScanning, IsAtScannedLeaf, ScanLeads}
use Rattle.session_facts.proofs.Machines.Scans.Outcome.{scan_goes, scan_moves_on}
use Rattle.session_facts.specs.Sessions.Knows.{IsHome}
use Rattle.session_facts.specs.Sessions.Led.{LedScanning}
use Rattle.session_facts.proofs.Sessions.Steps.Gets.{get_handles, get_out, broken_out}
use Rattle.session_facts.proofs.Sessions.Steps.Leases.{passage, IsStepOf}
use Rattle.session_facts.proofs.Sessions.Troubles.{stays_open}
use Rattle.txn_buffer.specs.Noted.{Noted}
use Rattle.session_facts.specs.Machines.Walks.Caches.{KnowsCache}
use Rattle.session_facts.specs.Machines.Walks.Knows.{MayStopWalk}
use Rattle.tree_walk.proofs.Demands.{memory_or}

module _ (who : Caller) (before after : Seen) (book : Book) (order : List Entry) (s t : CloudState) (parts : Parts) (home : Home) (l : Listing) (buffer : List Noted)
    (setting : s.now ≤ t.now → Setting (footing book order s) t.now (actor parts who.session (home.lease ∷ []))) (knows : s.now ≤ t.now → IsHome (store_of book order s) t.now home (parts who.session))
    (scan : KnowsScan (store_of book order s) l.scan) (c d : Cache) (kept : KnowsCache (store_of book order s) c) (e : before.state ≡ Some s) (f : after.state ≡ Some t) where
  abbrev st : Store
  st = store_of book order s

  abbrev Stepped : Work → Type 0
  Stepped work = IsStepOf (footing book order s) t parts (scan_ask l.scan) (λ a. a) (passage who (Scanning home l) work d)

  module _ (reply : Reply) (made : Makes who (scan_ask l.scan) reply before after) where
    call : IsCall who (scan_ask l.scan) reply s t
    call = call_of who (scan_ask l.scan) reply before after s t made e f

    leads : ScanLeads st MayStopWalk (scan_next (l.scan, c) reply)
    leads = scan_goes book order s (setting call.later).cloud who l.scan c reply t call (record { scan = scan; cache = kept })

    goes_on : (m : Listing) → KnowsScan st m.scan → KnowsCache st d → Stepped (Scanning home m)
    goes_on m k known = record {
      reply = reply;
      call = call;
      handles = get_handles who book order s t parts home (scan_object l.scan) setting knows reply call;
      outcome = get_out who book order s t parts home (scan_object l.scan) setting knows reply call d (Scanning home m) ((knows call.later, k), known);
    }

    -- the client stays open
    ends : KnowsCache st d → Stepped (Idle home)
    ends known = record {
      reply = reply;
      call = call;
      handles = get_handles who book order s t parts home (scan_object l.scan) setting knows reply call;
      outcome = get_out who book order s t parts home (scan_object l.scan) setting knows reply call d (Idle home) (knows call.later, known);
    }

    -- memory ran out
    breaks : Stepped (Broken home.lease)
    breaks = record {
      reply = reply;
      call = call;
      handles = get_handles who book order s t parts home (scan_object l.scan) setting knows reply call;
      outcome = broken_out who book order s t parts home (scan_object l.scan) setting knows reply call d;
    }

    stops : (m : Scan) (k : Trouble) (work : Work) → (k ≢ trouble.Memory → scan_next (l.scan, c) reply ≡ Stops (m, d) k) → work ≡ stopped_work k home → Stepped work
    stops m k work took is = on (memory_or k)
      where
        on : (k ≡ trouble.Memory) ⊎ (k ≢ trouble.Memory) → Stepped work
        on (inl memory) = subst Stepped (sym (is ∙ ap (λ q. stopped_work q home) memory)) breaks
        on (inr other) =
            let known : KnowsCache st d × MayStopWalk k = subst (ScanLeads st MayStopWalk) (took other) leads in
            subst Stepped (sym (is ∙ stays_open home k other)) (ends known.0)

    -- at a leaf the scan goes on behind it, or is over
    lists : (m : Scan) (page : ℕ) (work : Work) (shown : Shown) (turn : Turn Answer) → KnowsScanning st m d → IsAtScannedLeaf st m d page
        → ListsLeaf home (record { scan = m; pairs = l.pairs }) (acting_of buffer work d shown) turn → Stepped work
    lists m page work shown More k at (all, listed, goes, is, none) =
        subst Stepped (sym is) (goes_on (record { scan = moved_on m; pairs = all }) (scan_moves_on st m k.scan d page at) k.cache)
    lists m page work shown (Ended answer.Scan) k at (all, listed, over, is, some) = subst Stepped (sym is) (ends k.cache)
    lists m page work shown (Ended (answer.Trouble q)) k at (memory, is, none) = subst Stepped (sym is) breaks
    lists m page work shown (Stopped q) k at never = absurd never
    lists m page work shown (Ended answer.Closed) k at never = absurd never
    lists m page work shown (Ended (answer.Renewed end)) k at never = absurd never
    lists m page work shown (Ended (answer.Opened epoch)) k at never = absurd never
    lists m page work shown (Ended (answer.Commit a)) k at never = absurd never
    lists m page work shown (Ended (answer.Done n)) k at never = absurd never
    lists m page work shown (Ended answer.Value) k at never = absurd never
    lists m page work shown (Ended (answer.Settled n)) k at never = absurd never
    lists m page work shown (Ended (answer.Swept x)) k at never = absurd never

    follows : (m : Scan) (moved : Turn ℕ) (work : Work) (shown : Shown) (turn : Turn Answer) → Took (LeadsBy scan_next) KeepsServed (l.scan, c) reply (m, d) moved
        → Follows home (record { scan = m; pairs = l.pairs }) moved (acting_of buffer work d shown) turn → Stepped work
    follows m More work shown turn took (is, none, more) =
        let k : KnowsScanning st m d = subst (ScanLeads st MayStopWalk) took leads in
        subst Stepped (sym is) (goes_on (record { scan = m; pairs = l.pairs }) k.scan k.cache)
    follows m (Ended page) work shown turn took listed =
        let k : KnowsScanning st m d × IsAtScannedLeaf st m d page = subst (ScanLeads st MayStopWalk) took leads in
        lists m page work shown turn k.0 k.1 listed
    follows m (Stopped k) work shown turn took (is, none, stopped) = stops m k work took.0 is

    pub scanning_step : (work : Work) (shown : Shown) (turn : Turn Answer) → LedScanning (in_hand home l c) reply (acting_of buffer work d shown) turn → Stepped work
    scanning_step work shown turn p = follows p.scan p.moved work shown turn p.led p.follows
