-- Why a scan stops: a get failed or was stale, in its walk and at each right page.
use Rattle.std.proofs.Common.{◌≡◌, List, Some, sym, subst}
use Rattle.cloud_facts.specs.Words.{Trouble, ObjName, Entry, Answer, CloudState, Caller, Seen, Claim, Get, Book, Store, store_of, StandsUnder}
use Rattle.cloud_facts.proofs.Calls.Calls.{call_of}
use Rattle.cloud_trait.specs.Weather.{Makes}
use Rattle.db_base.specs.declared.trouble.Counter.{Counter}
use Rattle.page_cache.specs.Cache.{Cache}
use Rattle.range_scan.specs.Scan.{Scan, scan_object, scan_ask, scan_next}
use Rattle.session_facts.specs.Machines.Scans.Knows.{KnowsScanning, ScanLeads}
use Rattle.session_facts.specs.Sessions.Explains.{IsShown}
use Rattle.session_facts.specs.Machines.Walks.Knows.{WalkLeads}
use Rattle.session_facts.proofs.Machines.Scans.Turns.{scan_leads}
use Rattle.session_facts.proofs.Machines.Walks.Explains.{walk_shown}
use Rattle.session_facts.proofs.Machines.Walks.Outcome.{call_answers}
use Rattle.tree_walk.specs.Walk.{walk_next}

module _ (book : Book) (order : List Entry) (s : CloudState) (stands : StandsUnder book order s) (who : Caller) (before after : Seen) (t : CloudState) (told : before.state ≡ Some s)
    (told_after : after.state ≡ Some t) (held : List Claim) (Spent : CloudState → Counter → Type 0) where
  abbrev pub st : Store
  st = store_of book order s

  -- a trouble is shown by the get of this object
  abbrev pub Shown : ObjName → Trouble → Type 0
  Shown name trouble = IsShown (Get name) held Spent (before.counts, s) (after.counts, t) trouble

  -- a scan stops for nothing that its get does not show
  pub scan_shown : (m : Scan) (c : Cache) → KnowsScanning st m c → (a : Answer) → Makes who (scan_ask m) a before after
      → ScanLeads st (λ trouble. IsShown (scan_ask m) held Spent (before.counts, s) (after.counts, t) trouble) (scan_next (m, c) a)
  scan_shown m c k a made =
      scan_leads st stands.holds.chains (Shown (scan_object m)) (m, c) k a
      (call_answers book order s stands who (scan_object m) a t (call_of who (scan_ask m) a before after s t made told told_after))
      (λ w known same. subst (λ (name : ObjName). WalkLeads st (Shown name) (walk_next (w, c) a)) (sym same)
      (walk_shown book order s stands who before after t told told_after held Spent w c known a
      (subst (λ (name : ObjName). Makes who (Get name) a before after) same made)))
