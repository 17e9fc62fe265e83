-- Scans over a cloud: they begin, go on from leaf to leaf, and stop for no fault of the tree.
use Rattle.std.proofs.Common.{◌≡◌, ◌||◌, ◌⊎◌, inl, inr, ℕ, Bool, true, false, cond, List, Option, Some, None, refl, sym, ap, subst, true≢false}
use Rattle.cloud_facts.specs.Chains.Chain.{ChainHolds}
use Rattle.cloud_facts.proofs.Meanings.Steps.{passed_stays}
use Rattle.cloud_facts.specs.Words.{IsTree, Trouble, Entry, Answer, CloudState, Caller, Goes, Stops, Book, Store, store_of, IsCall, StandsUnder}
use Rattle.page_cache.specs.Cache.{Cache}
use Rattle.range_scan.specs.Scan.{Scan, new_scan, scan_object, scan_ask, is_wanted, goes_on, moved_on, walked_by, scan_ready, scan_next}
use Rattle.session_facts.specs.Machines.Scans.Knows.{IsPageBehind, StandsRight, LeadsRight, KnowsScan, KnowsScanning, IsAtScannedLeaf, ScanLeads}
use Rattle.session_facts.proofs.Machines.Scans.Turns.{scan_turns}
use Rattle.cloud_facts.specs.Book.Growth.{Grows}
use Rattle.tree_walk.specs.Walk.{Spot, is_page, is_among, came_to}
use Rattle.session_facts.specs.Machines.Walks.Caches.{KnowsCache}
use Rattle.session_facts.specs.Machines.Walks.Knows.{MayStopWalk}
use Rattle.session_facts.proofs.Machines.Walks.Outcome.{walk_begins, call_answers, walk_grows}
use Rattle.tree_walk.proofs.Within.{or_right}

-- a scan that begins goes on to its first call, with all that it knows; it stops for nothing that the cache keeps
pub scan_begins : (st : Store) → ChainHolds st → (tree : ℕ) (from to : Option (List ℕ)) (c : Cache) → IsTree tree → KnowsCache st c
    → (m : Scan × Cache) × (scan_ready (new_scan tree from to, c) ≡ Goes m) × KnowsScanning st m.0 m.1
scan_begins st h tree from to c is cache =
    let b = walk_begins st h tree from false c is cache in (
      (record (new_scan tree from to) { walk = b.0.0 }, b.0.1),
      ap (walked_by (new_scan tree from to)) b.1,
      record { scan = record { walk = b.2.walk; right = refl }; cache = b.2.cache },
    )

-- ---- from leaf to leaf

module _ (st : Store) (s : Scan) (k : KnowsScan st s) where
  moved : (next : Option Spot) → is_wanted s.to next ≡ true → LeadsRight (st.book.chain s.walk.tree) s next → KnowsScan st (record s { spot = next; next = None })
  moved None e leads = absurd (true≢false (sym e))
  moved (Some p) e leads = record {
    walk = k.walk;
    right = record {
      linked = leads.linked;
      behind = λ page there. inl (leads.behind page (or_right (is_page page s.spot) (came_to s.walk page || is_among s.passed page) there));
    };
  }

  -- behind the leaf at which it ended a scan goes on with all that it knows
  pub scan_moves_on : (c : Cache) (page : ℕ) → IsAtScannedLeaf st s c page → KnowsScan st (moved_on s)
  scan_moves_on c page a = on (goes_on s) refl
    where
      on : (b : Bool) → is_wanted s.to s.next ≡ b → KnowsScan st (cond b (record s { spot = s.next; next = None }) s)
      on true e = moved s.next e a.next
      on false e = k

-- ---- over a cloud

module _ (book : Book) (order : List Entry) (s : CloudState) (stands : StandsUnder book order s) where
  -- a step of a scan
  pub scan_goes : (who : Caller) (m : Scan) (c : Cache) (a : Answer) (t : CloudState) → IsCall who (scan_ask m) a s t → KnowsScanning (store_of book order s) m c
      → ScanLeads (store_of book order s) MayStopWalk (scan_next (m, c) a)
  scan_goes who m c a t call k =
      scan_turns (store_of book order s) stands.holds.chains (m, c) k a (call_answers book order s stands who (scan_object m) a t call)

  -- over a cloud that started empty no scan stops for a damaged object, a wrong fence or a loop: where it stops, a get was stale or failed, or
  -- memory ran out
  pub scan_stops : (who : Caller) (m : Scan) (c : Cache) (a : Answer) (t : CloudState) (n : Scan × Cache) (trouble : Trouble) → IsCall who (scan_ask m) a s t
      → KnowsScanning (store_of book order s) m c → scan_next (m, c) a ≡ Stops n trouble → KnowsCache (store_of book order s) n.1 × MayStopWalk trouble
  scan_stops who m c a t n trouble call k e = subst (ScanLeads (store_of book order s) MayStopWalk) e (scan_goes who m c a t call k)

-- ---- as links and versions grow

module _ (st su : Store) (grows : Grows st su) where
  behind_grows : (tree : ℕ) (p : Spot) (page : ℕ) → IsPageBehind (st.book.chain tree) p page → IsPageBehind (su.book.chain tree) p page
  behind_grows tree p page behind = passed_stays (st.book.chain tree) (su.book.chain tree) (grows.links tree) 0 p.low page behind

  or_grows : (tree : ℕ) (p : Spot) (page : ℕ) → IsPageBehind (st.book.chain tree) p page ⊎ (p.page ≡ page) → IsPageBehind (su.book.chain tree) p page ⊎ (p.page ≡ page)
  or_grows tree p page (inl behind) = inl (behind_grows tree p page behind)
  or_grows tree p page (inr same) = inr same

  right_grows : (tree : ℕ) (s : Scan) (o : Option Spot) → StandsRight (st.book.chain tree) s o → StandsRight (su.book.chain tree) s o
  right_grows tree s None k = k
  right_grows tree s (Some p) k = record {
    linked = grows.links tree 0 (record { low = p.low; page = p.page }) k.linked;
    behind = λ page there. or_grows tree p page (k.behind page there);
  }

  pub scan_grows : (s : Scan) → KnowsScan st s → KnowsScan su s
  scan_grows s k = record { walk = walk_grows st su grows s.walk k.walk; right = right_grows s.walk.tree s s.spot k.right }
