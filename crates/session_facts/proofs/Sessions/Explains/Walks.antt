-- Why a read, a scan or a commit is answered with a trouble: its call shows it.
use Rattle.std.proofs.Common.{◌≡◌, ◌≢◌, ◌≤◌, inl, inr, ℕ, List, Option, Some, None, refl, sym, ap, subst, ◌∙◌, arith}
use Rattle.client_work.specs.Session.{StepsCommit, ReadsBy, ListsLeaf, Follows, StepsScanning, committed_work, acting_of, in_hand}
use Rattle.client_work.specs.declared.answer.Answer.{Answer}
use Rattle.client_work.specs.declared.answer.Answer.TheVariants as answer
use Rattle.client_work.specs.declared.listing.Listing.{Listing}
use Rattle.client_work.specs.declared.shown.Shown.{Shown}
use Rattle.client_work.specs.declared.work.Work.{Work}
use Rattle.client_work.specs.declared.work.Work.TheVariants.{Committing, Reading, Scanning}
use Rattle.cloud_facts.specs.Words.{Trouble, CommitAnswer, Entry, Answer as Reply, Turn, More, Ended, Stopped, CloudState, Caller, Seen, Ask, Book, Store, store_of, StandsUnder}
use Rattle.cloud_trait.specs.declared.answer.Answer.TheVariants.{Memory}
use Rattle.cloud_trait.specs.Machine.{LeadsBy, Took}
use Rattle.cloud_trait.specs.State.{Counts}
use Rattle.cloud_trait.specs.Weather.{Makes}
use Rattle.commit_run.specs.Run.{Run, home_of, run_ask, run_next}
use Rattle.commit_run.specs.Sound.{IsSoundRun}
use Rattle.db_base.specs.declared.trouble.CommitAnswer.TheVariants.{Committed, NotCommitted, InDoubt, CommittedOpen}
use Rattle.db_base.specs.declared.trouble.Trouble.TheVariants as trouble
use Rattle.page_cache.specs.Cache.{Cache}
use Rattle.range_scan.specs.Scan.{scan_ask, scan_next, KeepsServed}
use Rattle.recover_run.specs.declared.home.Home.{Home}
use Rattle.cloud_facts.proofs.Calls.Calls.{call_of}
use Rattle.cloud_facts.specs.Homes.Homes.{Part}
use Rattle.session_facts.specs.Machines.CommitRuns.Stops.{EndsBy}
use Rattle.session_facts.specs.Machines.CommitRuns.Knows.{KnowsRun}
use Rattle.session_facts.specs.Machines.Scans.Knows.{KnowsScanning, ScanLeads}
use Rattle.session_facts.specs.Sessions.Explains.{trouble_in, left_in, trouble_of_commit, trouble_of_answer, Meets, IsShown, left_told, Explains, spent_for}
use Rattle.session_facts.specs.Sessions.Calls.{calling_of, commit_reply}
use Rattle.session_facts.specs.Sessions.Knows.{leases_of}
use Rattle.session_facts.specs.Machines.Walks.Knows.{KnowsWalking, WalkLeads}
use Rattle.session_facts.proofs.Machines.CommitRuns.Explains.{run_shown}
use Rattle.session_facts.proofs.Machines.CommitRuns.Stops.{EndsWell}
use Rattle.session_facts.proofs.Machines.Scans.Explains.{scan_shown}
use Rattle.session_facts.proofs.Machines.Walks.Explains.{walk_shown}
use Rattle.tree_walk.specs.Walk.{Walk, walk_ask}
use Rattle.txn_buffer.specs.Noted.{Noted}
use Rattle.std.proofs.lemmas.Option.{same_Some}
use Rattle.session_facts.proofs.Sessions.Answered.{stopped_none}

pub no_trouble : (o : Option Trouble) (k : Trouble) → o ≡ None → o ≡ Some k → ⊥
no_trouble o k none some = cc

-- ---- operations that keep no trouble and delete nothing

committed_plain : (a : CommitAnswer) (home : Home) → trouble_in (committed_work a home) ≡ None
committed_plain InDoubt home = refl
committed_plain (CommittedOpen t) home = refl
committed_plain (Committed txn) home = refl
committed_plain (NotCommitted t) home = refl

module _ (ask : Ask) (c d : Counts) (s t : CloudState) (old new : Work) (before : trouble_in old ≡ None) (behind : trouble_in new ≡ None) where
  -- one that goes on
  pub goes_explains : left_in new ≡ 0 → Explains ask (c, s) (d, t) old new More
  goes_explains none = record {
    shown = λ plain clean k other meets. absurd (on k meets);
    kept = λ k e. absurd (no_trouble (trouble_in old) k before e);
    left = inl (omega (arith, none));
  }
    where
      on : (k : Trouble) → Meets new More k → ⊥
      on k (inl e) = no_trouble (trouble_in new) k behind e
      on k (inr e) = no_trouble None k refl e

  -- and one that ends: the trouble of its answer is shown
  pub ends_explains : (a : Answer) → left_told new (Ended a) ≡ 0 → ((k : Trouble) → trouble_of_answer a ≡ Some k → k ≢ trouble.Memory → IsShown ask (leases_of old) (spent_for old) (c, s) (d, t) k)
      → Explains ask (c, s) (d, t) old new (Ended a)
  ends_explains a none shows = record {
    shown = λ plain clean k other meets. on k other meets;
    kept = λ k e. absurd (no_trouble (trouble_in old) k before e);
    left = inl (omega (arith, none));
  }
    where
      on : (k : Trouble) → k ≢ trouble.Memory → Meets new (Ended a) k → IsShown ask (leases_of old) (spent_for old) (c, s) (d, t) k
      on k other (inl e) = absurd (no_trouble (trouble_in new) k behind e)
      on k other (inr e) = shows k e other

module _ (who : Caller) (before after : Seen) (s t : CloudState) (book : Book) (order : List Entry) (told : before.state ≡ Some s) (told_after : after.state ≡ Some t)
    (stands : StandsUnder book order s) where
  abbrev pub st : Store
  st = store_of book order s

  -- ---- a read

  module _ (home : Home) (w : Walk) (kept : Cache) (known : KnowsWalking st w kept) where
    abbrev Explained : Work → Turn Answer → Type 0
    Explained work turn = Explains (walk_ask w) (before.counts, s) (after.counts, t) (Reading home w) work turn

    abbrev ShowsRead : Trouble → Type 0
    ShowsRead k = IsShown (walk_ask w) (leases_of (Reading home w)) (spent_for (Reading home w)) (before.counts, s) (after.counts, t) k

    pub reading_explains : (buffer : List Noted) (d : Cache) (work : Work) (shown : Shown) (turn : Turn Answer) → ReadsBy who before after (in_hand home w kept) (acting_of buffer work d shown) turn → Explained work turn
    reading_explains buffer d work shown More (m, steps, work_is, none) =
        goes_explains (walk_ask w) before.counts after.counts s t (Reading home w) work refl (ap trouble_in work_is) (ap left_in work_is)
    reading_explains buffer d work shown (Ended answer.Value) (m, page, steps, at, work_is, none) =
        ends_explains (walk_ask w) before.counts after.counts s t (Reading home w) work refl (ap trouble_in work_is) answer.Value refl (λ k e other. absurd (no_trouble None k refl e))
    reading_explains buffer d work shown (Ended (answer.Trouble q)) (m, steps, work_is, none) =
        ends_explains (walk_ask w) before.counts after.counts s t (Reading home w) work refl (ap trouble_in work_is ∙ stopped_none q home) (answer.Trouble q) refl
        (λ k e other. subst ShowsRead (same_Some q k e) (stops (λ memory. other (sym (same_Some q k e) ∙ memory))))
      where
        stops : q ≢ trouble.Memory → ShowsRead q
        stops other =
            (subst (WalkLeads st ShowsRead) (steps.took.0 other)
            (walk_shown book order s stands who before after t told told_after (leases_of (Reading home w)) (spent_for (Reading home w)) w kept known steps.answer steps.made)).1
    reading_explains buffer d work shown (Stopped q) never = absurd never
    reading_explains buffer d work shown (Ended (answer.Opened epoch)) never = absurd never
    reading_explains buffer d work shown (Ended answer.Closed) never = absurd never
    reading_explains buffer d work shown (Ended (answer.Renewed end)) never = absurd never
    reading_explains buffer d work shown (Ended (answer.Done n)) never = absurd never
    reading_explains buffer d work shown (Ended (answer.Commit a)) never = absurd never
    reading_explains buffer d work shown (Ended answer.Scan) never = absurd never
    reading_explains buffer d work shown (Ended (answer.Settled n)) never = absurd never
    reading_explains buffer d work shown (Ended (answer.Swept x)) never = absurd never

  -- ---- a scan

  module _ (home : Home) (l : Listing) (kept : Cache) (known : KnowsScanning st l.scan kept) where
    abbrev ScanExplained : Work → Turn Answer → Type 0
    ScanExplained work turn = Explains (scan_ask l.scan) (before.counts, s) (after.counts, t) (Scanning home l) work turn

    abbrev ShowsScan : Trouble → Type 0
    ShowsScan k = IsShown (scan_ask l.scan) (leases_of (Scanning home l)) (spent_for (Scanning home l)) (before.counts, s) (after.counts, t) k

    -- at the end of a leaf memory alone runs out
    lists : (buffer : List Noted) (m : Listing) (d : Cache) (work : Work) (shown : Shown) (turn : Turn Answer) → ListsLeaf home m (acting_of buffer work d shown) turn → ScanExplained work turn
    lists buffer m d work shown More (all, listed, on, work_is, none) =
        goes_explains (scan_ask l.scan) before.counts after.counts s t (Scanning home l) work refl (ap trouble_in work_is) (ap left_in work_is)
    lists buffer m d work shown (Ended answer.Scan) (all, listed, on, work_is, none) =
        ends_explains (scan_ask l.scan) before.counts after.counts s t (Scanning home l) work refl (ap trouble_in work_is) answer.Scan refl (λ k e other. absurd (no_trouble None k refl e))
    lists buffer m d work shown (Ended (answer.Trouble q)) (memory, work_is, none) =
        ends_explains (scan_ask l.scan) before.counts after.counts s t (Scanning home l) work refl (ap trouble_in work_is) (answer.Trouble q) refl
        (λ k e other. absurd (other (sym (same_Some q k e) ∙ memory)))
    lists buffer m d work shown (Stopped q) never = absurd never
    lists buffer m d work shown (Ended (answer.Opened epoch)) never = absurd never
    lists buffer m d work shown (Ended answer.Closed) never = absurd never
    lists buffer m d work shown (Ended (answer.Renewed end)) never = absurd never
    lists buffer m d work shown (Ended (answer.Done n)) never = absurd never
    lists buffer m d work shown (Ended (answer.Commit a)) never = absurd never
    lists buffer m d work shown (Ended answer.Value) never = absurd never
    lists buffer m d work shown (Ended (answer.Settled n)) never = absurd never
    lists buffer m d work shown (Ended (answer.Swept x)) never = absurd never

    pub scanning_explains : (buffer : List Noted) (d : Cache) (work : Work) (shown : Shown) (turn : Turn Answer) → StepsScanning who before after (in_hand home l kept) (acting_of buffer work d shown) turn
        → ScanExplained work turn
    scanning_explains buffer d work shown turn p = on p.moved p.steps.took p.follows
      where
        leads : ScanLeads st ShowsScan (scan_next (l.scan, kept) p.steps.answer)
        leads = scan_shown book order s stands who before after t told told_after (leases_of (Scanning home l)) (spent_for (Scanning home l)) l.scan kept known p.steps.answer p.steps.made

        stops : (q : Trouble) → Took (LeadsBy scan_next) KeepsServed (l.scan, kept) p.steps.answer (p.scan, d) (Stopped q) → q ≢ trouble.Memory → ShowsScan q
        stops q took other = (subst (ScanLeads st ShowsScan) (took.0 other) leads).1

        on : (moved : Turn ℕ) → Took (LeadsBy scan_next) KeepsServed (l.scan, kept) p.steps.answer (p.scan, d) moved
            → Follows home (record { scan = p.scan; pairs = l.pairs }) moved (acting_of buffer work d shown) turn → ScanExplained work turn
        on More took (work_is, none, more) =
            subst (λ x. ScanExplained work x) (sym more)
            (goes_explains (scan_ask l.scan) before.counts after.counts s t (Scanning home l) work refl (ap trouble_in work_is) (ap left_in work_is))
        on (Ended page) took listed = lists buffer (record { scan = p.scan; pairs = l.pairs }) d work shown turn listed
        on (Stopped q) took (work_is, none, stopped) =
            subst (λ x. ScanExplained work x) (sym stopped)
            (ends_explains (scan_ask l.scan) before.counts after.counts s t (Scanning home l) work refl (ap trouble_in work_is ∙ stopped_none q home) (answer.Trouble q) refl
            (λ k e other. subst ShowsScan (same_Some q k e) (stops q took (λ memory. other (sym (same_Some q k e) ∙ memory)))))

  -- ---- a commit

  module _ (r : Run) (kept : Cache) (part : Part) (known : s.now ≤ t.now → KnowsRun st t.now (r, kept) part) (sound : IsSoundRun r) where
    abbrev CommitExplained : Work → Turn Answer → Type 0
    CommitExplained work turn = Explains (run_ask r) (before.counts, s) (after.counts, t) (Committing r) work turn

    abbrev ShowsCommit : Trouble → Type 0
    ShowsCommit k = IsShown (run_ask r) (leases_of (Committing r)) (spent_for (Committing r)) (before.counts, s) (after.counts, t) k

    -- where its call leads
    leads : (reply : Reply) → Makes who (run_ask r) reply before after → reply ≢ Memory → EndsWell ShowsCommit (run_next (r, kept) reply)
    leads reply made some =
        run_shown book order s stands who before after t told told_after (leases_of (Committing r)) (spent_for (Committing r)) (r, kept) part reply
        (known (call_of who (run_ask r) reply before after s t made told told_after).later) sound made some (λ what is. is)

    -- the trouble of the end of a commit
    end_shown : (a : CommitAnswer) (k : Trouble) → trouble_of_commit a ≡ Some k → EndsBy ShowsCommit a → ShowsCommit k
    end_shown (Committed txn) k e shows = absurd (no_trouble None k refl e)
    end_shown (NotCommitted q) k e shows = subst ShowsCommit (same_Some q k e) shows
    end_shown InDoubt k e shows = subst ShowsCommit (same_Some trouble.Failed k e) shows
    end_shown (CommittedOpen q) k e shows = subst ShowsCommit (same_Some q k e) shows

    -- by a call that found memory
    pub committing_explains : (c : Cache) (work : Work) (turn : Turn Answer) (steps : StepsCommit who before after (r, kept) (work, c) turn)
        → commit_reply (calling_of who before after) (r, kept) (work, c) turn steps ≢ Memory → CommitExplained work turn
    committing_explains c work More (m, steps, work_is, less) some =
        goes_explains (run_ask r) before.counts after.counts s t (Committing r) work refl (ap trouble_in work_is) (ap left_in work_is)
    committing_explains c work (Ended (answer.Commit a)) (m, steps, work_is) some =
        ends_explains (run_ask r) before.counts after.counts s t (Committing r) work refl (ap trouble_in work_is ∙ committed_plain a (home_of m)) (answer.Commit a) refl
        (λ k e other. end_shown a k e (subst (EndsWell ShowsCommit) steps.took (leads steps.answer steps.made some)))
    committing_explains c work (Ended (answer.Trouble q)) (m, steps, work_is) some =
        ends_explains (run_ask r) before.counts after.counts s t (Committing r) work refl (ap trouble_in work_is) (answer.Trouble q) refl
        (λ k e other. subst ShowsCommit (same_Some q k e)
        (subst (EndsWell ShowsCommit) (steps.took.0 (λ memory. other (sym (same_Some q k e) ∙ memory))) (leads steps.answer steps.made some)))
    committing_explains c work (Stopped q) never some = absurd never
    committing_explains c work (Ended (answer.Opened epoch)) never some = absurd never
    committing_explains c work (Ended answer.Closed) never some = absurd never
    committing_explains c work (Ended (answer.Renewed end)) never some = absurd never
    committing_explains c work (Ended (answer.Done n)) never some = absurd never
    committing_explains c work (Ended answer.Value) never some = absurd never
    committing_explains c work (Ended answer.Scan) never some = absurd never
    committing_explains c work (Ended (answer.Settled n)) never some = absurd never
    committing_explains c work (Ended (answer.Swept x)) never some = absurd never
