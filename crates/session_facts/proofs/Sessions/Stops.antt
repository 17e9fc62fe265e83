-- A session is answered with no trouble that only damage could cause, and a commit ends with none.
use Rattle.std.proofs.Common.{◌≡◌, ◌≢◌, ◌≤◌, ◌⊎◌, inl, inr, ℕ, List, [], ◌∷◌, Some, Ok, refl, sym, subst}
use Rattle.attr_index.specs.Look.{Look, look_ask}
use Rattle.client_work.specs.Session.{Acting, StepsSession, StepsAt, ShowsAt, StepsOpening, StepsCommit, ReadsBy, LooksBy, Follows, StepsScanning, StepsPaging, StepsFolding, StepsSettling, StepsSweeping, acting_of, in_hand}
use Rattle.client_work.specs.Shows.{own_of}
use Rattle.client_work.specs.declared.answer.Answer.{Answer}
use Rattle.client_work.specs.declared.answer.Answer.TheVariants as answer
use Rattle.client_work.specs.declared.listing.Listing.{Listing}
use Rattle.client_work.specs.declared.shown.Shown.{Shown}
use Rattle.client_work.specs.declared.work.Work.{Work}
use Rattle.client_work.specs.declared.work.Work.TheVariants.{Closed, Idle, Opening, Committing, Reading, Scanning, Looking, Folding, Paging, Closing, Renewing, Settling, Sweeping, Broken}
use Rattle.cloud_facts.specs.Calls.Acting.{footing, actor, Setting}
use Rattle.cloud_facts.specs.Words.{Trouble, CommitAnswer, Entry, Answer as Reply, Turn, More, Ended, Stopped, CloudState, Caller, Seen, Ask, Book, Store, store_of, IsCall}
use Rattle.cloud_facts.proofs.Calls.Calls.{call_of}
use Rattle.cloud_trait.specs.Machine.{LeadsBy, Took}
use Rattle.cloud_trait.specs.Weather.{Makes}
use Rattle.commit_run.specs.Run.{Run, run_ask}
use Rattle.session_facts.specs.Machines.CommitRuns.Stops.{MayStopCommit, MayEnd}
use Rattle.session_facts.proofs.Machines.CommitRuns.Stops.{EndsWell, run_ends}
use Rattle.db_base.specs.declared.trouble.Trouble.TheVariants as trouble
use Rattle.session_facts.specs.Machines.Openings.Knows.{MayStopOpening}
use Rattle.session_facts.proofs.Machines.Openings.Stops.{opening_stops}
use Rattle.page_cache.specs.Cache.{Cache}
use Rattle.page_ckpt.specs.Paging.{paging_ask, Paging as Page}
use Rattle.session_facts.specs.Machines.PageCheckpoints.Knows.{MayStopPage}
use Rattle.session_facts.proofs.Machines.PageCheckpoints.Outcome.{paging_stops}
use Rattle.range_scan.specs.Scan.{scan_ask, scan_next, KeepsServed}
use Rattle.recover_run.specs.declared.home.Home.{Home}
use Rattle.recover_run.specs.Recovery.{Recovery, recovery_ask}
use Rattle.session_facts.proofs.Machines.Looks.Outcome.{look_stops}
use Rattle.session_facts.proofs.Machines.Scans.Outcome.{scan_stops}
use Rattle.session_facts.specs.Sessions.Stops.{MayRefuse, MayAnswer}
use Rattle.session_facts.specs.Sessions.Knows.{leases_of, KnowsWork, KnowsKept, Sessions, SessionsStand}
use Rattle.session_facts.proofs.Sessions.Laws.{setting_of, known_at}
use Rattle.session_facts.proofs.Machines.Settlings.Stops.{settling_stops}
use Rattle.orphan_sweep.specs.Sweeping.{Sweeping as SweepingState, sweep_ask}
use Rattle.session_facts.proofs.Machines.Sweeps.Outcome.{sweep_stops}
use Rattle.settle_run.specs.Settling.{Settling as SettlingState, settle_ask}
use Rattle.cloud_facts.proofs.Book.Places.{in_behind}
use Rattle.tree_ckpt.specs.Making.{Making, making_ask}
use Rattle.session_facts.specs.Machines.TreeCheckpoints.Knows.{MayStopTree, leases_of_making}
use Rattle.session_facts.proofs.Machines.TreeCheckpoints.Outcome.{making_stops}
use Rattle.tree_walk.specs.Walk.{Walk, walk_ask}
use Rattle.txn_buffer.specs.Noted.{Noted}
use Rattle.session_facts.specs.Machines.Walks.Knows.{MayStopWalk}
use Rattle.session_facts.proofs.Machines.Walks.Outcome.{walk_stops}
use Rattle.tree_walk.proofs.Demands.{memory_or}
use Rattle.session_facts.proofs.Machines.Refusals.{TakesRefusals, done_may, renewed_may}

-- a trouble is want of memory, or what comes of it where memory did not run out
pub or_memory : (May : Trouble → Type 0) (k : Trouble) → May trouble.Memory → (k ≢ trouble.Memory → May k) → May k
or_memory May k memory other = on (memory_or k)
  where
    on : (k ≡ trouble.Memory) ⊎ (k ≢ trouble.Memory) → May k
    on (inl e) = subst May (sym e) memory
    on (inr ne) = other ne

-- a close or a renewal is answered so where its call brings no value
call_refusals : TakesRefusals MayRefuse
call_refusals = record { failed = tt; late = λ until now. tt; memory = tt }

module _ (who : Caller) (before after : Seen) (s t : CloudState) (book : Book) (order : List Entry) (sessions : Sessions) (told : before.state ≡ Some s) (told_after : after.state ≡ Some t)
    (stand : SessionsStand book order s sessions) where
  abbrev old : Work
  old = (sessions who.session).work

  abbrev kept : Cache
  kept = (sessions who.session).cache

  abbrev st : Store
  st = store_of book order s

  setting_at : (work : Work) → old ≡ work → s.now ≤ t.now → Setting (footing book order s) t.now (actor stand.parts who.session (leases_of work))
  setting_at work is later = subst (λ w. Setting (footing book order s) t.now (actor stand.parts who.session (leases_of w))) is (setting_of book order s sessions stand t.now who.session later)

  known_now : (work : Work) → old ≡ work → KnowsWork st s.now kept work (stand.parts who.session)
  known_now work is = subst (λ w. KnowsWork st s.now kept w (stand.parts who.session)) is (stand.each who.session).work

  known_in : (work : Work) → old ≡ work → s.now ≤ t.now → KnowsWork st t.now kept work (stand.parts who.session)
  known_in work is later = subst (λ w. KnowsWork st t.now kept w (stand.parts who.session)) is (known_at book order s sessions stand t.now who.session later)

  cache_now : (work : Work) → old ≡ work → KnowsKept st kept work
  cache_now work is = subst (λ w. KnowsKept st kept w) is (stand.each who.session).kept

  called : (ask : Ask) (reply : Reply) → Makes who ask reply before after → IsCall who ask reply s t
  called ask reply made = call_of who ask reply before after s t made told told_after

  -- ---- by what is at work

  opening_may : (r : Recovery) → old ≡ Opening r → (work : Work) (k : Trouble) → StepsOpening who before after r work (Ended (answer.Trouble k)) → MayStopOpening k
  opening_may r is work k (m, steps, closed) =
      let call = called (recovery_ask r) steps.answer steps.made in
      or_memory MayStopOpening k tt
      (λ other. opening_stops st t.now r (stand.parts who.session) steps.answer (known_in (Opening r) is call.later) m k (steps.took.0 other))

  commit_may : (r : Run) → old ≡ Committing r → (c : Cache) (work : Work) (k : Trouble) → StepsCommit who before after (r, kept) (work, c) (Ended (answer.Trouble k)) → MayStopCommit k
  commit_may r is c work k (m, steps, broken) =
      let call = called (run_ask r) steps.answer steps.made in
      or_memory MayStopCommit k tt
      (λ other. subst (EndsWell MayStopCommit) (steps.took.0 other)
      (run_ends book order s stand.cloud who t (r, kept) (stand.parts who.session) steps.answer (known_in (Committing r) is call.later) call))

  reading_may : (home : Home) (w : Walk) → old ≡ Reading home w → (buffer : List Noted) (d : Cache) (work : Work) (shown : Shown) (k : Trouble) → ReadsBy who before after (in_hand home w kept) (acting_of buffer work d shown) (Ended (answer.Trouble k))
      → MayStopWalk k
  reading_may home w is buffer d work shown k (m, steps, left, none) =
      let call = called (walk_ask w) steps.answer steps.made in
      or_memory MayStopWalk k tt
      (λ other. walk_stops book order s stand.cloud who w kept steps.answer t (m, d) k call
      (record { walk = (known_now (Reading home w) is).1; cache = cache_now (Reading home w) is }) (steps.took.0 other))

  scanning_may : (home : Home) (l : Listing) → old ≡ Scanning home l → (buffer : List Noted) (d : Cache) (work : Work) (shown : Shown) (k : Trouble)
      → StepsScanning who before after (in_hand home l kept) (acting_of buffer work d shown) (Ended (answer.Trouble k)) → MayStopWalk k
  scanning_may home l is buffer d work shown k p = on p.moved p.steps.took p.follows
    where
      call : IsCall who (scan_ask l.scan) p.steps.answer s t
      call = called (scan_ask l.scan) p.steps.answer p.steps.made

      same : (a b : Trouble) → (let x : Turn Answer = Ended (answer.Trouble a) in let y : Turn Answer = Ended (answer.Trouble b) in x ≡ y) → a ≡ b
      same a b e = cc

      never : (let x : Turn Answer = Ended (answer.Trouble k) in let y : Turn Answer = More in x ≡ y) → ⊥
      never e = cc

      on : (moved : Turn ℕ) → Took (LeadsBy scan_next) KeepsServed (l.scan, kept) p.steps.answer (p.scan, d) moved
          → Follows home (record { scan = p.scan; pairs = l.pairs }) moved (acting_of buffer work d shown) (Ended (answer.Trouble k)) → MayStopWalk k
      on More took (work_is, none, more) = absurd (never more)
      on (Ended page) took (memory, broken, none) = subst MayStopWalk (sym memory) tt
      on (Stopped q) took (work_is, none, stopped) =
          subst MayStopWalk (sym (same k q stopped))
          (or_memory MayStopWalk q tt
          (λ other. (scan_stops book order s stand.cloud who l.scan kept p.steps.answer t (p.scan, d) q call
          (record { scan = (known_now (Scanning home l) is).1; cache = cache_now (Scanning home l) is }) (took.0 other)).1))

  looking_may : (home : Home) (l : Look) → old ≡ Looking home l → (buffer : List Noted) (d : Cache) (work : Work) (shown : Shown) (k : Trouble)
      → LooksBy who before after (in_hand home l kept) (acting_of buffer work d shown) (Ended (answer.Trouble k)) → MayStopWalk k
  looking_may home l is buffer d work shown k (m, steps, left, none) =
      let call = called (look_ask l) steps.walked.answer steps.walked.made in
      or_memory MayStopWalk k tt
      (λ other. look_stops book order s stand.cloud who (own_of home buffer) l kept steps.walked.answer t (m, d) k call
      (record { look = (known_now (Looking home l) is).1; cache = cache_now (Looking home l) is }) (steps.took.0 other))

  folding_may : (home : Home) (m : Making) → old ≡ Folding home m → (work : Work) (k : Trouble) → StepsFolding who before after (home, m) work (Ended (answer.Trouble k)) → MayStopTree k
  folding_may home m is work k (n, steps, left) =
      let call = called (making_ask m) steps.answer steps.made in
      or_memory MayStopTree k tt
      (λ other. making_stops who s t book order stand.parts (leases_of (Folding home m)) m steps.answer (setting_at (Folding home m) is call.later)
      (λ x there. in_behind (home.lease ∷ []) (leases_of_making m) x there) (known_now (Folding home m) is).1 call n k (steps.took.0 other))

  paging_may : (home : Home) (p : Page) → old ≡ Paging home p → (work : Work) (k : Trouble) → StepsPaging who before after (home, p) work (Ended (answer.Trouble k)) → MayStopPage p.page k
  paging_may home p is work k (q, steps, left) =
      let call = called (paging_ask p) steps.answer steps.made in
      or_memory (MayStopPage p.page) k tt
      (λ other. paging_stops who s t book order stand.parts (leases_of (Paging home p)) p steps.answer (setting_at (Paging home p) is call.later) (known_now (Paging home p) is).1 call q k
      (steps.took.0 other))

  settling_may : (m : SettlingState) → old ≡ Settling m → (work : Work) (k : Trouble) → StepsSettling who before after m work (Ended (answer.Trouble k)) → MayAnswer (Settling m) k
  settling_may m is work k (n, steps, closed) =
      let call = called (settle_ask m) steps.did.answer steps.did.made in
      or_memory (MayAnswer (Settling m)) k tt
      (λ other. settling_stops who s t book order stand.parts steps.did.answer m (setting_at (Settling m) is call.later) (known_now (Settling m) is) call n k (steps.did.took.0 other))

  sweeping_may : (m : SweepingState) → old ≡ Sweeping m → (work : Work) (k : Trouble) → StepsSweeping who before after m work (Ended (answer.Trouble k)) → MayAnswer (Sweeping m) k
  sweeping_may m is work k (n, steps, closed) =
      let call = called (sweep_ask m) steps.did.answer steps.did.made in
      or_memory (MayAnswer (Sweeping m)) k tt
      (λ other. sweep_stops who s t book order stand.parts steps.did.answer m (setting_at (Sweeping m) is call.later) (known_now (Sweeping m) is) call n k (steps.did.took.0 other))

  -- ---- the whole

  by_work : (buffer : List Noted) (work new : Work) (c : Cache) (shown : Shown) (k : Trouble) → old ≡ work → StepsAt who before after work new (Ended (answer.Trouble k))
      → ShowsAt who before after (work, kept) (acting_of buffer new c shown) (Ended (answer.Trouble k)) → MayAnswer work k
  by_work buffer (Opening r) new c shown k is steps shows = opening_may r is new k steps.1
  by_work buffer (Committing r) new c shown k is steps shows = commit_may r is c new k shows.0
  by_work buffer (Reading home w) new c shown k is steps shows = reading_may home w is buffer c new shown k shows
  by_work buffer (Scanning home l) new c shown k is steps shows = scanning_may home l is buffer c new shown k shows
  by_work buffer (Looking home l) new c shown k is steps shows = looking_may home l is buffer c new shown k shows
  by_work buffer (Folding home m) new c shown k is steps shows = folding_may home m is new k steps
  by_work buffer (Paging home p) new c shown k is steps shows = paging_may home p is new k steps
  by_work buffer (Closing l) new c shown k is steps shows = done_may call_refusals steps.0.answer k steps.0.took
  by_work buffer (Renewing home) new c shown k is steps shows = renewed_may call_refusals steps.1.answer k steps.1.took
  by_work buffer (Settling m) new c shown k is steps shows = settling_may m is new k steps.1
  by_work buffer (Sweeping m) new c shown k is steps shows = sweeping_may m is new k steps
  by_work buffer Closed new c shown k is never shows = absurd never
  by_work buffer (Idle home) new c shown k is never shows = absurd never
  by_work buffer (Broken l) new c shown k is never shows = absurd never

  -- a step that is answered with a trouble
  pub session_stops : (new : Acting) (k : Trouble) → StepsSession who before after (sessions who.session) new (Ok (Ended (answer.Trouble k))) → MayAnswer old k
  session_stops new k steps = by_work new.buffer old new.work steps.shown.0 new.shown k refl steps.work steps.shown.1

  -- ---- a commit

  commit_ends : (r : Run) → old ≡ Committing r → (c : Cache) (work : Work) (a : CommitAnswer) → StepsCommit who before after (r, kept) (work, c) (Ended (answer.Commit a)) → MayEnd a
  commit_ends r is c work a (m, steps, left) =
      let call = called (run_ask r) steps.answer steps.made in
      subst (EndsWell MayStopCommit) steps.took
      (run_ends book order s stand.cloud who t (r, kept) (stand.parts who.session) steps.answer (known_in (Committing r) is call.later) call)

  by_commit : (buffer : List Noted) (work new : Work) (c : Cache) (shown : Shown) (a : CommitAnswer) → old ≡ work → StepsAt who before after work new (Ended (answer.Commit a))
      → ShowsAt who before after (work, kept) (acting_of buffer new c shown) (Ended (answer.Commit a)) → MayEnd a
  by_commit buffer (Committing r) new c shown a is steps shows = commit_ends r is c new a shows.0
  by_commit buffer (Opening r) new c shown a is never shows = absurd never.1
  by_commit buffer (Reading home w) new c shown a is never shows = absurd never
  by_commit buffer (Scanning home l) new c shown a is steps shows = absurd (lists shows.moved shows.follows)
    where
      lists : (moved : Turn ℕ) → Follows home (record { scan = shows.scan; pairs = l.pairs }) moved (acting_of buffer new c shown) (Ended (answer.Commit a)) → ⊥
      lists More (work_is, none, more) = cc
      lists (Ended page) never = never
      lists (Stopped q) (work_is, none, stopped) = cc
  by_commit buffer (Looking home l) new c shown a is steps shows = absurd shows
  by_commit buffer (Folding home m) new c shown a is never shows = absurd never
  by_commit buffer (Paging home p) new c shown a is never shows = absurd never
  by_commit buffer (Closing l) new c shown a is never shows = absurd never
  by_commit buffer (Renewing home) new c shown a is never shows = absurd never
  by_commit buffer (Settling m) new c shown a is never shows = absurd never.1
  by_commit buffer (Sweeping m) new c shown a is never shows = absurd never
  by_commit buffer Closed new c shown a is never shows = absurd never
  by_commit buffer (Idle home) new c shown a is never shows = absurd never
  by_commit buffer (Broken l) new c shown a is never shows = absurd never

  -- a step that is answered with the end of a commit
  pub session_ends : (new : Acting) (a : CommitAnswer) → StepsSession who before after (sessions who.session) new (Ok (Ended (answer.Commit a))) → MayEnd a
  session_ends new a steps = by_commit new.buffer old new.work steps.shown.0 new.shown a refl steps.work steps.shown.1
