-- A step of a session explains what it brought.
use Rattle.std.proofs.Common.{◌≡◌, ◌≢◌, ◌≤◌, ◌⊎◌, ℕ, List, Some, None, Ok, refl, sym, subst, ◌∙◌}
use Rattle.attr_index.specs.Look.{look_ask}
use Rattle.client_work.specs.Session.{Acting, StepsSession, StepsAt, ShowsAt, ask_of_work, acting_of}
use Rattle.client_work.specs.declared.answer.Answer.{Answer}
use Rattle.client_work.specs.declared.shown.Shown.{Shown}
use Rattle.client_work.specs.declared.work.Work.{Work}
use Rattle.client_work.specs.declared.work.Work.TheVariants.{Closed, Idle, Opening, Committing, Reading, Scanning, Looking, Folding, Paging, Closing, Renewing, Settling, Sweeping, Broken}
use Rattle.cloud_facts.specs.Words.{Entry, Answer as Reply, Turn, CloudState, Caller, Seen, Ask, Renew, Release, Book, Store, store_of}
use Rattle.cloud_trait.specs.declared.answer.Answer.TheVariants.{Memory}
use Rattle.cloud_trait.proofs.RowLemmas.{leaves_grown}
use Rattle.cloud_trait.specs.Growth.{HasGrown}
use Rattle.cloud_facts.specs.Homes.Homes.{PartHolds}
use Rattle.cloud_facts.proofs.Calls.Calls.{call_of}
use Rattle.cloud_trait.specs.Weather.{Rose}
use Rattle.db_base.specs.declared.trouble.Trouble.TheVariants.{Waiting}
use Rattle.commit_run.specs.Run.{run_ask}
use Rattle.page_cache.specs.Cache.{Cache}
use Rattle.page_ckpt.specs.Paging.{paging_ask}
use Rattle.range_scan.specs.Scan.{scan_ask}
use Rattle.recover_run.specs.Recovery.{recovery_ask}
use Rattle.session_facts.specs.Sessions.Calls.{session_step, calling_of, IsExplained, WaitsLate, reply_at}
use Rattle.session_facts.specs.Sessions.Explains.{Explains, Meets, ReceivesLate, left_in, trouble_in}
use Rattle.session_facts.specs.Sessions.Knows.{KnowsKept, KnowsWork, Sessions, SessionsStand, leases_of}
use Rattle.session_facts.proofs.Machines.Openings.Explains.{opening_explains}
use Rattle.session_facts.proofs.Sessions.Laws.{setting_of, known_at}
use Rattle.session_facts.proofs.Sessions.Quiet.{paging_quiet, making_quiet, run_quiet}
use Rattle.session_facts.proofs.Sessions.Spent.{grown_all, told_later}
use Rattle.session_facts.proofs.Sessions.Waits.{opening_waits, settling_waits, quiet_waits}
use Rattle.session_facts.proofs.Lines.Outcome.{MadeCall, made_call}
use Rattle.session_facts.proofs.Sessions.Explains.TreeCheckpoints.{folding_explains}
use Rattle.session_facts.proofs.Sessions.Explains.Leases.{closing_explains, renewing_explains}
use Rattle.session_facts.proofs.Sessions.Explains.PageCheckpoints.{paging_explains}
use Rattle.session_facts.proofs.Sessions.Explains.Looks.{looking_explains}
use Rattle.session_facts.proofs.Sessions.Explains.Walks.{reading_explains, scanning_explains, committing_explains}
use Rattle.session_facts.proofs.Sessions.Explains.Settlings.{settling_explains}
use Rattle.session_facts.proofs.Sessions.Explains.Sweeps.{sweeping_explains}
use Rattle.session_facts.proofs.Machines.Sweeps.Noted.{never_receives, hand_is}
use Rattle.orphan_sweep.specs.Sweeping.{sweep_ask}
use Rattle.session_facts.specs.Machines.Looks.Knows.{KnowsLooking}
use Rattle.session_facts.specs.Machines.Scans.Knows.{KnowsScanning}
use Rattle.session_facts.specs.Machines.Walks.Knows.{KnowsWalking}
use Rattle.settle_run.specs.Settling.{settle_ask}
use Rattle.tree_ckpt.specs.Making.{making_ask}
use Rattle.tree_walk.specs.Walk.{walk_ask}
use Rattle.txn_buffer.specs.Noted.{Noted}

state_is : (x y : CloudState) → Some x ≡ Some y → x ≡ y
state_is x y e = cc

module _ (who : Caller) (before after : Seen) (s t : CloudState) (book : Book) (order : List Entry) (sessions : Sessions) (told : before.state ≡ Some s) (told_after : after.state ≡ Some t)
    (stand : SessionsStand book order s sessions) where
  abbrev old : Work
  old = (sessions who.session).work

  abbrev kept : Cache
  kept = (sessions who.session).cache

  abbrev st : Store
  st = store_of book order s

  -- what the session knows
  known_now : (work : Work) → old ≡ work → KnowsWork st s.now kept work (stand.parts who.session)
  known_now work is = subst (λ w. KnowsWork st s.now kept w (stand.parts who.session)) is (stand.each who.session).work

  known_in : (work : Work) → old ≡ work → s.now ≤ t.now → KnowsWork st t.now kept work (stand.parts who.session)
  known_in work is later = subst (λ w. KnowsWork st t.now kept w (stand.parts who.session)) is (known_at book order s sessions stand t.now who.session later)

  cache_now : (work : Work) → old ≡ work → KnowsKept st kept work
  cache_now work is = subst (λ w. KnowsKept st kept w) is (stand.each who.session).kept

  -- by what was at work
  abbrev Explained : Work → Work → Turn Answer → Reply → Type 0
  Explained work new turn reply = (ask : Ask) × (ask_of_work work ≡ Some ask) × (reply ≢ Memory → Explains ask (before.counts, s) (after.counts, t) work new turn)

  later_at : (work new : Work) (turn : Turn Answer) → StepsAt who before after work new turn → s.now ≤ t.now
  later_at work new turn steps =
      let c : MadeCall who before after work = made_call who before after work new turn steps in
      (call_of who c.ask c.answer before after s t c.made told told_after).later

  grown_at : (work new : Work) (turn : Turn Answer) → StepsAt who before after work new turn → HasGrown s t
  grown_at work new turn steps =
      let c : MadeCall who before after work = made_call who before after work new turn steps in
      let l = c.made.state s told in
      subst (HasGrown s) (state_is l.after t (sym l.told ∙ told_after)) (leaves_grown who c.ask c.answer before.counts after.counts s after.state l)

  -- where it comes to wait
  abbrev Waits : Work → Work → Turn Answer → Type 0
  Waits work new turn =
      trouble_in work ≡ None → left_in work ≡ 0 → (have need : ℕ) → Meets new turn (Waiting have need)
      → Rose before.counts.withheld after.counts.withheld ⊎ WaitsLate new turn t.now

  by_work : (buffer : List Noted) (work new : Work) (c : Cache) (shown : Shown) (turn : Turn Answer) → old ≡ work → (steps : StepsAt who before after work new turn)
      → (shows : ShowsAt who before after (work, kept) (acting_of buffer new c shown) turn)
      → Explained work new turn (reply_at (calling_of who before after) (work, kept) (acting_of buffer new c shown) turn steps shows)
  by_work buffer (Opening r) new c shown turn is steps shows =
      (recovery_ask r, refl, λ found. opening_explains who before after s t book order sessions told told_after stand r is steps.0 new turn steps.1)
  by_work buffer (Committing r) new c shown turn is steps shows = (
    run_ask r,
    refl,
    committing_explains who before after s t book order told told_after stand.cloud r kept (stand.parts who.session) (λ later. known_in (Committing r) is later)
        steps.0 c new turn shows.0,
  )
  by_work buffer (Reading home w) new c shown turn is steps shows =
      let knows : KnowsWalking st w kept = record { walk = (known_now (Reading home w) is).1; cache = cache_now (Reading home w) is } in
      (walk_ask w, refl, λ found. reading_explains who before after s t book order told told_after stand.cloud home w kept knows buffer c new shown turn shows)
  by_work buffer (Scanning home l) new c shown turn is steps shows =
      let knows : KnowsScanning st l.scan kept = record { scan = (known_now (Scanning home l) is).1; cache = cache_now (Scanning home l) is } in
      (scan_ask l.scan, refl, λ found. scanning_explains who before after s t book order told told_after stand.cloud home l kept knows buffer c new shown turn shows)
  by_work buffer (Looking home l) new c shown turn is steps shows =
      let knows : KnowsLooking st l kept = record { look = (known_now (Looking home l) is).1; cache = cache_now (Looking home l) is } in
      (look_ask l, refl, λ found. looking_explains who before after s t book order told told_after stand.cloud home l kept knows buffer c new shown turn shows)
  by_work buffer (Folding home m) new c shown turn is steps shows =
      (making_ask m, refl, folding_explains who before after s t book order sessions told told_after stand home m is (grown_all s t (grown_at (Folding home m) new turn steps)) new turn steps)
  by_work buffer (Paging home p) new c shown turn is steps shows = (
    paging_ask p,
    refl,
    paging_explains who before after s t told told_after st s.now home p (known_now (Paging home p) is).1
        (told_later book order s t stand.cloud (grown_all s t (grown_at (Paging home p) new turn steps))) new turn steps,
  )
  by_work buffer (Closing l) new c shown turn is steps shows = (Release l, refl, λ found. closing_explains who before after s t told told_after l new turn steps)
  by_work buffer (Renewing home) new c shown turn is steps shows = (Renew home.lease 600, refl, λ found. renewing_explains who before after s t told told_after home new turn steps)
  by_work buffer (Settling m) new c shown turn is steps shows =
      (settle_ask m, refl, settling_explains who before after s t book order sessions told told_after stand m is (grown_all s t (grown_at (Settling m) new turn steps)) steps.0 new turn steps.1)
  by_work buffer (Sweeping m) new c shown turn is steps shows =
      (sweep_ask m, refl, λ found. sweeping_explains who before after s t told told_after m st s.now (stand.parts who.session) (known_now (Sweeping m) is) new turn steps)
  by_work buffer Closed new c shown turn is never shows = absurd never
  by_work buffer (Idle home) new c shown turn is never shows = absurd never
  by_work buffer (Broken l) new c shown turn is never shows = absurd never

  waits_at : (work new : Work) (turn : Turn Answer) → old ≡ work → StepsAt who before after work new turn → (ask : Ask) → ask_of_work work ≡ Some ask
      → Explains ask (before.counts, s) (after.counts, t) work new turn → Waits work new turn
  waits_at (Opening r) new turn is steps ask hand x = λ none clean have need meets.
      opening_waits who before after s t st r (stand.parts who.session) (known_in (Opening r) is (later_at (Opening r) new turn steps)) new turn steps.1
      (subst (λ a. Explains a (before.counts, s) (after.counts, t) (Opening r) new turn) (cc (hand)) x) none have need meets
  waits_at (Settling m) new turn is steps ask hand x = λ none clean have need meets.
      settling_waits who before after s t book order told told_after stand.cloud (stand.parts who.session) (holds (later_at (Settling m) new turn steps)) m
      (known_in (Settling m) is (later_at (Settling m) new turn steps)).work steps.0 new turn steps.1 none have need meets
    where
      holds : s.now ≤ t.now → PartHolds st.tally t.now (stand.parts who.session)
      holds later = (setting_of book order s sessions stand t.now who.session later).homes.each who.session
  waits_at (Sweeping m) new turn is steps ask hand x =
      quiet_waits ask before.counts after.counts s t (Sweeping m) new turn
      (λ late. never_receives m (leases_of (Sweeping m)) t.now (subst (λ a. ReceivesLate a (leases_of (Sweeping m)) t.now) (sym (hand_is m ask hand)) late)) x
  waits_at (Committing r) new turn is steps ask hand x =
      quiet_waits ask before.counts after.counts s t (Committing r) new turn
      (λ late. run_quiet (leases_of (Committing r)) t.now r (subst (λ a. ReceivesLate a (leases_of (Committing r)) t.now) (cc (hand)) late)) x
  waits_at (Folding home m) new turn is steps ask hand x =
      quiet_waits ask before.counts after.counts s t (Folding home m) new turn
      (λ late. making_quiet (leases_of (Folding home m)) t.now m (subst (λ a. ReceivesLate a (leases_of (Folding home m)) t.now) (cc (hand)) late)) x
  waits_at (Paging home p) new turn is steps ask hand x =
      quiet_waits ask before.counts after.counts s t (Paging home p) new turn
      (λ late. paging_quiet (leases_of (Paging home p)) t.now p (subst (λ a. ReceivesLate a (leases_of (Paging home p)) t.now) (cc (hand)) late)) x
  waits_at (Reading home w) new turn is steps ask hand x =
      quiet_waits ask before.counts after.counts s t (Reading home w) new turn
      (λ late. let same : ask ≡ walk_ask w = cc (hand) in subst (λ a. ReceivesLate a (leases_of (Reading home w)) t.now) same late) x
  waits_at (Scanning home l) new turn is steps ask hand x =
      quiet_waits ask before.counts after.counts s t (Scanning home l) new turn
      (λ late. let same : ask ≡ scan_ask l.scan = cc (hand) in subst (λ a. ReceivesLate a (leases_of (Scanning home l)) t.now) same late) x
  waits_at (Looking home l) new turn is steps ask hand x =
      quiet_waits ask before.counts after.counts s t (Looking home l) new turn
      (λ late. let same : ask ≡ look_ask l = cc (hand) in subst (λ a. ReceivesLate a (leases_of (Looking home l)) t.now) same late) x
  waits_at (Closing l) new turn is steps ask hand x =
      quiet_waits ask before.counts after.counts s t (Closing l) new turn
      (λ late. let same : ask ≡ Release l = cc (hand) in subst (λ a. ReceivesLate a (leases_of (Closing l)) t.now) same late) x
  waits_at (Renewing home) new turn is steps ask hand x =
      quiet_waits ask before.counts after.counts s t (Renewing home) new turn
      (λ late. let same : ask ≡ Renew home.lease 600 = cc (hand) in subst (λ a. ReceivesLate a (leases_of (Renewing home)) t.now) same late) x
  waits_at Closed new turn is never ask hand x = absurd never
  waits_at (Idle home) new turn is never ask hand x = absurd never
  waits_at (Broken l) new turn is never ask hand x = absurd never

  own_explains : (new : Acting) (turn : Turn Answer) → (steps : StepsSession who before after (sessions who.session) new (Ok turn))
      → IsExplained (session_step who before after (sessions who.session) new turn) s t steps
  own_explains new turn steps =
      let e = by_work new.buffer old new.work steps.shown.0 new.shown turn refl steps.work steps.shown.1 in
      record {
        ask = e.0;
        hand = e.1;
        grown = grown_at old new.work turn steps.work;
        explains = e.2;
        waits = λ found. waits_at old new.work turn refl steps.work e.0 e.1 (e.2 found);
      }

  -- a step of a session
  pub session_explains : (a new : Acting) (turn : Turn Answer) → sessions who.session ≡ a → (steps : StepsSession who before after a new (Ok turn))
      → IsExplained (session_step who before after a new turn) s t steps
  session_explains a new turn is =
      subst (λ (b : Acting). (steps : StepsSession who before after b new (Ok turn)) → IsExplained (session_step who before after b new turn) s t steps) is (own_explains new turn)
