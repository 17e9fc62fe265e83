-- Every call of a session keeps what holds of a cloud and of all its sessions.
use Rattle.std.proofs.Common.{◌≡◌, ◌≢◌, ◌≤◌, ◌⊎◌, inl, inr, ℕ, List, [], ◌++◌, Option, Some, None, Result, Ok, Err, false, cond, refl, sym, ap, subst, ◌∙◌}
use Rattle.std.specs.Prelude.{map}
use Rattle.std.proofs.lemmas.Bool.{cases_eq}
use Rattle.std.proofs.lemmas.List.{append-nil}
use Rattle.attr_index.specs.Look.{look_ask}
use Rattle.client_work.specs.Session.{Acting, StepsSession, ask_of_work, opens_of, committing_of, applying_of, is_working, noted_behind, shown_behind}
use Rattle.client_work.specs.declared.answer.Answer.{Answer}
use Rattle.client_work.specs.declared.work.Work.{Work}
use Rattle.client_work.specs.declared.work.Work.TheVariants.{Closed, Idle, Opening, Committing, Reading, Scanning, Looking, Folding, Paging, Closing, Renewing, Settling, Sweeping, Broken}
use Rattle.cloud_facts.specs.Calls.Acting.{footing, actor, Setting, Outcome}
use Rattle.cloud_facts.specs.Calls.Looks.{has_landed, audit_of}
use Rattle.cloud_facts.proofs.Calls.Outcomes.{none_lands, weaker}
use Rattle.cloud_trait.proofs.EffectLemmas.{begins_itself}
use Rattle.cloud_facts.specs.Words.{Entry, Turn, CloudState, newest, Caller, Seen, Claim, Deed, Ask, Get, GetHeld, PutHeld, Send, Receive, Delete, Take, Renew, Release, Book, Store, at, store_of}
use Rattle.cloud_trait.specs.Ask.{ListHeld, RemoveHeld}
use Rattle.cloud_trait.specs.Weather.{Makes}
use Rattle.session_facts.specs.Machines.Commits.Knows.{MayCommit}
use Rattle.session_facts.proofs.Machines.Commits.Noted.{may_none}
use Rattle.commit_run.specs.Run.{run_ask}
use Rattle.session_facts.specs.Machines.CommitRuns.Audited.{run_note}
use Rattle.db_base.specs.declared.names.ObjName.TheVariants as object
use Rattle.db_base.specs.declared.refusal.Refused.{Refused}
use Rattle.db_base.specs.declared.refusal.Refused.TheVariants as refused
use Rattle.history.specs.Audited.{Audited, applied_entry}
use Rattle.cloud_facts.specs.Homes.Homes.{Part, Parts}
use Rattle.page_cache.specs.Cache.{Cache}
use Rattle.page_ckpt.specs.Paging.{paging_ask}
use Rattle.session_facts.specs.Machines.PageCheckpoints.Knows.{paging_note}
use Rattle.range_scan.specs.Scan.{scan_ask}
use Rattle.recover_run.specs.Recovery.{recovery_ask}
use Rattle.session_facts.specs.Sessions.Audited.{noted_head, noted_at, noted_in_hand, audited}
use Rattle.session_facts.specs.Sessions.Calls.{SessionStep, session_step}
use Rattle.session_facts.specs.Sessions.HeadPuts.{IsSoundWork}
use Rattle.session_facts.specs.Sessions.Led.{LedTo, LedOn, exchange_of, IsRow, RenewsHand}
use Rattle.session_facts.specs.Sessions.Knows.{ground, leases_of, KnowsWork, KnowsKept, Sessions, SessionsStand, Goes}
use Rattle.session_facts.proofs.Sessions.Steps.Commits.{commit_step, run_noted}
use Rattle.session_facts.proofs.Sessions.Steps.TreeCheckpoints.{making_step, making_noted}
use Rattle.session_facts.proofs.Sessions.Kept.{KnowsBoth, both_shown}
use Rattle.session_facts.proofs.Sessions.Led.{led_of, row_of, deed_of_step}
use Rattle.session_facts.proofs.Sessions.Laws.{call_goes, same_sessions, setting_of, known_at}
use Rattle.session_facts.proofs.Sessions.Steps.Leases.{passage, IsStepOf, closing_step, renewing_step}
use Rattle.session_facts.proofs.Sessions.Steps.Openings.{opening_step}
use Rattle.session_facts.proofs.Sessions.Steps.Walks.{reading_step}
use Rattle.session_facts.proofs.Sessions.Steps.Scans.{scanning_step}
use Rattle.session_facts.proofs.Sessions.Steps.Looks.{looking_step}
use Rattle.orphan_sweep.specs.Sweeping.{sweep_ask}
use Rattle.session_facts.proofs.Sessions.Steps.Settlings.{settling_step, settling_noted}
use Rattle.session_facts.proofs.Sessions.Steps.Sweeps.{sweeping_step}
use Rattle.session_facts.proofs.Machines.Sweeps.Noted.{sweep_noted}
use Rattle.tree_walk.specs.Walk.{walk_ask}
use Rattle.session_facts.proofs.Sessions.Steps.PageCheckpoints.{paging_step, paging_noted}
use Rattle.session_facts.specs.Machines.Settlings.Knows.{settling_note}
use Rattle.settle_run.specs.Settling.{settle_ask}
use Rattle.cloud_facts.specs.Book.Growth.{Grows}
use Rattle.cloud_facts.proofs.Book.GrowthLemmas.{grows_itself}
use Rattle.cloud_facts.proofs.Book.Names.{at_same, at_other}
use Rattle.tree_ckpt.specs.Making.{making_ask}
use Rattle.session_facts.specs.Machines.TreeCheckpoints.Knows.{making_note}
use Rattle.txn_buffer.specs.Noted.{Noted}
use Rattle.session_facts.specs.Machines.Walks.Caches.{KnowsCache}
use Rattle.std.proofs.lemmas.Option.{same_Some}

-- ---- what the audit takes

-- what is at work and neither commits nor applies adds nothing
nothing_noted : (work : Work) (ask : Ask) (a : Audited) → opens_of work ≡ None → applying_of work ≡ [] → noted_at work ask a ≡ a
nothing_noted work (PutHeld (object.Head client) bytes one two) a opens applies = ap (λ o. noted_head client o (committing_of work) a) opens ∙ none_opens (committing_of work)
  where
    none_opens : (changes : Option (List Noted)) → noted_head client None changes a ≡ a
    none_opens changes = refl
nothing_noted work (PutHeld (object.Page tree page) bytes one two) a opens applies =
    ap (λ items. record a { order = a.order ++ map (applied_entry tree) items }) applies ∙ ap (λ es. record a { order = es }) (append-nil a.order)
nothing_noted work (PutHeld (object.Tree tree) bytes one two) a opens applies = refl
nothing_noted work (Get name) a opens applies = refl
nothing_noted work (GetHeld name l) a opens applies = refl
nothing_noted work (ListHeld tree l) a opens applies = refl
nothing_noted work (RemoveHeld name l) a opens applies = refl
nothing_noted work (Send queue bytes) a opens applies = refl
nothing_noted work (Receive queue most) a opens applies = refl
nothing_noted work (Delete queue id) a opens applies = refl
nothing_noted work (Take lock ticks) a opens applies = refl
nothing_noted work (Renew l ticks) a opens applies = refl
nothing_noted work (Release l) a opens applies = refl

-- the same is added by another way of saying it
renoted : (who : Caller) (book : Book) (order : List Entry) (s t : CloudState) (parts : Parts) (mine : List Claim) (ask : Ask) (note other : Audited → Audited) (K : Store → ℕ → Part → Type 0)
    → note (audit_of book order) ≡ other (audit_of book order) → Outcome (footing book order s) t (actor parts who.session mine) ask note K → Outcome (footing book order s) t (actor parts who.session mine) ask other K
renoted who book order s t parts mine ask note other K same o = record {
  book_after = o.book_after;
  order_after = o.order_after;
  cloud = o.cloud;
  passes = o.passes;
  joins = o.joins;
  links = o.links;
  gone = o.gone;
  part = o.part;
  homes = o.homes;
  knows = o.knows;
  noted = ap (λ a. cond (has_landed (newest s) (newest t) (Some ask)) a (audit_of book order)) (sym same) ∙ o.noted;
}

-- a session that is not at work has no call
idle_goes : (s t : CloudState) (book : Book) (order : List Entry) (sessions : Sessions) (session : ℕ) (new : Acting) → t ≡ s → new ≡ sessions session → SessionsStand book order s sessions
    → Goes (ground book order s sessions) t session new
idle_goes s t book order sessions session new same as_was stand = record {
  book_after = book;
  order_after = order;
  stand = subst (λ (x : CloudState). SessionsStand book order x (at session new sessions)) (sym same) (same_sessions book order s sessions (at session new sessions) alike stand);
  log_goes_on = begins_itself book.log;
  order_goes_on = begins_itself order;
  grows = subst (λ (x : CloudState). Grows (store_of book order s) (store_of book order x)) (sym same) (grows_itself (store_of book order s));
  noted =
      ap (λ (x : CloudState). audited (newest s) (newest x) (sessions session).work (audit_of book order)) same
      ∙ ap (λ b. cond b (noted_in_hand (sessions session).work (ask_of_work (sessions session).work) (audit_of book order)) (audit_of book order))
      (none_lands (newest s) (ask_of_work (sessions session).work));
}
  where
    alike : (n : ℕ) → at session new sessions n ≡ sessions n
    alike n = on (cases_eq n session)
      where
        on : (n ≡ session) ⊎ (n ≢ session) → at session new sessions n ≡ sessions n
        on (inl e) = at_same session new sessions n e ∙ (as_was ∙ ap sessions (sym e))
        on (inr ne) = at_other session new sessions n ne

module _ (d : Deed) (s t : CloudState) (book : Book) (order : List Entry) (sessions : Sessions) (new : Acting) (told : d.before.state ≡ Some s) (told_after : d.after.state ≡ Some t)
    (stand : SessionsStand book order s sessions) (may : MayCommit new.buffer) where
  abbrev by : Caller
  by = d.who

  abbrev old : Work
  old = (sessions by.session).work

  -- a step of what is at work, as it is said of all sessions
  goes_by : (ask : Ask) (note : Audited → Audited) (c : Cache) → ask_of_work old ≡ Some ask → note (audit_of book order) ≡ noted_at old ask (audit_of book order)
      → new.cache ≡ shown_behind new.work c → IsStepOf (footing book order s) t stand.parts ask note (passage by old new.work c) → Goes (ground book order s sessions) t by.session new
  goes_by ask note c asks same shown step =
      call_goes by s t book order sessions new ask step.reply stand may step.call asks step.handles
      (subst (λ (k : Cache). Outcome (footing book order s) t (actor stand.parts by.session (leases_of old)) ask (noted_at old ask) (KnowsBoth k new.work)) (sym shown)
      (weaker by book order s t stand.parts (leases_of old) ask (noted_at old ask) (KnowsBoth c new.work) (KnowsBoth (shown_behind new.work c) new.work) (both_shown c new.work)
      (renoted by book order s t stand.parts (leases_of old) ask note (noted_at old ask) (KnowsBoth c new.work) same step.outcome)))

  abbrev st : Store
  st = store_of book order s

  abbrev Stepped : Ask → (Audited → Audited) → Cache → Work → Type 0
  Stepped ask note c work = IsStepOf (footing book order s) t stand.parts ask note (passage by work new.work c)

  abbrev kept : Cache
  kept = (sessions by.session).cache

  -- what stands before it and what is known, at the clock that it leaves
  setting_at : (work : Work) → old ≡ work → s.now ≤ t.now → Setting (footing book order s) t.now (actor stand.parts by.session (leases_of work))
  setting_at work is later = subst (λ w. Setting (footing book order s) t.now (actor stand.parts by.session (leases_of w))) is (setting_of book order s sessions stand t.now by.session later)

  known_now : (work : Work) → old ≡ work → KnowsWork st s.now kept work (stand.parts by.session)
  known_now work is = subst (λ w. KnowsWork st s.now kept w (stand.parts by.session)) is (stand.each by.session).work

  known_in : (work : Work) → old ≡ work → s.now ≤ t.now → KnowsWork st t.now kept work (stand.parts by.session)
  known_in work is later = subst (λ w. KnowsWork st t.now kept w (stand.parts by.session)) is (known_at book order s sessions stand t.now by.session later)

  cache_now : (work : Work) → old ≡ work → KnowsKept st kept work
  cache_now work is = subst (λ w. KnowsKept st kept w) is (stand.each by.session).kept

  -- the cache is as it was
  same_cache : (c : Cache) → c ≡ kept → KnowsCache st kept → KnowsCache st c
  same_cache c same k = subst (KnowsCache st) (sym same) k

  module _ (turn : Turn Answer) (c : Cache) (hand : ask_of_work old ≡ Some d.ask) (left : new.cache ≡ shown_behind new.work c) (row : IsRow d old new.work) where
    -- the row is that of the call in hand
    asked : (ask : Ask) → ask_of_work old ≡ Some ask → d.ask ≡ ask
    asked ask asks = same_Some d.ask ask (sym hand ∙ asks)

    made : (ask : Ask) → ask_of_work old ≡ Some ask → Makes by ask d.answer d.before d.after
    made ask asks = subst (λ a. Makes by a d.answer d.before d.after) (asked ask asks) row.made

    works : (work : Work) → old ≡ work → IsSoundWork work → LedTo (work, kept) d.answer (record new { cache = c }) turn → Goes (ground book order s sessions) t by.session new
    works (Opening r) is sound led =
        goes_by (recovery_ask r) (λ a. a) c (ap ask_of_work is)
        (sym (ap (λ w. noted_at w (recovery_ask r) (audit_of book order)) is ∙ nothing_noted (Opening r) (recovery_ask r) (audit_of book order) refl refl)) left
        (subst (Stepped (recovery_ask r) (λ a. a) c) (sym is)
        (opening_step by d.before d.after book order s t stand.parts r (setting_at (Opening r) is) (known_in (Opening r) is) sound c (same_cache c led.1 (cache_now (Opening r) is)) told told_after
        d.answer (made (recovery_ask r) (ap ask_of_work is)) new.work turn led.0))
    works (Committing r) is sound led =
        goes_by (run_ask r) (run_note r (run_ask r)) c (ap ask_of_work is)
        (sym (ap (λ q. noted_at q (run_ask r) (audit_of book order)) is ∙ run_noted r (run_ask r) (audit_of book order) refl)) left
        (subst (Stepped (run_ask r) (run_note r (run_ask r)) c) (sym is)
        (commit_step by d.before d.after book order s t stand.parts r kept c (setting_at (Committing r) is) (known_in (Committing r) is) sound told told_after
        d.answer (made (run_ask r) (ap ask_of_work is)) new.work turn led.0))
    works (Reading home w) is sound led =
        goes_by (walk_ask w) (λ a. a) c (ap ask_of_work is)
        (sym (ap (λ q. noted_at q (walk_ask w) (audit_of book order)) is ∙ nothing_noted (Reading home w) (walk_ask w) (audit_of book order) refl refl)) left
        (subst (Stepped (walk_ask w) (λ a. a) c) (sym is)
        (reading_step by d.before d.after book order s t stand.parts home w (setting_at (Reading home w) is) (λ later. (known_in (Reading home w) is later).0) (known_now (Reading home w) is).1
        kept c (cache_now (Reading home w) is) told told_after d.answer (made (walk_ask w) (ap ask_of_work is)) new.buffer new.work new.shown turn led))
    works (Scanning home m) is sound led =
        goes_by (scan_ask m.scan) (λ a. a) c (ap ask_of_work is)
        (sym (ap (λ q. noted_at q (scan_ask m.scan) (audit_of book order)) is ∙ nothing_noted (Scanning home m) (scan_ask m.scan) (audit_of book order) refl refl)) left
        (subst (Stepped (scan_ask m.scan) (λ a. a) c) (sym is)
        (scanning_step by d.before d.after book order s t stand.parts home m new.buffer (setting_at (Scanning home m) is) (λ later. (known_in (Scanning home m) is later).0)
        (known_now (Scanning home m) is).1 kept c (cache_now (Scanning home m) is) told told_after d.answer (made (scan_ask m.scan) (ap ask_of_work is)) new.work new.shown turn led))
    works (Looking home m) is sound led =
        goes_by (look_ask m) (λ a. a) c (ap ask_of_work is)
        (sym (ap (λ q. noted_at q (look_ask m) (audit_of book order)) is ∙ nothing_noted (Looking home m) (look_ask m) (audit_of book order) refl refl)) left
        (subst (Stepped (look_ask m) (λ a. a) c) (sym is)
        (looking_step by d.before d.after book order s t stand.parts home m new.buffer (setting_at (Looking home m) is) (λ later. (known_in (Looking home m) is later).0)
        (known_now (Looking home m) is).1 kept c (cache_now (Looking home m) is) told told_after d.answer (made (look_ask m) (ap ask_of_work is)) new.work new.shown turn led))
    works (Folding home m) is sound led =
        goes_by (making_ask m) (making_note m (making_ask m)) c (ap ask_of_work is)
        (sym (ap (λ q. noted_at q (making_ask m) (audit_of book order)) is ∙ making_noted home m (making_ask m) (audit_of book order))) left
        (subst (Stepped (making_ask m) (making_note m (making_ask m)) c) (sym is)
        (making_step by d.before d.after book order s t stand.parts home m (setting_at (Folding home m) is) (known_now (Folding home m) is).0 (known_now (Folding home m) is).1
        c (same_cache c led.1 (cache_now (Folding home m) is)) told told_after d.answer (made (making_ask m) (ap ask_of_work is)) new.work turn led.0))
    works (Paging home p) is sound led =
        goes_by (paging_ask p) (paging_note p (paging_ask p)) c (ap ask_of_work is)
        (sym (ap (λ q. noted_at q (paging_ask p) (audit_of book order)) is ∙ paging_noted home p (paging_ask p) (audit_of book order))) left
        (subst (Stepped (paging_ask p) (paging_note p (paging_ask p)) c) (sym is)
        (paging_step by d.before d.after book order s t stand.parts home p (setting_at (Paging home p) is) (known_now (Paging home p) is).0 (known_now (Paging home p) is).1
        c (same_cache c led.1 (cache_now (Paging home p) is)) told told_after d.answer (made (paging_ask p) (ap ask_of_work is)) new.work turn led.0))
    works (Closing l) is sound led =
        goes_by (Release l) (λ a. a) c (ap ask_of_work is) (sym (ap (λ w. noted_at w (Release l) (audit_of book order)) is)) left
        (subst (Stepped (Release l) (λ a. a) c) (sym is)
        (closing_step by d.before d.after book order s t stand.parts l (setting_at (Closing l) is) (known_now (Closing l) is) c (same_cache c led.1 (cache_now (Closing l) is)) told told_after
        d.answer (made (Release l) (ap ask_of_work is)) new.work turn led.0))
    works (Renewing home) is sound led =
        goes_by (Renew home.lease 600) (λ a. a) c (ap ask_of_work is) (sym (ap (λ w. noted_at w (Renew home.lease 600) (audit_of book order)) is)) left
        (subst (Stepped (Renew home.lease 600) (λ a. a) c) (sym is)
        (renewing_step by d.before d.after book order s t stand.parts home (setting_at (Renewing home) is) (known_in (Renewing home) is) c (same_cache c led.1 (cache_now (Renewing home) is))
        told told_after d.answer (made (Renew home.lease 600) (ap ask_of_work is)) new.work (subst (λ w. RenewsHand d w (leases_of new.work)) is row.renewed) turn led.0))
    works (Settling m) is sound led =
        goes_by (settle_ask m) (settling_note m (settle_ask m)) c (ap ask_of_work is)
        (sym (ap (λ q. noted_at q (settle_ask m) (audit_of book order)) is ∙ settling_noted m (settle_ask m) (audit_of book order))) left
        (subst (Stepped (settle_ask m) (settling_note m (settle_ask m)) c) (sym is)
        (settling_step by d.before d.after book order s t stand.parts m (setting_at (Settling m) is) (known_now (Settling m) is) sound
        c (same_cache c led.1 (cache_now (Settling m) is)) told told_after d.answer (made (settle_ask m) (ap ask_of_work is)) new.work turn led.0))
    works (Sweeping m) is sound led =
        goes_by (sweep_ask m) (λ a. a) c (ap ask_of_work is)
        (sym (ap (λ w. noted_at w (sweep_ask m) (audit_of book order)) is ∙ sweep_noted (Sweeping m) m (audit_of book order))) left
        (subst (Stepped (sweep_ask m) (λ a. a) c) (sym is)
        (sweeping_step by d.before d.after book order s t stand.parts m (setting_at (Sweeping m) is) (known_now (Sweeping m) is) c (same_cache c led.1 (cache_now (Sweeping m) is)) told told_after
        d.answer (made (sweep_ask m) (ap ask_of_work is)) new.work turn led.0))
    works Closed is sound never = absurd never
    works (Idle home) is sound never = absurd never
    works (Broken l) is sound never = absurd never

-- what was noted may still be committed
noted_may : (work : Work) (buffer : List Noted) → MayCommit buffer → MayCommit (noted_behind work buffer)
noted_may (Closing l) buffer may = may_none
noted_may Closed buffer may = may
noted_may (Idle home) buffer may = may
noted_may (Broken l) buffer may = may
noted_may (Opening r) buffer may = may
noted_may (Committing w) buffer may = may
noted_may (Folding home f) buffer may = may
noted_may (Paging home p) buffer may = may
noted_may (Renewing home) buffer may = may
noted_may (Reading home m) buffer may = may
noted_may (Scanning home m) buffer may = may
noted_may (Looking home m) buffer may = may
noted_may (Settling m) buffer may = may
noted_may (Sweeping m) buffer may = may

-- Whatever a session saw when it took its step: where its call is a row of a cloud that stands with all its sessions, the cloud stands behind it.
pub led_keeps : (d : Deed) (s t : CloudState) (book : Book) (order : List Entry) (sessions : Sessions) (new : Acting) (turn : Turn Answer) → d.before.state ≡ Some s → d.after.state ≡ Some t
    → SessionsStand book order s sessions → LedOn (exchange_of d.ask d.answer turn) (sessions d.who.session) new → IsRow d (sessions d.who.session).work new.work
    → Goes (ground book order s sessions) t d.who.session new
led_keeps d s t book order sessions new turn told told_after stand led row =
    let old : Acting = sessions d.who.session in
    works d s t book order sessions new told told_after stand
    (subst MayCommit (sym led.buffer) (noted_may old.work old.buffer (stand.each d.who.session).buffer)) turn led.cache led.hand led.kept row old.work refl led.sound led.led

-- what is not at work drops nothing that was noted
stays : (work : Work) (buffer : List Noted) → is_working work ≡ false → noted_behind work buffer ≡ buffer
stays Closed buffer e = refl
stays (Idle home) buffer e = refl
stays (Broken l) buffer e = refl
stays (Opening r) buffer e = refl
stays (Committing w) buffer e = refl
stays (Folding home f) buffer e = refl
stays (Paging home p) buffer e = refl
stays (Renewing home) buffer e = refl
stays (Reading home m) buffer e = refl
stays (Scanning home m) buffer e = refl
stays (Looking home m) buffer e = refl
stays (Settling m) buffer e = refl
stays (Sweeping m) buffer e = refl
stays (Closing l) buffer e = absurd (cc)

-- a call of a session: any answer, landed or not
pub session_keeps : (who : Caller) (before after : Seen) (s t : CloudState) (book : Book) (order : List Entry) (sessions : Sessions) (new : Acting) (result : Result (Turn Answer) Refused)
    → before.state ≡ Some s → after.state ≡ Some t → SessionsStand book order s sessions → StepsSession who before after (sessions who.session) new result
    → Goes (ground book order s sessions) t who.session new
session_keeps who before after s t book order sessions new (Ok turn) told told_after stand steps =
    let x : SessionStep = session_step who before after (sessions who.session) new turn in
    led_keeps (deed_of_step x steps) s t book order sessions new turn told told_after stand (led_of x steps) (row_of x steps)
session_keeps who before after s t book order sessions new (Err (refused.Rule r)) told told_after stand steps =
    idle_goes s t book order sessions who.session new (same_Some t s (sym told_after ∙ (ap (λ (x : Seen). x.state) steps.work.3 ∙ told)))
    (λ i. record {
      buffer = (steps.buffer ∙ stays (sessions who.session).work (sessions who.session).buffer steps.work.1) i;
      work = steps.work.2 i;
      cache = steps.shown.0 i;
      shown = steps.shown.1 i;
    }) stand
session_keeps who before after s t book order sessions new (Err refused.Memory) told told_after stand steps = absurd steps.work
