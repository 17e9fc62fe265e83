-- A commit that a program answers as committed was committed by a call of its own since it began.
use Rattle.std.proofs.Common.{◌≡◌, ◌≢◌, ◌⊎◌, inl, inr, ℕ, List, [], ◌∷◌, ◌++◌, Result, Ok, Err, refl, sym, ap, subst, ◌∙◌}
use Rattle.std.specs.Prelude.{map}
use Rattle.std.proofs.lemmas.Bool.{cases_eq}
use Rattle.client_work.specs.Session.{Acting, closed_session, committed_work, is_working, Begins}
use Rattle.client_work.specs.declared.answer.Answer.{Answer}
use Rattle.client_work.specs.declared.answer.Answer.TheVariants as answer
use Rattle.client_work.specs.declared.answer.Begun.{Begun}
use Rattle.client_work.specs.declared.op.Op.{Op}
use Rattle.client_work.specs.declared.op.Op.TheVariants as op
use Rattle.client_work.specs.declared.work.Work.{Work}
use Rattle.client_work.specs.declared.work.Work.TheVariants.{Closed, Idle, Opening, Committing, Reading, Scanning, Looking, Folding, Paging, Closing, Renewing, Settling, Sweeping, Broken}
use Rattle.cloud_facts.proofs.Book.Names.{at_same, at_other}
use Rattle.cloud_facts.specs.Book.Tally.{at}
use Rattle.cloud_facts.specs.Calls.Looks.{audit_of}
use Rattle.cloud_facts.specs.Words.{CommitAnswer, Turn, More, Ended, Goes as GoesOn, newest, Store, store_of}
use Rattle.commit_run.specs.Run.{Run, home_of, run_next}
use Rattle.commit_writes.specs.Writing.{Writing}
use Rattle.db_base.specs.declared.refusal.Refused.{Refused}
use Rattle.db_base.specs.declared.refusal.Refused.TheVariants as refused
use Rattle.db_base.specs.declared.trouble.CommitAnswer.TheVariants.{Committed, NotCommitted, InDoubt, CommittedOpen}
use Rattle.fleet.proofs.Landed.{put_adds}
use Rattle.fleet.proofs.Opened.{IsOpen, IsSame, Opens, Ran, EndsRun, ran}
use Rattle.fleet.proofs.Stands.{Standing, course_stands, deal_led, call_goes}
use Rattle.fleet.proofs.Unopened.{IsNoneOpen, IsNoCommit, begun_none, led_none}
use Rattle.fleet.specs.Acts.{Act, Deal, calls, alone, dies, passes, begins, notes, settles, sweeps, IsAlone, Calls, Does}
use Rattle.fleet.specs.Course.{Done, done, now, Course, history, IsCallOf, IsAtWork, HasCommitted}
use Rattle.fleet.specs.Fleet.{Fleet, IsNew}
use Rattle.fleet.specs.Kept.{entries_of_run, IsKept}
use Rattle.history.specs.Audited.{committed_entry}
use Rattle.page_cache.specs.Cache.{Cache}
use Rattle.recover_run.specs.declared.home.Home.{Home}
use Rattle.session_facts.specs.Machines.CommitRuns.Knows.{KnowsRun}
use Rattle.txn_buffer.specs.Noted.{Noted}
use Rattle.session_facts.specs.Sessions.Audited.{audited}
use Rattle.session_facts.specs.Sessions.Knows.{ground, Goes, KnowsWork, Sessions}
use Rattle.session_facts.specs.Sessions.Led.{LedOn, LedTo, LedCommit, exchange_of}
use Rattle.report_types.specs.declared.entry.Entry.{Entry}

-- ---- one act more

module _ (start : Fleet) (program : ℕ) (entries : List Entry) (x : Done) (h : List Done) where
  -- the program is still at work
  goes_on : IsAtWork program x → HasCommitted start program entries h → HasCommitted start program entries (x ∷ h)
  goes_on works k = record {
    since = x ∷ k.since;
    put = k.put;
    earlier = k.earlier;
    there = ap (λ (rest : List Done). x ∷ rest) k.there;
    own = k.own;
    adds = k.adds;
    works = (works, k.works);
  }

  -- its call put them there
  puts : IsCallOf program x.act → (history start (x ∷ h)).committed ≡ (history start h).committed ++ entries → IsAtWork program x → HasCommitted start program entries (x ∷ h)
  puts own adds works = record { since = []; put = x; earlier = h; there = refl; own = own; adds = adds; works = (works, tt) }

-- ---- what is so of each program

-- the entries of a commit, by the home that it has
abbrev own_entries : Run → List Entry
own_entries r = entries_of_run (home_of r).head.epoch (home_of r).attempt r

-- an open commit of the program was opened by its own call
abbrev Owns : Fleet → ℕ → List Done → Work → Type 0
Owns start program h (Committing r) = IsOpen r → HasCommitted start program (own_entries r) h
Owns start program h w = Unit {0}

none_owns : (start : Fleet) (program : ℕ) (h : List Done) (w : Work) → IsNoneOpen w → Owns start program h w
none_owns start program h (Committing r) none = λ is. absurd (none is)
none_owns start program h Closed none = tt
none_owns start program h (Idle home) none = tt
none_owns start program h (Opening m) none = tt
none_owns start program h (Reading home m) none = tt
none_owns start program h (Scanning home m) none = tt
none_owns start program h (Looking home m) none = tt
none_owns start program h (Paging home m) none = tt
none_owns start program h (Folding home m) none = tt
none_owns start program h (Closing lease) none = tt
none_owns start program h (Renewing home) none = tt
none_owns start program h (Settling m) none = tt
none_owns start program h (Sweeping m) none = tt
none_owns start program h (Broken lease) none = tt

-- the program is where it was
module _ (start : Fleet) (program : ℕ) (x : Done) (h : List Done) where
  stays_at : (v w : Work) → (x.fleet.sessions program).work ≡ v → v ≡ w → Owns start program h w → Owns start program (x ∷ h) v
  stays_at v w is same owns = on v is (subst (Owns start program h) (sym same) owns)
    where
      on : (v : Work) → (x.fleet.sessions program).work ≡ v → Owns start program h v → Owns start program (x ∷ h) v
      on (Committing r) is owns = λ so. goes_on start program (own_entries r) x h (ap is_working is) (owns so)
      on Closed is owns = tt
      on (Idle home) is owns = tt
      on (Opening m) is owns = tt
      on (Reading home m) is owns = tt
      on (Scanning home m) is owns = tt
      on (Looking home m) is owns = tt
      on (Paging home m) is owns = tt
      on (Folding home m) is owns = tt
      on (Closing lease) is owns = tt
      on (Renewing home) is owns = tt
      on (Settling m) is owns = tt
      on (Sweeping m) is owns = tt
      on (Broken lease) is owns = tt

  stays : (w : Work) → (x.fleet.sessions program).work ≡ w → Owns start program h w → Owns start program (x ∷ h) (x.fleet.sessions program).work
  stays w is owns = stays_at (x.fleet.sessions program).work w refl is owns

-- ---- a call of the program

abbrev made : ℕ → ℕ → ℕ → List Noted → List Entry
made client epoch txn changes = map (committed_entry client epoch txn) changes

same_entries : (v w : Writing) → IsSame v w
    → made v.home.client v.home.head.epoch v.home.attempt v.changes ≡ made w.home.client w.home.head.epoch w.home.attempt w.changes
same_entries v w same =
    ap (λ client. made client v.home.head.epoch v.home.attempt v.changes) (sym same.client)
    ∙ (ap (λ epoch. made w.home.client epoch v.home.attempt v.changes) (sym same.epoch)
    ∙ (ap (λ txn. made w.home.client w.home.head.epoch txn v.changes) (sym same.attempt)
    ∙ ap (λ changes. made w.home.client w.home.head.epoch w.home.attempt changes) (sym same.changes)))

ended_none : (k : CommitAnswer) (home : Home) → IsNoneOpen (committed_work k home)
ended_none (Committed txn) home = tt
ended_none (NotCommitted t) home = tt
ended_none InDoubt home = tt
ended_none (CommittedOpen t) home = tt

module _ (start : Fleet) (h : List Done) (d : Deal) (to : Fleet) (s : Standing (now start h) (history start h)) (c : Calls d (now start h) to) where
  abbrev from : Fleet
  from = now start h

  abbrev this : Done
  this = done (calls d) to

  goes : Goes (ground s.book s.order from.state from.sessions) to.state d.program d.new
  goes = call_goes from to (history start h) s d c

  led : LedOn (exchange_of d.ask d.answer d.turn) d.old d.new
  led = deal_led d c.deal

  -- its session is the new one behind it
  is_new : to.sessions d.program ≡ d.new
  is_new = ap (λ (f : Sessions). f d.program) c.sessions ∙ at_same d.program d.new from.sessions d.program refl

  module _ (r : Run) (is_old : d.old.work ≡ Committing r) where
    abbrev st : Store
    st = store_of s.book s.order from.state

    abbrev su : Store
    su = store_of goes.book_after goes.order_after to.state

    -- what the commit knows before the call, and behind it
    before : KnowsRun st from.state.now (r, d.old.cache) (s.stand.parts d.program)
    before =
        subst (λ w. KnowsWork st from.state.now d.old.cache w (s.stand.parts d.program)) is_old
        (subst (λ (a : Acting). KnowsWork st from.state.now a.cache a.work (s.stand.parts d.program)) c.old (s.stand.each d.program).work)

    behind : (m : Run) → d.new.work ≡ Committing m → KnowsRun su to.state.now (m, d.new.cache) (goes.stand.parts d.program)
    behind m is =
        subst (λ w. KnowsWork su to.state.now d.new.cache w (goes.stand.parts d.program)) is
        (subst (λ (a : Acting). KnowsWork su to.state.now a.cache a.work (goes.stand.parts d.program)) (at_same d.program d.new from.sessions d.program refl)
        (goes.stand.each d.program).work)

    noted : audited (newest from.state) (newest to.state) (Committing r) (audit_of s.book s.order) ≡ audit_of goes.book_after goes.order_after
    noted =
        ap (λ w. audited (newest from.state) (newest to.state) w (audit_of s.book s.order)) (sym (ap (λ (a : Acting). a.work) c.old ∙ is_old)) ∙ goes.noted

    -- the call is the put that commits
    opened : (m : Run) → d.new.work ≡ Committing m → IsOpen m → IsSame r.draft.writes m.draft.writes → Opens r d.answer
        → (history start (this ∷ h)).committed ≡ (history start h).committed ++ own_entries r
    opened m is so same opens =
        ap (λ w. (audited (newest from.state) (newest to.state) w (history start h)).committed) is_old
        ∙ put_adds r m d.answer opens same so st su from.state.now to.state.now d.old.cache d.new.cache (s.stand.parts d.program) (goes.stand.parts d.program) before (behind m is)
        (newest from.state) (newest to.state) s.order goes.order_after goes.log_goes_on noted (history start h)

    own_goes : (m : Run) (k : Cache) → run_next (r, d.old.cache) d.answer ≡ GoesOn (m, k) → d.new.work ≡ Committing m → Owns start d.program h (Committing r)
        → Owns start d.program (this ∷ h) (Committing m)
    own_goes m k leads is owns = λ so. on so (subst (Ran r d.answer) leads (ran r d.old.cache d.answer) so)
      where
        works : IsAtWork d.program this
        works = ap (λ (a : Acting). is_working a.work) is_new ∙ ap is_working is

        on : IsOpen m → IsSame r.draft.writes m.draft.writes × (Opens r d.answer ⊎ IsOpen r) → HasCommitted start d.program (own_entries m) (this ∷ h)
        on so (same, how) = subst (λ entries. HasCommitted start d.program entries (this ∷ h)) (same_entries r.draft.writes m.draft.writes same) (by how)
          where
            by : Opens r d.answer ⊎ IsOpen r → HasCommitted start d.program (own_entries r) (this ∷ h)
            by (inl opens) = puts start d.program (own_entries r) this h refl (opened m is so same opens) works
            by (inr open_before) = goes_on start d.program (own_entries r) this h works (owns open_before)

    own_commit : (k : Cache) (turn : Turn Answer) → LedCommit (r, d.old.cache) d.answer (d.new.work, k) turn → Owns start d.program h (Committing r)
        → Owns start d.program (this ∷ h) d.new.work
    own_commit k More (m, leads, is) owns = subst (Owns start d.program (this ∷ h)) (sym is) (own_goes m k leads is owns)
    own_commit k (Ended (answer.Commit a)) (m, leads, is) owns = none_owns start d.program (this ∷ h) d.new.work (subst IsNoneOpen (sym is) (ended_none a (home_of m)))
    own_commit k (Ended (answer.Trouble t)) (m, leads, is) owns = none_owns start d.program (this ∷ h) d.new.work (subst IsNoneOpen (sym is) tt)
    own_commit k turn never owns = absurd never

  own_at : (w : Work) → d.old.work ≡ w → LedTo (w, d.old.cache) d.answer (record d.new { cache = led.cache }) d.turn → Owns start d.program h w
      → Owns start d.program (this ∷ h) d.new.work
  own_at w is to_new owns = on w is to_new owns
    where
      others : (v : Work) → IsNoCommit v → LedTo (v, d.old.cache) d.answer (record d.new { cache = led.cache }) d.turn → Owns start d.program (this ∷ h) d.new.work
      others v none leads = none_owns start d.program (this ∷ h) d.new.work (led_none v d.old.cache d.answer (record d.new { cache = led.cache }) d.turn none leads)

      on : (v : Work) → d.old.work ≡ v → LedTo (v, d.old.cache) d.answer (record d.new { cache = led.cache }) d.turn → Owns start d.program h v → Owns start d.program (this ∷ h) d.new.work
      on (Committing r) is leads owns = own_commit r is led.cache d.turn leads.0 owns
      on (Opening m) is leads owns = others (Opening m) tt leads
      on (Reading home m) is leads owns = others (Reading home m) tt leads
      on (Scanning home m) is leads owns = others (Scanning home m) tt leads
      on (Looking home m) is leads owns = others (Looking home m) tt leads
      on (Paging home m) is leads owns = others (Paging home m) tt leads
      on (Folding home m) is leads owns = others (Folding home m) tt leads
      on (Closing lease) is leads owns = others (Closing lease) tt leads
      on (Renewing home) is leads owns = others (Renewing home) tt leads
      on (Settling m) is leads owns = others (Settling m) tt leads
      on (Sweeping m) is leads owns = others (Sweeping m) tt leads
      on Closed is leads owns = others Closed tt leads
      on (Idle home) is leads owns = others (Idle home) tt leads
      on (Broken lease) is leads owns = others (Broken lease) tt leads

  own_call : Owns start d.program h (from.sessions d.program).work → Owns start d.program (this ∷ h) (to.sessions d.program).work
  own_call owns =
      subst (λ (a : Acting). Owns start d.program (this ∷ h) a.work) (sym is_new)
      (own_at d.old.work refl led.led (subst (λ (a : Acting). Owns start d.program h a.work) c.old owns))

  -- of each program
  call_owns : (program : ℕ) → Owns start program h (from.sessions program).work → Owns start program (this ∷ h) (to.sessions program).work
  call_owns program owns = on (cases_eq program d.program)
    where
      on : (program ≡ d.program) ⊎ (program ≢ d.program) → Owns start program (this ∷ h) (to.sessions program).work
      on (inl e) =
          subst (λ n. Owns start n (this ∷ h) (to.sessions n).work) (sym e) (own_call (subst (λ n. Owns start n h (from.sessions n).work) e owns))
      on (inr other) =
          stays start program this h (from.sessions program).work
          (ap (λ (f : Sessions). (f program).work) c.sessions ∙ ap (λ (a : Acting). a.work) (at_other d.program d.new from.sessions program other)) owns

-- ---- an act without a call

-- what is begun is no open commit, and what is refused stays
begin_stays : (o : Op) (old new : Acting) (result : Result Begun Refused) → Begins o old new result → IsNoneOpen new.work ⊎ (new ≡ old)
begin_stays o old new (Ok begun) b = inl (begun_none old new begun o b)
begin_stays (op.Open client) old new (Err (refused.Rule r)) b = inr b.1
begin_stays op.Close old new (Err (refused.Rule r)) b = inr b.1
begin_stays op.Renew old new (Err (refused.Rule r)) b = inr b.1
begin_stays op.Commit old new (Err (refused.Rule r)) b = inr b.1
begin_stays (op.Read tree key) old new (Err (refused.Rule r)) b = inr b.1
begin_stays (op.Scan tree low high) old new (Err (refused.Rule r)) b = inr b.1
begin_stays (op.Lookup tree attr) old new (Err (refused.Rule r)) (inl bad) = inr bad.2
begin_stays (op.Lookup tree attr) old new (Err (refused.Rule r)) (inr b) = inr b.1.1
begin_stays (op.Page tree page) old new (Err (refused.Rule r)) b = inr b.1
begin_stays (op.Tree tree) old new (Err (refused.Rule r)) b = inr b.1
begin_stays (op.Open client) old new (Err refused.Memory) never = absurd never
begin_stays op.Close old new (Err refused.Memory) never = absurd never
begin_stays op.Renew old new (Err refused.Memory) never = absurd never
begin_stays op.Commit old new (Err refused.Memory) never = absurd never
begin_stays (op.Read tree key) old new (Err refused.Memory) never = absurd never
begin_stays (op.Scan tree low high) old new (Err refused.Memory) never = absurd never
begin_stays (op.Lookup tree attr) old new (Err refused.Memory) (inl bad) = inr bad.2
begin_stays (op.Lookup tree attr) old new (Err refused.Memory) (inr b) = absurd b.1
begin_stays (op.Page tree page) old new (Err refused.Memory) never = absurd never
begin_stays (op.Tree tree) old new (Err refused.Memory) never = absurd never

alone_stays : (old new : Acting) → IsAlone old new → IsNoneOpen new.work ⊎ (new.work ≡ old.work)
alone_stays old new (begins o result n right b) = on (begin_stays o old n result b)
  where
    on : IsNoneOpen n.work ⊎ (n ≡ old) → IsNoneOpen n.work ⊎ (n.work ≡ old.work)
    on (inl none) = inl none
    on (inr same) = inr (ap (λ (a : Acting). a.work) same)
alone_stays old new (notes buffer ready may) = inr refl
alone_stays old new (settles closed) = inl tt
alone_stays old new (sweeps tree is closed) = inl tt

module _ (start : Fleet) (h : List Done) (x : Done) (of : ℕ) (new : Acting) (is : x.fleet ≡ record (now start h) { sessions = at of new (now start h).sessions })
    (stays_or : IsNoneOpen new.work ⊎ (new.work ≡ ((now start h).sessions of).work)) where
  changed_owns : (program : ℕ) → Owns start program h ((now start h).sessions program).work → Owns start program (x ∷ h) (x.fleet.sessions program).work
  changed_owns program owns = on (cases_eq program of)
    where
      session : x.fleet.sessions program ≡ at of new (now start h).sessions program
      session = ap (λ (f : Fleet). f.sessions program) is

      on : (program ≡ of) ⊎ (program ≢ of) → Owns start program (x ∷ h) (x.fleet.sessions program).work
      on (inl e) = by stays_or
        where
          is_new : x.fleet.sessions program ≡ new
          is_new = session ∙ at_same of new (now start h).sessions program e

          by : IsNoneOpen new.work ⊎ (new.work ≡ ((now start h).sessions of).work) → Owns start program (x ∷ h) (x.fleet.sessions program).work
          by (inl none) = none_owns start program (x ∷ h) (x.fleet.sessions program).work (subst (λ (a : Acting). IsNoneOpen a.work) (sym is_new) none)
          by (inr same) =
              stays start program x h ((now start h).sessions program).work
              (ap (λ (a : Acting). a.work) is_new ∙ (same ∙ ap (λ n. ((now start h).sessions n).work) (sym e))) owns
      on (inr other) = stays start program x h ((now start h).sessions program).work (ap (λ (a : Acting). a.work) (session ∙ at_other of new (now start h).sessions program other)) owns

-- ---- along a course

act_owns : (start : Fleet) (h : List Done) (act : Act) (to : Fleet) → Standing (now start h) (history start h) → Does act (now start h) to → (program : ℕ)
    → Owns start program h ((now start h).sessions program).work → Owns start program (done act to ∷ h) (to.sessions program).work
act_owns start h (calls d) to s does program owns = call_owns start h d to s does program owns
act_owns start h (alone of new) to s (is, changes) program owns = changed_owns start h (done (alone of new) to) of new changes (alone_stays ((now start h).sessions of) new is) program owns
act_owns start h (dies of) to s changes program owns = changed_owns start h (done (dies of) to) of closed_session changes (inl tt) program owns
act_owns start h passes to s does program owns =
    stays start program (done passes to) h ((now start h).sessions program).work (ap (λ (f : Sessions). (f program).work) does.sessions) owns

course_owns : (start : Fleet) (h : List Done) → IsNew start → Course start h → (program : ℕ) → Owns start program h ((now start h).sessions program).work
course_owns start [] new course program = subst (λ (a : Acting). Owns start program [] a.work) (sym (new.closed program)) tt
course_owns start (x ∷ h) new (course, does) program =
    act_owns start h x.act x.fleet (course_stands start h new course) does program (course_owns start h new course program)

-- ---- an answer

-- an open commit is answered with its own transaction
kept_by : (start : Fleet) (h : List Done) (program : ℕ) (r : Run) (a : CommitAnswer) → EndsRun r a → Owns start program h (Committing r) → IsKept start h program r a
kept_by start h program r (Committed txn) (so, is) owns =
    ((home_of r).head.epoch, subst (λ n. HasCommitted start program (entries_of_run (home_of r).head.epoch n r) h) (sym is) (owns so))
kept_by start h program r (CommittedOpen t) so owns = ((home_of r).attempt, ((home_of r).head.epoch, owns so))
kept_by start h program r (NotCommitted t) so owns = tt
kept_by start h program r InDoubt so owns = tt

pub keeps : (start to : Fleet) (d : Deal) (earlier : List Done) (r : Run) (a : CommitAnswer) → IsNew start → Course start (done (calls d) to ∷ earlier)
    → d.old.work ≡ Committing r → d.turn ≡ Ended (answer.Commit a) → IsKept start earlier d.program r a
keeps start to d earlier r a new (course, c) is_old is_turn =
    kept_by start earlier d.program r a ends (subst (Owns start d.program earlier) (ap (λ (s : Acting). s.work) c.old ∙ is_old) (course_owns start earlier new course d.program))
  where
    led : LedOn (exchange_of d.ask d.answer d.turn) d.old d.new
    led = deal_led d c.deal

    commit : LedTo (Committing r, d.old.cache) d.answer (record d.new { cache = led.cache }) (Ended (answer.Commit a))
    commit =
        subst (λ w. LedTo (w, d.old.cache) d.answer (record d.new { cache = led.cache }) (Ended (answer.Commit a))) is_old
        (subst (λ turn. LedTo (d.old.work, d.old.cache) d.answer (record d.new { cache = led.cache }) turn) is_turn led.led)

    ends : EndsRun r a
    ends = subst (Ran r d.answer) commit.0.1 (ran r d.old.cache d.answer)
