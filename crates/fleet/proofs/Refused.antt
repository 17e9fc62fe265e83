-- A commit that a program answers as not committed left nothing of its transaction.
use Rattle.std.proofs.Common.{◌≡◌, ℕ, zero, suc, Bool, true, false, List, [], ◌∷◌, Some, refl, sym, ap, subst, ◌∙◌, arith}
use Rattle.std.specs.Prelude.{map, not, slice_get, if◌then◌else◌, ◌&&◌}
use Rattle.std.proofs.lemmas.Option.{same_Some}
use Rattle.client_work.specs.Session.{Acting, ask_of_work}
use Rattle.client_work.specs.declared.answer.Answer.TheVariants as answer
use Rattle.client_work.specs.declared.work.Work.TheVariants.{Committing}
use Rattle.cloud_facts.specs.Book.Messages.{IsLogMessage}
use Rattle.cloud_facts.specs.Book.Records.{entry_of, entries_of}
use Rattle.cloud_facts.specs.Calls.Looks.{Newest, has_landed}
use Rattle.cloud_facts.specs.Homes.Homes.{Home, HomeHolds, Part, PartHolds, Parts, HomesHold}
use Rattle.cloud_facts.specs.Lefts.Left.{Leaves as LeavesLog, WasLogged}
use Rattle.cloud_facts.specs.Words.{Answer as Reply, AtomicRec, CommitAnswer, Ended, Entry, Ends, Goes, IsIn, Next, Stops, Store, newest, store_of}
use Rattle.cloud_trait.specs.Ask.{Ask, PutHeld}
use Rattle.cloud_trait.specs.Caller.{Caller}
use Rattle.cloud_trait.specs.Weather.{Counted, Weather}
use Rattle.cloud_trait.specs.Bench.{has_bytes}
use Rattle.cloud_trait.specs.declared.answer.Answer.TheVariants.{Late}
use Rattle.commit_run.proofs.Outcomes.{NextRun}
use Rattle.commit_run.specs.Draft.{Draft}
use Rattle.commit_run.specs.Run.{Run, home_of, next_at, run_ask, wrote, ask_at as run_ask_at}
use Rattle.commit_run.specs.declared.hand.Hand.{Hand}
use Rattle.commit_run.specs.declared.hand.Hand.TheVariants.{Writes, First, Change}
use Rattle.commit_writes.proofs.Outcomes as written
use Rattle.commit_writes.proofs.Outcomes.{Comes as Wrote, comes as wrote_by}
use Rattle.commit_writes.specs.Writing.{Writing, ask_at, head_ask, writing_next}
use Rattle.commit_writes.specs.declared.stage.Stage.{Stage}
use Rattle.commit_writes.specs.declared.stage.Stage.TheVariants.{Logging, Opening}
use Rattle.db_base.specs.declared.names.ObjName.TheVariants as object
use Rattle.db_base.specs.declared.trouble.CommitAnswer.TheVariants.{Committed, NotCommitted, InDoubt, CommittedOpen}
use Rattle.db_base.specs.declared.trouble.Trouble.{Trouble}
use Rattle.fleet.proofs.Stands.{Standing, course_stands, deal_led}
use Rattle.fleet.specs.Acts.{Calls, Deal, calls}
use Rattle.fleet.specs.Course.{Course, Done, done, history, now}
use Rattle.fleet.specs.Fleet.{Fleet, IsNew}
use Rattle.history.specs.Audited.{Audited}
use Rattle.page_cache.specs.Cache.{Cache}
use Rattle.session_facts.specs.Lines.LeftNone.{HasNone}
use Rattle.session_facts.specs.Machines.CommitRuns.Knows.{KnowsHand, KnowsRun}
use Rattle.session_facts.specs.Machines.Commits.Knows.{Attempt, IsOfAttempt, KnowsCommitAt, KnowsTaken, attempt_of}
use Rattle.session_facts.specs.Sessions.Audited.{audited, noted_by}
use Rattle.session_facts.specs.Sessions.Knows.{KnowsWork}
use Rattle.session_facts.specs.Sessions.Led.{LedOn, LedTo, exchange_of}

-- ---- where a commit is refused

-- where it writes: a record was sent to its ATOMIC queue, or the put that commits was too late
abbrev RefusedAt : Stage → Reply → Type 0
RefusedAt Logging a = Unit {0}
RefusedAt Opening a = (end : ℕ) × (at : ℕ) × (a ≡ Late end at)
RefusedAt stage a = ⊥

abbrev Refuses : Writing → Reply → Next Writing CommitAnswer → Type 0
Refuses v a (Ends w (NotCommitted t)) = RefusedAt v.stage a
Refuses v a next = Unit {0}

refuses_by : (v : Writing) (a : Reply) (x : Next Writing CommitAnswer) → Wrote v a x → Refuses v a x
refuses_by v a x (written.goes_on w id next (written.logs r e)) = tt
refuses_by v a x (written.goes_on w id next (written.opens e)) = tt
refuses_by v a x (written.not_logged w y failed) = tt
refuses_by v a x (written.late w end at) = (end, at, refl)
refuses_by v a x (written.doubts w y failed) = tt
refuses_by v a x (written.sends n r posts e) = tt
refuses_by v a x (written.settles n posts e) = tt
refuses_by v a x (written.stays_open leaves) = tt
refuses_by v a x (written.deletes n id clears e) = tt
refuses_by v a x (written.ends n clears e) = tt
refuses_by v a x (written.lacks w under) = tt
refuses_by v a x (written.waits w y) = tt
refuses_by v a x (written.rests w y) = tt

-- while it walks it may be refused at any answer
abbrev RefusedIn : Hand → Stage → Reply → Type 0
RefusedIn Writes stage a = RefusedAt stage a
RefusedIn hand stage a = Unit {0}

abbrev RunRefuses : Run → Reply → NextRun → Type 0
RunRefuses r a (Ends m (NotCommitted t)) = RefusedIn r.hand r.draft.writes.stage a
RunRefuses r a next = Unit {0}

wrote_refuses : (d : Draft) (c : Cache) (a : Reply) (x : Next Writing CommitAnswer) → Refuses d.writes a x → RunRefuses (record { draft = d; hand = Writes }) a (wrote d c x)
wrote_refuses d c a (Goes w) k = tt
wrote_refuses d c a (Ends w (NotCommitted t)) k = k
wrote_refuses d c a (Ends w (Committed txn)) k = tt
wrote_refuses d c a (Ends w InDoubt) k = tt
wrote_refuses d c a (Ends w (CommittedOpen t)) k = tt
wrote_refuses d c a (Stops w t) k = tt

walk_refuses : (d : Draft) (hand : Hand) (a : Reply) → RefusedIn hand d.writes.stage a → (x : NextRun) → RunRefuses (record { draft = d; hand = hand }) a x
walk_refuses d hand a k (Goes m) = tt
walk_refuses d hand a k (Ends m (NotCommitted t)) = k
walk_refuses d hand a k (Ends m (Committed txn)) = tt
walk_refuses d hand a k (Ends m InDoubt) = tt
walk_refuses d hand a k (Ends m (CommittedOpen t)) = tt
walk_refuses d hand a k (Stops m t) = tt

run_refuses : (hand : Hand) (d : Draft) (c : Cache) (a : Reply) → RunRefuses (record { draft = d; hand = hand }) a (next_at hand d c a)
run_refuses Writes d c a = wrote_refuses d c a (writing_next d.writes a) (refuses_by d.writes a (writing_next d.writes a) (wrote_by d.writes a))
run_refuses (First w) d c a = walk_refuses d (First w) a tt (next_at (First w) d c a)
run_refuses (Change w) d c a = walk_refuses d (Change w) a tt (next_at (Change w) d c a)

-- ---- nothing of its transaction is committed

abbrev NoneOf : List AtomicRec → Attempt → Type 0
NoneOf log x = (r : AtomicRec) → IsIn log r → IsOfAttempt x r → ⊥

module _ (st : Store) (at : ℕ) (parts : Parts) (session : ℕ) (homes : HomesHold st.tally at parts) (left : LeavesLog st) where
  -- a number that was just taken is of no record
  none_taken : (w : Writing) → KnowsTaken st at w.home (parts session) → NoneOf st.book.log (attempt_of w)
  none_taken w t r logged of = on (left.sent r logged)
    where
      k : Home
      k = t.home.at.home

      holds : HomeHolds st.tally at k
      holds = subst (λ (p : Part). PartHolds st.tally at p) t.home.at.part_is (homes.each session)

      same_client : r.client ≡ k.client
      same_client = of.client_is ∙ sym t.home.at.client_is

      on : WasLogged st.tally r → ⊥
      on (id, m) =
          let within = holds.begun id r (subst (λ c. IsLogMessage (st.tally.logged c) id r) same_client m) (of.epoch_is ∙ sym t.home.at.epoch_is) in
          let txn = of.txn_is in
          let before = t.home.at.begun in
          let taken = t.taken in
          omega (arith, within, txn, before, taken)

  none_at : (stage : Stage) (w : Writing) (g : Home) (a : Reply) → RefusedAt stage a → KnowsCommitAt stage st at w g → NoneOf st.book.log (attempt_of w)
  none_at Logging w g a refused k = k.routes.uncommitted
  none_at Opening w g a refused k = k.routes.uncommitted
  none_at stage w g a refused k = absurd refused

  none_in : (hand : Hand) (d : Draft) (a : Reply) → RefusedIn hand d.writes.stage a → KnowsHand hand st at d (parts session) → NoneOf st.book.log (attempt_of d.writes)
  none_in Writes d a refused k = none_at d.writes.stage d.writes k.home a refused k.at
  none_in (First w) d a refused k = none_taken d.writes k.draft.taken
  none_in (Change w) d a refused k = none_taken d.writes k.draft.taken

record_of : (log : List AtomicRec) (place : ℕ) (e : Entry) → slice_get (map entry_of log) place ≡ Some e → (r : AtomicRec) × (slice_get log place ≡ Some r) × (entry_of r ≡ e)
record_of [] place e is = absurd (cc)
record_of (r ∷ log) zero e is = (r, refl, cc)
record_of (r ∷ log) (suc place) e is = record_of log place e is

has_none : (log : List AtomicRec) (x : Attempt) → NoneOf log x → HasNone (entries_of log) x.client x.epoch x.txn
has_none log x none e (place, is) client epoch txn =
    let r : (r : AtomicRec) × (slice_get log place ≡ Some r) × (entry_of r ≡ e) = record_of log place e is in
    none r.0 (place, r.1) (record {
      client_is = ap (λ (f : Entry). f.client) r.2 ∙ client;
      epoch_is = ap (λ (f : Entry). f.epoch) r.2 ∙ epoch;
      txn_is = ap (λ (f : Entry). f.txn) r.2 ∙ txn;
    })

-- ---- and the call that refuses commits nothing

never_both : (b : Bool) → (not b && b) ≡ false
never_both true = refl
never_both false = refl

-- a call that puts nothing, or puts too late
unlanded : (hand : Hand) (stage : Stage) (w : Writing) (a : Reply) (x y : Newest) → RefusedIn hand stage a
    → ((end until : ℕ) → a ≡ Late end until → hand ≡ Writes → stage ≡ Opening → y ≡ x) → has_landed x y (Some (run_ask_at hand (record w { stage = stage }))) ≡ false
unlanded Writes Logging w a x y refused same = refl
unlanded Writes Opening w a x y refused same =
    let put : Ask = head_ask w in
    ap (λ z. has_landed x z (Some put)) (same refused.0 refused.1 refused.2 refl refl) ∙ never_both (has_bytes (x (object.Head w.home.client)) w.out)
unlanded Writes stage w a x y refused same = absurd refused
unlanded (First walk) stage w a x y refused same = refl
unlanded (Change walk) stage w a x y refused same = refl

abbrev IsPut : Ask → Type 0
IsPut (PutHeld name bytes one two) = Unit {0}
IsPut ask = ⊥

-- a put that was too late changed nothing
late_stays : (who : Caller) (ask put : Ask) (a : Reply) (end until : ℕ) (from to : Counted) → ask ≡ put → IsPut put → a ≡ Late end until → Weather who ask a from to → to.state ≡ from.state
late_stays who ask put a end until from to is_ask is_put is_late row = on put is_put (subst (λ q. Weather who q (Late end until) from to) is_ask (subst (λ b. Weather who ask b from to) is_late row))
  where
    on : (q : Ask) → IsPut q → Weather who q (Late end until) from to → to.state ≡ from.state
    on (PutHeld name bytes one two) is row = row.0
    on q is row = absurd is

module _ (start : Fleet) (h : List Done) (d : Deal) (to : Fleet) (s : Standing (now start h) (history start h)) (c : Calls d (now start h) to) (r : Run) (t : Trouble)
    (is_old : d.old.work ≡ Committing r) (is_turn : d.turn ≡ Ended (answer.Commit (NotCommitted t))) where
  abbrev from : Fleet
  from = now start h

  abbrev st : Store
  st = store_of s.book s.order from.state

  abbrev x : Newest
  x = newest from.state

  abbrev y : Newest
  y = newest to.state

  led : LedOn (exchange_of d.ask d.answer d.turn) d.old d.new
  led = deal_led d c.deal

  commit : LedTo (Committing r, d.old.cache) d.answer (record d.new { cache = led.cache }) (Ended (answer.Commit (NotCommitted t)))
  commit =
      subst (λ w. LedTo (w, d.old.cache) d.answer (record d.new { cache = led.cache }) (Ended (answer.Commit (NotCommitted t)))) is_old
      (subst (λ turn. LedTo (d.old.work, d.old.cache) d.answer (record d.new { cache = led.cache }) turn) is_turn led.led)

  refused : RefusedIn r.hand r.draft.writes.stage d.answer
  refused = subst (RunRefuses r d.answer) commit.0.1 (run_refuses r.hand r.draft d.old.cache d.answer)

  knows : KnowsRun st from.state.now (r, d.old.cache) (s.stand.parts d.program)
  knows =
      subst (λ w. KnowsWork st from.state.now d.old.cache w (s.stand.parts d.program)) is_old
      (subst (λ (a : Acting). KnowsWork st from.state.now a.cache a.work (s.stand.parts d.program)) c.old (s.stand.each d.program).work)

  none : NoneOf s.book.log (attempt_of r.draft.writes)
  none = none_in st from.state.now s.stand.parts d.program s.stand.homes s.stand.cloud.holds.leaves r.hand r.draft d.answer refused knows.hand

  asked : d.ask ≡ run_ask r
  asked = same_Some d.ask (run_ask r) (sym c.deal.hand ∙ ap ask_of_work is_old)

  same : (end until : ℕ) → d.answer ≡ Late end until → r.hand ≡ Writes → r.draft.writes.stage ≡ Opening → y ≡ x
  same end until is_late is_hand is_stage =
      let l = c.row.made.state from.state refl in
      ap newest (same_Some to.state l.after l.told)
      ∙ ap newest (late_stays _ d.ask (head_ask r.draft.writes) d.answer end until _ _ (asked ∙ put) tt is_late l.row)
    where
      put : run_ask r ≡ head_ask r.draft.writes
      put = ap (λ hand. run_ask_at hand r.draft.writes) is_hand ∙ ap (λ stage. ask_at stage r.draft.writes) is_stage

  unseen : has_landed x y (ask_of_work (Committing r)) ≡ false
  unseen = unlanded r.hand r.draft.writes.stage r.draft.writes d.answer x y refused same

  stays : entries_of s.book.log ≡ (history start (done (calls d) to ∷ h)).committed
  stays =
      ap (λ (a : Audited). a.committed) s.seen
      ∙ sym (ap (λ w. (audited x y w (history start h)).committed) is_old
      ∙ ap (λ b. (if b then noted_by (Committing r) (history start h) else history start h).committed) unseen)

  refused_leaves : HasNone (history start (done (calls d) to ∷ h)).committed (home_of r).client (home_of r).head.epoch (home_of r).attempt
  refused_leaves =
      subst (λ es. HasNone es (home_of r).client (home_of r).head.epoch (home_of r).attempt) stays (has_none s.book.log (attempt_of r.draft.writes) none)

pub refuses : (start to : Fleet) (d : Deal) (earlier : List Done) (r : Run) (t : Trouble) → IsNew start → Course start (done (calls d) to ∷ earlier) → d.old.work ≡ Committing r
    → d.turn ≡ Ended (answer.Commit (NotCommitted t))
    → HasNone (history start (done (calls d) to ∷ earlier)).committed (home_of r).client (home_of r).head.epoch (home_of r).attempt
refuses start to d earlier r t new (course, c) is_old is_turn = refused_leaves start earlier d to (course_stands start earlier new course) c r t is_old is_turn
