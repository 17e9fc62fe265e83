-- A commit that is answered `not-committed` left nothing among what was committed.
use Rattle.std.proofs.Common.{◌≡◌, ℕ, zero, suc, Bool, true, false, List, [], ◌∷◌, ◌++◌, Option, Some, Ok, refl, sym, ap, subst, ◌∙◌, arith}
use Rattle.std.specs.Prelude.{All, map, slice_get}
use Rattle.std.proofs.lemmas.List.{append-nil}
use Rattle.client_work.specs.Session.{Acting, StepsSession, StepsCommit, ShowsAt, acting_of}
use Rattle.client_work.specs.declared.answer.Answer.TheVariants as answer
use Rattle.client_work.specs.declared.shown.Shown.{Shown}
use Rattle.client_work.specs.declared.work.Work.{Work}
use Rattle.client_work.specs.declared.work.Work.TheVariants as work
use Rattle.cloud_facts.specs.Book.Messages.{IsLogMessage}
use Rattle.cloud_facts.specs.Words.{Trouble, CommitAnswer, ObjName, Entry, AtomicRec, Answer as Reply, Ended, CloudState, called, Caller, Seen, Ask, Get, PutHeld, Send, Next, Goes, Ends, Stops, Store, IsIn, store_of}
use Rattle.cloud_facts.specs.Book.Records.{entry_of, entries_of}
use Rattle.cloud_facts.specs.Homes.Homes.{Home, Part, Parts, HomeHolds, PartHolds, HomesHold}
use Rattle.cloud_facts.specs.Lefts.Left.{WasLogged, Leaves as LeavesLog}
use Rattle.cloud_trait.proofs.RowLemmas.{leaves_by}
use Rattle.cloud_trait.specs.State.{Counts}
use Rattle.cloud_trait.specs.Weather.{counted, Leaves}
use Rattle.cloud_trait.specs.declared.answer.Answer.TheVariants.{Late}
use Rattle.commit_run.specs.Draft.{Draft}
use Rattle.commit_run.specs.Run.{Run, home_of, wrote, walked, ask_at, next_at as run_next_at}
use Rattle.commit_run.specs.declared.hand.Hand.{Hand}
use Rattle.commit_run.specs.declared.hand.Hand.TheVariants.{Writes, First, Change}
use Rattle.commit_writes.specs.Writing.{ask_at as written_ask}
use Rattle.commit_writes.specs.Writing.{Writing, head_ask, next_at}
use Rattle.commit_writes.specs.declared.stage.Stage.{Stage}
use Rattle.commit_writes.specs.declared.stage.Stage.TheVariants.{Logging, Opening}
use Rattle.commit_run.proofs.Outcomes as step
use Rattle.commit_run.proofs.Outcomes.{NextRun, Leads, walked_leads}
use Rattle.commit_writes.proofs.Outcomes as written
use Rattle.commit_writes.proofs.Outcomes.{Comes as Wrote, comes as wrote_by}
use Rattle.db_base.specs.declared.trouble.CommitAnswer.TheVariants.{Committed, NotCommitted, InDoubt, CommittedOpen}
use Rattle.history.specs.Audited.{Audited}
use Rattle.page_cache.specs.Cache.{Cache}
use Rattle.recover_run.specs.declared.home.Home.{Home as Held}
use Rattle.replay_meaning.specs.Committed.{committed}
use Rattle.replay_meaning.specs.Standing.{Line, Posture, Working, Committing, Standing, standing}
use Rattle.session_facts.proofs.Lines.Committed.{put_entries, committed_effect, committed_called, placed_called}
use Rattle.session_facts.specs.Machines.Commits.Knows.{Attempt, attempt_of, IsOfAttempt, KnowsTaken, KnowsCommitAt}
use Rattle.session_facts.specs.Machines.CommitRuns.Knows.{KnowsHand, KnowsRun}
use Rattle.session_facts.specs.Lines.Facts.{IsPlaced, WorksAs, CloudHolds}
use Rattle.session_facts.specs.Lines.LeftNone.{HasNone, HasLeftNone, LeavesNoneAt}
use Rattle.session_facts.specs.Sessions.Knows.{Sessions, KnowsWork}
use Rattle.tree_walk.specs.Walk.{object_of}
use Rattle.txn_buffer.specs.Noted.{Noted}
use Rattle.std.proofs.lemmas.Option.{same_Some}

-- ---- a commit keeps its transaction

-- a home of the client, at this attempt of its epoch
record IsHomeOf (client epoch attempt : ℕ) (home : Held) : Type 0 where
  client_is : home.client ≡ client
  epoch_is : home.head.epoch ≡ epoch
  attempt_is : home.attempt ≡ attempt

module _ (client epoch attempt : ℕ) where
  abbrev Own : Held → Type 0
  Own home = IsHomeOf client epoch attempt home

  -- where a walk's turn leads, it ends so
  abbrev RunsOf : Next (Run × Cache) CommitAnswer → Type 0
  RunsOf (Goes m) = Unit {0}
  RunsOf (Ends m a) = Own (home_of m.0)
  RunsOf (Stops m t) = Unit {0}

  leads : (w : Writing) (x : NextRun) → Own w.home → Leads w x → RunsOf x
  leads w x f (step.walks first e v k kept) = tt
  leads w x f (step.writes e k v kept paged starts) = tt
  leads w x f (step.refuses e k t kept other) = record { client_is = kept.client ∙ f.client_is; epoch_is = kept.epoch ∙ f.epoch_is; attempt_is = kept.attempt ∙ f.attempt_is }
  leads w x f (step.lacks e k kept) = tt

-- ---- what is written

abbrev OwnOf : Held → Held → Type 0
OwnOf h n = IsHomeOf h.client h.head.epoch h.attempt n

-- the stage and the answer at which nothing was committed: a record was sent, or the head's put was late
abbrev RefusedAt : Stage → Reply → Type 0
RefusedAt Logging a = Unit {0}
RefusedAt Opening a = (end : ℕ) × (now : ℕ) × (a ≡ Late end now)
RefusedAt stage a = ⊥

abbrev RefusedOf : Stage → Reply → Held → Held → CommitAnswer → Type 0
RefusedOf stage a h n (NotCommitted t) = OwnOf h n × RefusedAt stage a
RefusedOf stage a h n x = Unit {0}

abbrev Refused : Stage → Reply → Held → Next Writing CommitAnswer → Type 0
Refused stage a h (Goes w) = Unit {0}
Refused stage a h (Ends w x) = RefusedOf stage a h w.home x
Refused stage a h (Stops w t) = Unit {0}

own : (h : Held) → OwnOf h h
own h = record { client_is = refl; epoch_is = refl; attempt_is = refl }

refuses : (w : Writing) (a : Reply) (x : Next Writing CommitAnswer) → Wrote w a x → Refused w.stage a w.home x
refuses v a x (written.goes_on w id next (written.logs r e)) = tt
refuses v a x (written.goes_on w id next (written.opens e)) = tt
refuses v a x (written.not_logged w y failed) = (own w.home, tt)
refuses v a x (written.late w end now) = (record { client_is = refl; epoch_is = refl; attempt_is = refl }, (end, now, refl))
refuses v a x (written.doubts w y failed) = tt
refuses w a x (written.sends n r posts e) = tt
refuses w a x (written.settles n posts e) = tt
refuses w a x (written.stays_open leaves) = tt
refuses w a x (written.deletes n id clears e) = tt
refuses w a x (written.ends n clears e) = tt
refuses w a x (written.lacks v under) = tt
refuses v a x (written.waits w y) = tt
refuses v a x (written.rests w y) = tt

-- ---- of a run

-- a call that commits nothing: it puts no head, or its put was late
abbrev CommitsNothing : Ask → Reply → Type 0
CommitsNothing (Get name) a = ⊥
CommitsNothing (Send queue bytes) a = ⊥
CommitsNothing (PutHeld name bytes one two) (Late end now) = ⊥
CommitsNothing ask a = Unit {0}

abbrev NoneOf : List AtomicRec → Attempt → Type 0
NoneOf log x = (r : AtomicRec) → IsIn log r → IsOfAttempt x r → ⊥

-- no record of a number that was just taken is in the log
none_taken : (st : Store) (now : ℕ) (parts : Parts) (session : ℕ) (w : Writing) → KnowsTaken st now w.home (parts session) → HomesHold st.tally now parts → LeavesLog st → NoneOf st.book.log (attempt_of w)
none_taken st now parts session w t homes left r logged of = on (left.sent r logged)
  where
    k : Home
    k = t.home.at.home

    holds : HomeHolds st.tally now k
    holds = subst (λ (p : Part). PartHolds st.tally now p) t.home.at.part_is (homes.each session)

    same_client : r.client ≡ k.client
    same_client = of.client_is ∙ sym t.home.at.client_is

    on : WasLogged st.tally r → ⊥
    on (id, m) =
        let within = holds.begun id r (subst (λ c. IsLogMessage (st.tally.logged c) id r) same_client m) (of.epoch_is ∙ sym t.home.at.epoch_is) in
        let txn = of.txn_is in
        let before = t.home.at.begun in
        let taken = t.taken in
        omega (arith, within, txn, before, taken)

-- the run ends with nothing committed: it has its transaction still, of which nothing is in the log, and its newest call commits nothing
record HasRefused (log : List AtomicRec) (r : Run) (ask : Ask) (a : Reply) (left : Held) : Type 0 where
  own_is : OwnOf (home_of r) left
  none : NoneOf log (attempt_of r.draft.writes)
  call : CommitsNothing ask a → ⊥

abbrev RefusedRun : List AtomicRec → Run → Ask → Reply → Held → CommitAnswer → Type 0
RefusedRun log r ask a left (NotCommitted t) = HasRefused log r ask a left
RefusedRun log r ask a left x = Unit {0}

abbrev RunRefuses : List AtomicRec → Run → Ask → Reply → Next (Run × Cache) CommitAnswer → Type 0
RunRefuses log r ask a (Goes m) = Unit {0}
RunRefuses log r ask a (Ends m x) = RefusedRun log r ask a (home_of m.0) x
RunRefuses log r ask a (Stops m t) = Unit {0}

module _ (st : Store) (now : ℕ) (parts : Parts) (session : ℕ) (homes : HomesHold st.tally now parts) (left : LeavesLog st) (d : Draft) (c : Cache) (a : Reply) where
  walk_ends : (hand : Hand) (name : ObjName) → NoneOf st.book.log (attempt_of d.writes) → (n : Next (Run × Cache) CommitAnswer) → RunsOf d.writes.home.client d.writes.home.head.epoch d.writes.home.attempt n
      → RunRefuses st.book.log (record { draft = d; hand = hand }) (Get name) a n
  walk_ends hand name none (Goes m) k = tt
  walk_ends hand name none (Ends m (NotCommitted t)) k = record { own_is = k; none = none; call = λ commits. commits }
  walk_ends hand name none (Ends m (Committed x)) k = tt
  walk_ends hand name none (Ends m InDoubt) k = tt
  walk_ends hand name none (Ends m (CommittedOpen t)) k = tt
  walk_ends hand name none (Stops m t) k = tt

  write_refused : (stage : Stage) (g : Home) (n : Held) (t : Trouble) → KnowsCommitAt stage st now d.writes g → RefusedOf stage a d.writes.home n (NotCommitted t)
      → HasRefused st.book.log (record { draft = d; hand = Writes }) (written_ask stage d.writes) a n
  write_refused Logging g n t k h = record { own_is = h.0; none = k.routes.uncommitted; call = λ commits. commits }
  write_refused Opening g n t k h = record { own_is = h.0; none = k.routes.uncommitted; call = λ commits. subst (CommitsNothing (head_ask d.writes)) h.1.2 commits }
  write_refused stage g n t k h = absurd h.1

  write_ends : (stage : Stage) (g : Home) → KnowsCommitAt stage st now d.writes g → (x : Next Writing CommitAnswer) → Refused stage a d.writes.home x
      → RunRefuses st.book.log (record { draft = d; hand = Writes }) (written_ask stage d.writes) a (wrote d c x)
  write_ends stage g k (Goes w) h = tt
  write_ends stage g k (Ends w (NotCommitted t)) h = write_refused stage g w.home t k h
  write_ends stage g k (Ends w (Committed x)) h = tt
  write_ends stage g k (Ends w InDoubt) h = tt
  write_ends stage g k (Ends w (CommittedOpen t)) h = tt
  write_ends stage g k (Stops w t) h = tt

  hand_ends : (hand : Hand) → KnowsHand hand st now d (parts session) → RunRefuses st.book.log (record { draft = d; hand = hand }) (ask_at hand d.writes) a (run_next_at hand d c a)
  hand_ends Writes k = write_ends d.writes.stage k.home k.at (next_at d.writes.stage d.writes a) (refuses d.writes a (next_at d.writes.stage d.writes a) (wrote_by d.writes a))
  hand_ends (First w) k =
      walk_ends (First w) (object_of w) (none_taken st now parts session d.writes k.draft.taken homes left) (walked true d w c a)
      (leads d.writes.home.client d.writes.home.head.epoch d.writes.home.attempt d.writes (walked true d w c a) (own d.writes.home) (walked_leads d true w c a))
  hand_ends (Change w) k =
      walk_ends (Change w) (object_of w) (none_taken st now parts session d.writes k.draft.taken homes left) (walked false d w c a)
      (leads d.writes.home.client d.writes.home.head.epoch d.writes.home.attempt d.writes (walked false d w c a) (own d.writes.home) (walked_leads d false w c a))

-- ---- what such a call leaves

-- a call that lands no head adds nothing to what was committed
none_lands : (lines : List Line) (who : Caller) (ask : Ask) (a : Reply) (c d : Counts) (x : CloudState) (new : Option CloudState) (l : Leaves who ask a (counted c x) d new)
    → put_entries lines who ask ≡ [] → All (IsPlaced x.versions) x.trace → committed lines l.after ≡ committed lines x
none_lands lines who ask a c d x new l none placed =
    leaves_by (λ t. committed lines t ≡ committed lines x) who ask a c d x new l (committed_called lines who l.after.now x)
    (λ permits. committed_effect lines who ask (called who l.after.now x) (placed_called who l.after.now x placed)
    ∙ (ap (λ es. committed lines (called who l.after.now x) ++ es) none
    ∙ (append-nil (committed lines (called who l.after.now x)) ∙ committed_called lines who l.after.now x)))

none_added : (lines : List Line) (who : Caller) (ask : Ask) (a : Reply) (c d : Counts) (x : CloudState) (new : Option CloudState) (l : Leaves who ask a (counted c x) d new)
    → (CommitsNothing ask a → ⊥) → All (IsPlaced x.versions) x.trace → committed lines l.after ≡ committed lines x
none_added lines who (Get name) a c d x new l none placed = none_lands lines who (Get name) a c d x new l refl placed
none_added lines who (Send queue bytes) a c d x new l none placed = none_lands lines who (Send queue bytes) a c d x new l refl placed
none_added lines who (PutHeld name bytes one two) (Late end now) c d x new l none placed = ap (committed lines) l.row.0 ∙ committed_called lines who l.after.now x
none_added lines who ask a c d x new l none placed = absurd (none tt)

-- no record is of a transaction of which no entry is
record_of : (log : List AtomicRec) (i : ℕ) (e : Entry) → slice_get (map entry_of log) i ≡ Some e → (r : AtomicRec) × (slice_get log i ≡ Some r) × (entry_of r ≡ e)
record_of [] i e is = absurd (cc)
record_of (r ∷ log) zero e is = (r, refl, cc)
record_of (r ∷ log) (suc i) e is = record_of log i e is

none_of : (log : List AtomicRec) (x : Attempt) → NoneOf log x → HasNone (entries_of log) x.client x.epoch x.txn
none_of log x none e (i, is) client epoch txn =
    let r : (r : AtomicRec) × (slice_get log i ≡ Some r) × (entry_of r ≡ e) = record_of log i e is in
    none r.0 (i, r.1) (record {
      client_is = ap (λ (f : Entry). f.client) r.2 ∙ client;
      epoch_is = ap (λ (f : Entry). f.epoch) r.2 ∙ epoch;
      txn_is = ap (λ (f : Entry). f.txn) r.2 ∙ txn;
    })

-- ---- a step of a session

module _ (n : ℕ) (lines : List Line) (who : Caller) (before after : Seen) (x y : CloudState) (sessions : Sessions) (audit : Audited) (blind : Bool)
    (h : CloudHolds n lines sessions audit blind x) (told : before.state ≡ Some x) (told_after : after.state ≡ Some y) where
  abbrev st : Store
  st = store_of h.book h.order x

  abbrev kept : Cache
  kept = (sessions who.session).cache

  -- the home that a commit leaves
  left_home : (r : Run) (a : Reply) (left : Held) → HasRefused h.book.log r (ask_at r.hand r.draft.writes) a left → Leaves who (ask_at r.hand r.draft.writes) a (counted before.counts x) after.counts after.state
      → HasNone (committed lines y) left.client left.head.epoch left.attempt
  left_home r a left k l =
      λ e is client epoch txn.
      none_of h.book.log (attempt_of r.draft.writes) k.none e
      (subst (λ es. IsIn es e) (ap (committed lines) (same_Some y l.after (sym told_after ∙ l.told)) ∙ (none_added lines who (ask_at r.hand r.draft.writes) a before.counts after.counts x after.state l k.call h.cloud.placed ∙ sym h.cloud.committed)) is)
      (client ∙ k.own_is.client_is) (epoch ∙ k.own_is.epoch_is) (txn ∙ k.own_is.attempt_is)

  commit_leaves : (r : Run) → (sessions who.session).work ≡ work.Committing r → (c : Cache) (new : Work) (t : Trouble) → StepsCommit who before after (r, kept) (new, c) (Ended (answer.Commit (NotCommitted t)))
      → HasLeftNone (committed lines y) new
  commit_leaves r is c new t (m, steps, left) = record {
    home = home_of m;
    rests = left;
    none =
        left_home r steps.answer (home_of m)
        (subst (RunRefuses h.book.log r (ask_at r.hand r.draft.writes) steps.answer) steps.took
        (hand_ends st x.now h.stand.parts who.session h.stand.homes h.stand.cloud.holds.leaves r.draft kept steps.answer r.hand knows.hand)) (steps.made.state x told);
  }
    where
      knows : KnowsRun st x.now (r, kept) (h.stand.parts who.session)
      knows = subst (λ w. KnowsWork st x.now kept w (h.stand.parts who.session)) is (h.stand.each who.session).work

  by_commit : (buffer : List Noted) (w new : Work) (c : Cache) (shown : Shown) (t : Trouble) (s : Standing) → (sessions who.session).work ≡ w → WorksAs w s
      → ShowsAt who before after (w, kept) (acting_of buffer new c shown) (Ended (answer.Commit (NotCommitted t))) → LeavesNoneAt (committed lines y) s.posture new (NotCommitted t)
  by_commit buffer w new c shown t s = on w
    where
      At : Posture → Type 0
      At p = LeavesNoneAt (committed lines y) p new (NotCommitted t)

      on : (w : Work) → (sessions who.session).work ≡ w → WorksAs w s → ShowsAt who before after (w, kept) (acting_of buffer new c shown) (Ended (answer.Commit (NotCommitted t))) → At s.posture
      on (work.Committing r) is acts shows = subst At (sym acts.0) (commit_leaves r is c new t shows.0)
      on (work.Opening r) is acts shows = subst At (sym acts.0) tt
      on (work.Reading home m) is acts shows = subst At (sym acts.0) tt
      on (work.Scanning home l) is acts shows = subst At (sym acts.0) tt
      on (work.Looking home m) is acts shows = subst At (sym acts.0) tt
      on (work.Paging home p) is acts shows = subst At (sym acts.0) tt
      on (work.Folding home f) is acts shows = subst At (sym acts.0) tt
      on (work.Closing lease) is acts shows = subst At (sym acts) tt
      on (work.Renewing home) is acts shows = subst At (sym acts.0) tt
      on (work.Settling m) is acts shows = absurd acts
      on (work.Sweeping m) is acts shows = absurd acts
      on work.Closed is acts shows = subst At (sym acts) tt
      on (work.Idle home) is acts shows = subst At (sym acts.0) tt
      on (work.Broken lease) is acts shows = subst At (sym acts) tt

  -- a step that answers a commit so leaves nothing of it among what the lines committed
  step_leaves : (new : Acting) (t : Trouble) → WorksAs (sessions who.session).work (standing lines who.session)
      → StepsSession who before after (sessions who.session) new (Ok (Ended (answer.Commit (NotCommitted t)))) → LeavesNoneAt (committed lines y) (standing lines who.session).posture new.work (NotCommitted t)
  step_leaves new t acts steps = by_commit new.buffer (sessions who.session).work new.work steps.shown.0 new.shown t (standing lines who.session) refl acts steps.shown.1

  -- .. and of any other answer nothing is said
  pub left_none : (new : Acting) (a : CommitAnswer) → WorksAs (sessions who.session).work (standing lines who.session)
      → StepsSession who before after (sessions who.session) new (Ok (Ended (answer.Commit a))) → LeavesNoneAt (committed lines y) (standing lines who.session).posture new.work a
  left_none new (NotCommitted t) acts steps = step_leaves new t acts steps
  left_none new (Committed txn) acts steps = any (standing lines who.session).posture
    where
      any : (p : Posture) → LeavesNoneAt (committed lines y) p new.work (Committed txn)
      any (Working (Committing changes)) = tt
      any p = tt
  left_none new InDoubt acts steps = any (standing lines who.session).posture
    where
      any : (p : Posture) → LeavesNoneAt (committed lines y) p new.work InDoubt
      any (Working (Committing changes)) = tt
      any p = tt
  left_none new (CommittedOpen t) acts steps = any (standing lines who.session).posture
    where
      any : (p : Posture) → LeavesNoneAt (committed lines y) p new.work (CommittedOpen t)
      any (Working (Committing changes)) = tt
      any p = tt
