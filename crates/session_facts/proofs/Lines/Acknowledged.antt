-- A commit that is answered as committed is among what was committed.
use Rattle.std.proofs.Common.{◌≡◌, ℕ, Bool, true, false, List, [], Option, Some, Ok, refl, sym, ap, subst, ◌∙◌}
use Rattle.std.specs.Prelude.{All}
use Rattle.std.proofs.lemmas.List.{append-nil}
use Rattle.client_work.specs.Session.{Acting, StepsSession, StepsAt, StepsCommit, ShowsAt, acting_of}
use Rattle.client_work.specs.declared.answer.Answer.{Answer}
use Rattle.client_work.specs.declared.answer.Answer.TheVariants as answer
use Rattle.client_work.specs.declared.shown.Shown.{Shown}
use Rattle.client_work.specs.declared.work.Work.{Work}
use Rattle.client_work.specs.declared.work.Work.TheVariants as work
use Rattle.cloud_facts.proofs.Book.Places.{get_map, in_front}
use Rattle.cloud_facts.specs.Words.{CommitAnswer, Entry, AtomicRec, Answer as Reply, Turn, Ended, CloudState, called, Caller, Seen, Next, Goes, Ends, Stops, Book, Store, IsIn, store_of}
use Rattle.cloud_facts.specs.Book.Records.{entry_of, entries_of}
use Rattle.cloud_facts.specs.Homes.Homes.{Home, Part}
use Rattle.cloud_trait.specs.Growth.{BeginsWith}
use Rattle.cloud_trait.specs.Weather.{counted, Leaves}
use Rattle.cloud_trait.proofs.RowLemmas.{leaves_by}
use Rattle.commit_run.specs.Draft.{Draft}
use Rattle.commit_run.specs.Run.{Run, home_of, wrote, walked, next_at as run_next_at, run_next}
use Rattle.commit_run.specs.declared.hand.Hand.{Hand}
use Rattle.commit_run.specs.declared.hand.Hand.TheVariants.{Writes, First, Change}
use Rattle.commit_writes.specs.Writing.{Writing, writing_next}
use Rattle.commit_writes.proofs.Outcomes as written
use Rattle.commit_writes.proofs.Outcomes.{Comes as Wrote, comes as wrote_by}
use Rattle.db_base.specs.declared.trouble.CommitAnswer.TheVariants.{Committed, NotCommitted, InDoubt, CommittedOpen}
use Rattle.history.specs.Audited.{Audited, committed_entry}
use Rattle.page_cache.specs.Cache.{Cache}
use Rattle.replay_meaning.specs.Committed.{committed}
use Rattle.replay_meaning.specs.Standing.{Line, Posture, Standing, standing}
use Rattle.session_facts.proofs.Lines.Committed.{put_entries, committed_effect, placed_called}
use Rattle.session_facts.proofs.Machines.CommitRuns.Stays.{RunsFor, IsRefusal, turns}
use Rattle.session_facts.proofs.Lines.Outcome.{MadeCall, made_call}
use Rattle.session_facts.specs.Lines.Acknowledged.{HasEntries, IsKeptCommit, IsKeptAt}
use Rattle.session_facts.specs.Machines.CommitRuns.Knows.{KnowsHand, KnowsRun}
use Rattle.session_facts.specs.Machines.Commits.Knows.{Attempt, attempt_of, IsLogged, HasCommitted, KnowsCommitAt}
use Rattle.session_facts.specs.Lines.Facts.{IsPlaced, WorksAs, CloudHolds}
use Rattle.session_facts.specs.Sessions.Knows.{Sessions, SessionsStand, KnowsWork}
use Rattle.tree_walk.specs.Walk.{Walk}
use Rattle.txn_buffer.specs.Noted.{Noted}

-- ---- entries

-- a change that has its record has its entry
entry_in : (log : List AtomicRec) (x : Attempt) (place : ℕ) (n : Noted) → IsLogged log x place n → IsIn (entries_of log) (committed_entry x.client x.epoch x.txn n)
entry_in log x place n of = (of.logged.0, get_map entry_of log of.logged.0 of.of of.logged.1 ∙ ap some same)
  where
    some : Entry → Option Entry
    some e = Some e

    same : entry_of of.of ≡ committed_entry x.client x.epoch x.txn n
    same =
        let a = of.is.client_is in let b = of.is.epoch_is in let c = of.is.txn_is in let d = of.tree_is in let e = of.change_is in
        cc

-- what is among the entries stays so
pub kept_on : (entries more : List Entry) (client : ℕ) (changes : List Noted) (a : CommitAnswer) → BeginsWith entries more → IsKeptCommit entries client changes a → IsKeptCommit more client changes a
kept_on entries more client changes a begins = on a
  where
    more_of : (txn : ℕ) → HasEntries entries client txn changes → HasEntries more client txn changes
    more_of txn h = record {
      epoch = h.epoch;
      each = λ n is. subst (λ es. IsIn es (committed_entry client h.epoch txn n)) (sym begins.1) (in_front entries begins.0 (committed_entry client h.epoch txn n) (h.each n is));
    }

    on : (b : CommitAnswer) → IsKeptCommit entries client changes b → IsKeptCommit more client changes b
    on (Committed txn) h = more_of txn h
    on (CommittedOpen t) h = (h.0, more_of h.0 h.1)
    on (NotCommitted t) h = tt
    on InDoubt h = tt

-- ---- where the writes lead

module _ (entries : List Entry) (client : ℕ) (changes : List Noted) where
  abbrev Keeps : Next Writing CommitAnswer → Type 0
  Keeps (Goes w) = Unit {0}
  Keeps (Ends w a) = IsKeptCommit entries client changes a
  Keeps (Stops w t) = Unit {0}

has_entries : (st : Store) (w : Writing) → HasCommitted st.book.log (attempt_of w) w.changes → HasEntries (entries_of st.book.log) w.home.client w.home.attempt w.changes
has_entries st w committed = record { epoch = w.home.head.epoch; each = λ n is. entry_in st.book.log (attempt_of w) is.0 n (committed is.0 n is.1) }

keeps_by : (st : Store) (now : ℕ) (g : Home) (w : Writing) (a : Reply) (x : Next Writing CommitAnswer) → KnowsCommitAt w.stage st now w g → Wrote w a x
    → Keeps (entries_of st.book.log) w.home.client w.changes x
keeps_by st now g v a x k (written.goes_on w id next (written.logs r e)) = tt
keeps_by st now g v a x k (written.goes_on w id next (written.opens e)) = tt
keeps_by st now g v a x k (written.not_logged w y failed) = tt
keeps_by st now g v a x k (written.late w end over) = tt
keeps_by st now g v a x k (written.doubts w y failed) = tt
keeps_by st now g w a x k (written.sends n r posts e) = tt
keeps_by st now g w a x k (written.settles n posts e) = tt
keeps_by st now g v a x k (written.stays_open (written.not_sent w y failed)) = (v.home.attempt, has_entries st v k.committed)
keeps_by st now g v a x k (written.stays_open (written.not_settled w y failed)) = (v.home.attempt, has_entries st v k.committed)
keeps_by st now g w a x k (written.deletes n id clears e) = tt
keeps_by st now g v a x k (written.ends n (written.settled w) e) = has_entries st v k.committed
keeps_by st now g v a x k (written.ends n (written.one_tried w y found) e) = has_entries st v k.committed
keeps_by st now g w a x k (written.lacks v under) = tt
keeps_by st now g v a x k (written.waits w y) = tt
keeps_by st now g v a x k (written.rests w y) = tt

-- ---- where a run leads

abbrev RunKeeps : List Entry → ℕ → List Noted → Next (Run × Cache) CommitAnswer → Type 0
RunKeeps entries client changes (Goes m) = Unit {0}
RunKeeps entries client changes (Ends m a) = IsKeptCommit entries client changes a
RunKeeps entries client changes (Stops m t) = Unit {0}

wrote_keeps : (entries : List Entry) (client : ℕ) (changes : List Noted) (d : Draft) (c : Cache) (n : Next Writing CommitAnswer) → Keeps entries client changes n
    → RunKeeps entries client changes (wrote d c n)
wrote_keeps entries client changes d c (Goes w) k = tt
wrote_keeps entries client changes d c (Ends w a) k = k
wrote_keeps entries client changes d c (Stops w t) k = tt

-- while it walks it is answered with no more than a refusal
refusal_keeps : (entries : List Entry) (client : ℕ) (changes : List Noted) (n : Next (Run × Cache) CommitAnswer) → RunsFor IsRefusal changes client n → RunKeeps entries client changes n
refusal_keeps entries client changes (Goes m) k = tt
refusal_keeps entries client changes (Ends m a) k = subst (IsKeptCommit entries client changes) (sym k.1.1) tt
refusal_keeps entries client changes (Stops m t) k = tt

-- so a run that is answered has its changes among what was committed
run_keeps : (st : Store) (now : ℕ) (m : Run × Cache) (part : Part) (reply : Reply) → KnowsRun st now m part
    → RunKeeps (entries_of st.book.log) (home_of m.0).client m.0.draft.writes.changes (run_next m reply)
run_keeps st now m part reply k = on m.0.hand k.hand
  where
    w : Writing
    w = m.0.draft.writes

    entries : List Entry
    entries = entries_of st.book.log

    walks : (first : Bool) (walk : Walk) → RunKeeps entries w.home.client w.changes (walked first m.0.draft walk m.1 reply)
    walks first walk =
        refusal_keeps entries w.home.client w.changes _
        (turns w.changes w.home.client first m.0.draft walk m.1 reply (record { changes_are = refl; client_is = refl }))

    on : (hand : Hand) → KnowsHand hand st now m.0.draft part → RunKeeps entries w.home.client w.changes (run_next_at hand m.0.draft m.1 reply)
    on Writes h = wrote_keeps entries w.home.client w.changes m.0.draft m.1 (writing_next w reply) (keeps_by st now h.home w reply (writing_next w reply) h.at (wrote_by w reply))
    on (First walk) h = walks true walk
    on (Change walk) h = walks false walk

-- ---- a step of a session

-- the changes of a commit at work are kept
abbrev pub IsKeptFor : List Entry → Work → CommitAnswer → Type 0
IsKeptFor entries (work.Committing r) a = IsKeptCommit entries (home_of r).client r.draft.writes.changes a
IsKeptFor entries work a = Unit {0}

module _ (who : Caller) (before after : Seen) (s : CloudState) (book : Book) (order : List Entry) (sessions : Sessions) (stand : SessionsStand book order s sessions) where
  abbrev old : Work
  old = (sessions who.session).work

  abbrev kept : Cache
  kept = (sessions who.session).cache

  commit_keeps : (r : Run) → old ≡ work.Committing r → (c : Cache) (new : Work) (a : CommitAnswer) → StepsCommit who before after (r, kept) (new, c) (Ended (answer.Commit a))
      → IsKeptCommit (entries_of book.log) (home_of r).client r.draft.writes.changes a
  commit_keeps r is c new a (m, steps, left) =
      subst (RunKeeps (entries_of book.log) (home_of r).client r.draft.writes.changes) steps.took
      (run_keeps (store_of book order s) s.now (r, kept) (stand.parts who.session) steps.answer
      (subst (λ x. KnowsWork (store_of book order s) s.now kept x (stand.parts who.session)) is (stand.each who.session).work))

  by_commit : (buffer : List Noted) (x new : Work) (c : Cache) (shown : Shown) (a : CommitAnswer) → old ≡ x
      → ShowsAt who before after (x, kept) (acting_of buffer new c shown) (Ended (answer.Commit a)) → IsKeptFor (entries_of book.log) x a
  by_commit buffer (work.Committing r) new c shown a is shows = commit_keeps r is c new a shows.0
  by_commit buffer x new c shown a is shows = tt

  -- a commit that a step answers as committed had its changes in the log before the step
  pub session_acknowledges : (new : Acting) (a : CommitAnswer) → StepsSession who before after (sessions who.session) new (Ok (Ended (answer.Commit a)))
      → IsKeptFor (entries_of book.log) old a
  session_acknowledges new a steps = by_commit new.buffer old new.work steps.shown.0 new.shown a refl steps.shown.1

-- ---- by the lines

-- a call takes nothing from what was committed
pub call_commits_on : (lines : List Line) (who : Caller) (before after : Seen) (x y : CloudState) (w new : Work) (turn : Turn Answer) → before.state ≡ Some x → after.state ≡ Some y
    → All (IsPlaced x.versions) x.trace → StepsAt who before after w new turn → BeginsWith (committed lines x) (committed lines y)
call_commits_on lines who before after x y w new turn told told_after placed steps =
    subst GoesOn (one l.after y (sym l.told ∙ told_after))
    (leaves_by GoesOn who call.ask call.answer before.counts after.counts x after.state l ([], sym (append-nil (committed lines x)))
    (λ permits. (put_entries lines who call.ask, committed_effect lines who call.ask (called who l.after.now x) (placed_called who l.after.now x placed))))
  where
    GoesOn : CloudState → Type 0
    GoesOn t = BeginsWith (committed lines x) (committed lines t)

    call : MadeCall who before after w
    call = made_call who before after w new turn steps

    l : Leaves who call.ask call.answer (counted before.counts x) after.counts after.state
    l = call.made.state x told

    one : (a b : CloudState) → Some a ≡ Some b → a ≡ b
    one a b e = cc

kept_for_on : (entries more : List Entry) (w : Work) (a : CommitAnswer) → BeginsWith entries more → IsKeptFor entries w a → IsKeptFor more w a
kept_for_on entries more (work.Committing r) a begins h = kept_on entries more (home_of r).client r.draft.writes.changes a begins h
kept_for_on entries more w a begins h = tt

-- as the lines say that a session stands
kept_by_lines : (entries : List Entry) (w : Work) (s : Standing) (a : CommitAnswer) → WorksAs w s → IsKeptFor entries w a → IsKeptAt entries s.client s.posture a
kept_by_lines entries w s a = on w
  where
    At : Posture → Type 0
    At p = IsKeptAt entries s.client p a

    on : (x : Work) → WorksAs x s → IsKeptFor entries x a → At s.posture
    on (work.Committing r) acts h = subst At (sym acts.0) (subst (λ c. IsKeptCommit entries c r.draft.writes.changes a) (sym acts.1) h)
    on (work.Opening r) acts h = subst At (sym acts.0) tt
    on (work.Reading home m) acts h = subst At (sym acts.0) tt
    on (work.Scanning home l) acts h = subst At (sym acts.0) tt
    on (work.Looking home m) acts h = subst At (sym acts.0) tt
    on (work.Paging home p) acts h = subst At (sym acts.0) tt
    on (work.Folding home f) acts h = subst At (sym acts.0) tt
    on (work.Closing lease) acts h = subst At (sym acts) tt
    on (work.Renewing home) acts h = subst At (sym acts.0) tt
    on (work.Settling m) acts h = absurd acts
    on (work.Sweeping m) acts h = absurd acts
    on work.Closed acts h = subst At (sym acts) tt
    on (work.Idle home) acts h = subst At (sym acts.0) tt
    on (work.Broken lease) acts h = subst At (sym acts) tt

-- a step that answers a commit as committed leaves its changes among what the lines committed
pub acknowledged : (n : ℕ) (lines : List Line) (who : Caller) (before after : Seen) (x y : CloudState) (sessions : Sessions) (new : Acting) (audit : Audited) (blind : Bool)
    (a : CommitAnswer) → CloudHolds n lines sessions audit blind x → before.state ≡ Some x → after.state ≡ Some y
    → WorksAs (sessions who.session).work (standing lines who.session) → StepsSession who before after (sessions who.session) new (Ok (Ended (answer.Commit a)))
    → IsKeptAt (committed lines y) (standing lines who.session).client (standing lines who.session).posture a
acknowledged n lines who before after x y sessions new audit blind a h told told_after acts steps =
    kept_by_lines (committed lines y) w (standing lines who.session) a acts
    (kept_for_on (committed lines x) (committed lines y) w a
    (call_commits_on lines who before after x y w new.work (Ended (answer.Commit a)) told told_after h.cloud.placed steps.work)
    (subst (λ es. IsKeptFor es w a) h.cloud.committed (session_acknowledges who before after x h.book h.order sessions h.stand new a steps)))
  where
    w : Work
    w = (sessions who.session).work
