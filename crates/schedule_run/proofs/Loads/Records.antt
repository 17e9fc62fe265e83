-- A commit that is answered as committed has a record of each change in the log, under the change's place.
use Rattle.std.proofs.Common.{◌≡◌, ◌+◌, ℕ, Bool, true, false, List, Ok, refl, sym, subst}
use Rattle.client_work.specs.Session.{Acting, StepsSession, StepsCommit, ShowsAt, acting_of}
use Rattle.client_work.specs.declared.answer.Answer.TheVariants as answer
use Rattle.client_work.specs.declared.shown.Shown.{Shown}
use Rattle.client_work.specs.declared.work.Work.{Work}
use Rattle.client_work.specs.declared.work.Work.TheVariants as work
use Rattle.cloud_facts.specs.Words.{CommitAnswer, Entry, AtomicRec, Answer as Reply, Ended, CloudState, Caller, Seen, Next, Goes, Ends, Stops, Book, Store, IsIn, StandsAt, store_of}
use Rattle.cloud_facts.specs.Homes.Homes.{Home, Part}
use Rattle.commit_run.specs.Draft.{Draft}
use Rattle.commit_run.specs.Run.{Run, home_of, wrote, walked, next_at as run_next_at, run_next}
use Rattle.commit_run.specs.declared.hand.Hand.{Hand}
use Rattle.commit_run.specs.declared.hand.Hand.TheVariants.{Writes, First, Change}
use Rattle.commit_writes.specs.Writing.{Writing, writing_next}
use Rattle.commit_writes.proofs.Outcomes as written
use Rattle.commit_writes.proofs.Outcomes.{Comes, comes}
use Rattle.db_base.specs.declared.trouble.CommitAnswer.TheVariants.{Committed, NotCommitted, InDoubt, CommittedOpen}
use Rattle.page_cache.specs.Cache.{Cache}
use Rattle.session_facts.proofs.Machines.CommitRuns.Stays.{RunsFor, IsRefusal, turns}
use Rattle.session_facts.specs.Machines.CommitRuns.Knows.{KnowsHand, KnowsRun}
use Rattle.session_facts.specs.Machines.Commits.Knows.{attempt_of, HasCommitted, KnowsCommitAt}
use Rattle.session_facts.specs.Sessions.Knows.{Sessions, SessionsStand, KnowsWork}
use Rattle.tree_walk.specs.Walk.{Walk}
use Rattle.txn_buffer.specs.Noted.{Noted}

-- a change at a place has its record in the log
pub record InLog (log : List AtomicRec) (client epoch txn place : ℕ) (n : Noted) : Type 0 where
  pub of : AtomicRec
  pub logged : IsIn log of
  pub client_is : of.client ≡ client
  pub epoch_is : of.epoch ≡ epoch
  pub txn_is : of.txn ≡ txn
  pub index_is : of.index ≡ place + 1
  pub tree_is : of.tree ≡ n.tree
  pub change_is : of.change ≡ n.change

-- so has each
pub record HasRecords (log : List AtomicRec) (client txn : ℕ) (changes : List Noted) : Type 0 where
  pub epoch : ℕ
  pub each : (place : ℕ) (n : Noted) → StandsAt changes place n → InLog log client epoch txn place n

-- of a transaction that is answered as committed
abbrev pub HasThese : List AtomicRec → ℕ → List Noted → CommitAnswer → Type 0
HasThese log client changes (Committed txn) = HasRecords log client txn changes
HasThese log client changes (NotCommitted t) = Unit {0}
HasThese log client changes InDoubt = Unit {0}
HasThese log client changes (CommittedOpen t) = Unit {0}

-- ---- where the writes lead

module _ (log : List AtomicRec) (client : ℕ) (changes : List Noted) where
  abbrev Keeps : Next Writing CommitAnswer → Type 0
  Keeps (Goes w) = Unit {0}
  Keeps (Ends w a) = HasThese log client changes a
  Keeps (Stops w t) = Unit {0}

has_records : (st : Store) (w : Writing) → HasCommitted st.book.log (attempt_of w) w.changes → HasRecords st.book.log w.home.client w.home.attempt w.changes
has_records st w committed = record {
  epoch = w.home.head.epoch;
  each = λ place n at.
      let c = committed place n at in
      record {
        of = c.of;
        logged = c.logged;
        client_is = c.is.client_is;
        epoch_is = c.is.epoch_is;
        txn_is = c.is.txn_is;
        index_is = c.index_is;
        tree_is = c.tree_is;
        change_is = c.change_is;
      };
}

keeps : (st : Store) (now : ℕ) (g : Home) (w : Writing) (a : Reply) (x : Next Writing CommitAnswer) → KnowsCommitAt w.stage st now w g → Comes w a x → Keeps st.book.log w.home.client w.changes x
keeps st now g v a x k (written.goes_on w id next (written.logs r e)) = tt
keeps st now g v a x k (written.goes_on w id next (written.opens e)) = tt
keeps st now g v a x k (written.not_logged w y failed) = tt
keeps st now g v a x k (written.late w end over) = tt
keeps st now g v a x k (written.doubts w y failed) = tt
keeps st now g w a x k (written.sends n r posts e) = tt
keeps st now g w a x k (written.settles n posts e) = tt
keeps st now g w a x k (written.stays_open leaves) = tt
keeps st now g w a x k (written.deletes n id clears e) = tt
keeps st now g v a x k (written.ends n (written.settled w) e) = has_records st v k.committed
keeps st now g v a x k (written.ends n (written.one_tried w y found) e) = has_records st v k.committed
keeps st now g w a x k (written.lacks v under) = tt
keeps st now g v a x k (written.waits w y) = tt
keeps st now g v a x k (written.rests w y) = tt

-- ---- where a run leads

abbrev RunKeeps : List AtomicRec → ℕ → List Noted → Next (Run × Cache) CommitAnswer → Type 0
RunKeeps log client changes (Goes m) = Unit {0}
RunKeeps log client changes (Ends m a) = HasThese log client changes a
RunKeeps log client changes (Stops m t) = Unit {0}

wrote_keeps : (log : List AtomicRec) (client : ℕ) (changes : List Noted) (d : Draft) (c : Cache) (n : Next Writing CommitAnswer) → Keeps log client changes n
    → RunKeeps log client changes (wrote d c n)
wrote_keeps log client changes d c (Goes w) k = tt
wrote_keeps log client changes d c (Ends w a) k = k
wrote_keeps log client changes d c (Stops w t) k = tt

refusal_keeps : (log : List AtomicRec) (client : ℕ) (changes : List Noted) (n : Next (Run × Cache) CommitAnswer) → RunsFor IsRefusal changes client n → RunKeeps log client changes n
refusal_keeps log client changes (Goes m) k = tt
refusal_keeps log client changes (Ends m a) k = subst (HasThese log client changes) (sym k.1.1) tt
refusal_keeps log client changes (Stops m t) k = tt

run_keeps : (st : Store) (now : ℕ) (m : Run × Cache) (part : Part) (reply : Reply) → KnowsRun st now m part
    → RunKeeps st.book.log (home_of m.0).client m.0.draft.writes.changes (run_next m reply)
run_keeps st now m part reply k = on m.0.hand k.hand
  where
    w : Writing
    w = m.0.draft.writes

    log : List AtomicRec
    log = st.book.log

    walks : (first : Bool) (walk : Walk) → RunKeeps log w.home.client w.changes (walked first m.0.draft walk m.1 reply)
    walks first walk =
        refusal_keeps log w.home.client w.changes _
        (turns w.changes w.home.client first m.0.draft walk m.1 reply (record { changes_are = refl; client_is = refl }))

    on : (hand : Hand) → KnowsHand hand st now m.0.draft part → RunKeeps log w.home.client w.changes (run_next_at hand m.0.draft m.1 reply)
    on Writes h = wrote_keeps log w.home.client w.changes m.0.draft m.1 (writing_next w reply) (keeps st now h.home w reply (writing_next w reply) h.at (comes w reply))
    on (First walk) h = walks true walk
    on (Change walk) h = walks false walk

-- ---- a step of a session

-- the records of a commit at work
abbrev pub HasFor : List AtomicRec → Work → CommitAnswer → Type 0
HasFor log (work.Committing r) a = HasThese log (home_of r).client r.draft.writes.changes a
HasFor log w a = Unit {0}

module _ (who : Caller) (before after : Seen) (s : CloudState) (book : Book) (order : List Entry) (sessions : Sessions) (stand : SessionsStand book order s sessions) where
  abbrev old : Work
  old = (sessions who.session).work

  abbrev kept : Cache
  kept = (sessions who.session).cache

  commit_keeps : (r : Run) → old ≡ work.Committing r → (c : Cache) (new : Work) (a : CommitAnswer) → StepsCommit who before after (r, kept) (new, c) (Ended (answer.Commit a))
      → HasThese book.log (home_of r).client r.draft.writes.changes a
  commit_keeps r is c new a (m, steps, left) =
      subst (RunKeeps book.log (home_of r).client r.draft.writes.changes) steps.took
      (run_keeps (store_of book order s) s.now (r, kept) (stand.parts who.session) steps.answer
      (subst (λ x. KnowsWork (store_of book order s) s.now kept x (stand.parts who.session)) is (stand.each who.session).work))

  by_commit : (buffer : List Noted) (x new : Work) (c : Cache) (shown : Shown) (a : CommitAnswer) → old ≡ x
      → ShowsAt who before after (x, kept) (acting_of buffer new c shown) (Ended (answer.Commit a)) → HasFor book.log x a
  by_commit buffer (work.Committing r) new c shown a is shows = commit_keeps r is c new a shows.0
  by_commit buffer x new c shown a is shows = tt

  -- a commit that a step answers as committed had its records in the log before the step
  pub session_records : (new : Acting) (a : CommitAnswer) → StepsSession who before after (sessions who.session) new (Ok (Ended (answer.Commit a))) → HasFor book.log old a
  session_records new a steps = by_commit new.buffer old new.work steps.shown.0 new.shown a refl steps.shown.1
