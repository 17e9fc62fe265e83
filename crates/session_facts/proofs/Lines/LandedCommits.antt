-- A commit that is answered as committed landed by its session's own row.
use Rattle.std.proofs.Common.{◌≡◌, ◌≤◌, ◌+◌, ℕ, Bool, List, length, map, Some, Ok, sym, ap, subst, ◌∙◌}
use Rattle.std.specs.Prelude.{All, slice_get}
use Rattle.client_work.specs.Session.{Acting, StepsSession}
use Rattle.client_work.specs.declared.answer.Answer.TheVariants as answer
use Rattle.client_work.specs.declared.work.Work.{Work}
use Rattle.client_work.specs.declared.work.Work.TheVariants as work
use Rattle.cloud_facts.proofs.Book.Places.{get_front, get_map}
use Rattle.cloud_facts.specs.Words.{CommitAnswer, Ended, Entry, CloudState, Caller, ObjName, Seen, IsIn, store_of}
use Rattle.cloud_trait.specs.Growth.{BeginsWith}
use Rattle.cloud_trait.specs.declared.state.Landing.{Landing}
use Rattle.commit_writes.specs.Writing.{Writing}
use Rattle.db_base.specs.declared.names.ObjName.TheVariants as object
use Rattle.db_base.specs.declared.trouble.CommitAnswer.TheVariants.{Committed, NotCommitted, InDoubt, CommittedOpen}
use Rattle.history.specs.Audited.{Audited, committed_entry}
use Rattle.replay_meaning.specs.Committed.{changes_at, changes_of_row, entries_of_bytes, row_entries, site_entries}
use Rattle.replay_meaning.specs.Kinds.{LandsOpen}
use Rattle.replay_meaning.specs.Standing.{Line, Posture, Standing, Working, Committing, session_of, standing}
use Rattle.reply_text.specs.declared.reply.Reply.{Reply}
use Rattle.reply_text.specs.declared.reply.Reply.TheVariants as reply
use Rattle.session_facts.proofs.Lines.Landed.{own_row}
use Rattle.session_facts.proofs.Rows.Committed.{opened_entries}
use Rattle.session_facts.proofs.Rows.Once.{at_place}
use Rattle.session_facts.proofs.Sessions.Landed.{landed_answers, put_grows}
use Rattle.session_facts.specs.Lines.Acknowledged.{LandedCommit, IsLandedCommit, IsLandedAt, IsLandedReply, IsLandedLine}
use Rattle.session_facts.specs.Lines.Facts.{CloudHolds, IsOfCommit, WorksAs}
use Rattle.session_facts.specs.Machines.Commits.Knows.{attempt_of}
use Rattle.session_facts.specs.Sessions.Knows.{Sessions}
use Rattle.session_facts.specs.Sessions.Landed.{LandedAnswer, HasLanded, LandedBy}
use Rattle.txn_buffer.specs.Noted.{Noted}

-- ---- what landed stays

module _ (lines : List Line) (s t : CloudState) (versions : (name : ObjName) → BeginsWith (s.versions name) (t.versions name)) (trace : BeginsWith s.trace t.trace) where
  commit_grows : (session client txn : ℕ) (changes : List Noted) → LandedCommit lines s session client txn changes → LandedCommit lines t session client txn changes
  commit_grows session client txn changes h = record {
    place = h.place;
    row = h.row;
    there = ap (λ (rows : List Landing). slice_get rows h.place) trace.1 ∙ get_front s.trace trace.0 h.place h.row h.there;
    own = h.own;
    since = h.since;
    within = h.within;
    head = h.head;
    opens = opens;
    txn_is = h.txn_is;
    each = λ n is. subst (λ (es : List Entry). IsIn es (committed_entry client h.head.epoch txn n)) (of_row s h.opens ∙ sym (of_row t opens)) (h.each n is);
  }
    where
      opens : LandsOpen t h.row client h.head
      opens = record {
        site = h.opens.site;
        bytes = h.opens.bytes;
        put = put_grows (s.versions (object.Head client)) (t.versions (object.Head client)) h.row.position h.opens.bytes (versions (object.Head client)) h.opens.put;
        spells = h.opens.spells;
        count = h.opens.count;
        opens = h.opens.opens;
      }

      of_row : (x : CloudState) → (o : LandsOpen x h.row client h.head) → row_entries lines x.versions h.row ≡ entries_of_bytes client (Some o.bytes) (changes_of_row lines h.row)
      of_row x o =
          ap (site_entries (changes_of_row lines h.row) x.versions h.row.position) o.site
          ∙ ap (λ found. entries_of_bytes client found (changes_of_row lines h.row)) o.put

  reply_grows : (session client : ℕ) (p : Posture) (r : Reply) → IsLandedReply lines s session client p r → IsLandedReply lines t session client p r
  reply_grows session client p (reply.Commit a) h = at_posture p h
    where
      of_answer : (changes : List Noted) (b : CommitAnswer) → IsLandedCommit lines s session client changes b → IsLandedCommit lines t session client changes b
      of_answer changes (Committed txn) k = commit_grows session client txn changes k
      of_answer changes (CommittedOpen trouble) k = (k.0, commit_grows session client k.0 changes k.1)
      of_answer changes (NotCommitted trouble) k = tt
      of_answer changes InDoubt k = tt

      at_posture : (q : Posture) → IsLandedAt lines s session client q a → IsLandedAt lines t session client q a
      at_posture (Working (Committing changes)) k = of_answer changes a k
      at_posture q k = tt
  reply_grows session client p r h = tt

  -- of a line too
  pub landed_grows : (line : Line) → IsLandedLine lines s line → IsLandedLine lines t line
  landed_grows line h = reply_grows (session_of line.event) (standing lines (session_of line.event)).client (standing lines (session_of line.event)).posture line.reply h

-- ---- a step

module _ (lines : List Line) (t : CloudState) (session : ℕ) (upto : All (λ (r : Landing). r.who.event ≤ length lines + 1) t.trace) where
  -- what landed commits its changes
  landed_commit : (w : Writing) → HasLanded (IsOfCommit lines session w.changes) t (attempt_of w) → LandedCommit lines t session w.home.client w.home.attempt w.changes
  landed_commit w h = record {
    place = h.place;
    row = h.row;
    there = h.there;
    own = h.own.own;
    since = h.own.since;
    within = at_place (λ (r : Landing). r.who.event ≤ length lines + 1) t.trace h.place h.row upto h.there;
    head = h.head;
    opens = h.opens;
    txn_is = h.txn_is;
    each = λ n is. (is.0, ap (λ (es : List Entry). slice_get es is.0) entries ∙ get_map (committed_entry w.home.client h.head.epoch w.home.attempt) w.changes is.0 n is.1);
  }
    where
      entries : row_entries lines t.versions h.row ≡ map (committed_entry w.home.client h.head.epoch w.home.attempt) w.changes
      entries =
          ap (site_entries (changes_of_row lines h.row) t.versions h.row.position) h.opens.site
          ∙ ap (λ found. entries_of_bytes w.home.client found (changes_of_row lines h.row)) h.opens.put
          ∙ ap (λ posture. entries_of_bytes w.home.client (Some h.opens.bytes) (changes_at posture)) h.own.stood
          ∙ opened_entries w.home.client h.opens.bytes h.head h.opens.count w.changes h.opens.spells h.opens.opens
          ∙ ap (λ txn. map (committed_entry w.home.client h.head.epoch txn) w.changes) h.txn_is

  by_answer : (w : Writing) (a : CommitAnswer) → LandedBy (IsOfCommit lines session) t w a → IsLandedCommit lines t session w.home.client w.changes a
  by_answer w (Committed txn) h = subst (λ (k : ℕ). LandedCommit lines t session w.home.client k w.changes) (sym h.1) (landed_commit w h.0)
  by_answer w (CommittedOpen trouble) h = (w.home.attempt, landed_commit w h)
  by_answer w (NotCommitted trouble) h = tt
  by_answer w InDoubt h = tt

  -- as the lines say that the session stands
  by_lines : (w : Work) (s : Standing) (a : CommitAnswer) → WorksAs w s → LandedAnswer (IsOfCommit lines session) t w a → IsLandedAt lines t session s.client s.posture a
  by_lines w s a = on w
    where
      At : Posture → Type 0
      At p = IsLandedAt lines t session s.client p a

      on : (x : Work) → WorksAs x s → LandedAnswer (IsOfCommit lines session) t x a → At s.posture
      on (work.Committing r) acts h =
          subst At (sym acts.0) (subst (λ (c : ℕ). IsLandedCommit lines t session c r.draft.writes.changes a) (sym acts.1) (by_answer r.draft.writes a h))
      on (work.Opening r) acts h = subst At (sym acts.0) tt
      on (work.Reading home m) acts h = subst At (sym acts.0) tt
      on (work.Scanning home l) acts h = subst At (sym acts.0) tt
      on (work.Looking home m) acts h = subst At (sym acts.0) tt
      on (work.Paging home p) acts h = subst At (sym acts.0) tt
      on (work.Folding home f) acts h = subst At (sym acts.0) tt
      on (work.Closing lease) acts h = subst At (sym acts) tt
      on (work.Renewing home) acts h = subst At (sym acts.0) tt
      on (work.Settling m) acts h = absurd acts
      on (work.Sweeping m) acts h = absurd acts
      on work.Closed acts h = subst At (sym acts) tt
      on (work.Idle home) acts h = subst At (sym acts.0) tt
      on (work.Broken lease) acts h = subst At (sym acts) tt

-- a step that answers a commit as committed leaves it landed so
pub answered_landed : (lines : List Line) (who : Caller) (before after : Seen) (x y : CloudState) (sessions : Sessions) (new : Acting) (audit : Audited) (blind : Bool) (a : CommitAnswer)
    → who.event ≡ length lines + 1 → CloudHolds (length lines + 1) lines sessions audit blind x → before.state ≡ Some x → after.state ≡ Some y
    → All (λ (r : Landing). r.who.event ≤ length lines + 1) y.trace
    → WorksAs (sessions who.session).work (standing lines who.session) → StepsSession who before after (sessions who.session) new (Ok (Ended (answer.Commit a)))
    → IsLandedAt lines y who.session (standing lines who.session).client (standing lines who.session).posture a
answered_landed lines who before after x y sessions new audit blind a event h told told_after upto acts steps =
    by_lines lines y who.session upto w (standing lines who.session) a acts
    (landed_answers (IsOfCommit lines who.session) who before after x y told told_after (store_of h.book h.order x) x.now (sessions who.session).cache (h.stand.parts who.session) w new.work a
    (h.stand.each who.session).work (own_row lines who w event acts) (h.landed who.session) steps.work)
  where
    w : Work
    w = (sessions who.session).work
