-- What holds after every line of a replay, of the cloud and of all sessions.
use Rattle.std.specs.Prelude.{ℕ, ◌≡◌, ◌≤◌, ◌+◌, Bool, false, List, [], length, slice_get, unwrap_or, Some, All}
use Rattle.cloud_trait.specs.Growth.{BeginsWith}
use Rattle.cloud_facts.specs.Words.{Entry, CloudState, Book}
use Rattle.cloud_trait.specs.Upto.{IsUpto}
use Rattle.cloud_trait.specs.declared.state.Landing.{Landing}
use Rattle.cloud_trait.specs.declared.state.Site.{Site}
use Rattle.cloud_trait.specs.declared.state.Site.TheVariants.{Object, Queue}
use Rattle.event_text.specs.declared.event.Event.TheVariants as event
use Rattle.history.specs.Fold.{of_tree}
use Rattle.history.specs.Audited.{Audited}
use Rattle.reply_text.specs.declared.reply.Reply.{Reply}
use Rattle.reply_text.specs.declared.reply.Reply.TheVariants as reply
use Rattle.client_work.specs.declared.work.Work.{Work}
use Rattle.client_work.specs.declared.work.Work.TheVariants as work
use Rattle.client_work.specs.Session.{Acting, closed_session}
use Rattle.replay_meaning.specs.Standing.{Line, Closed, Idle, Broken, Working, Opening, Closing, Renewing, Committing, Reading as ReadingKey, Scanning as ScanningRange, LookingUp, Paging as PagingPage, Folding as FoldingTree, Standing, standing, standing_of_row}
use Rattle.replay_meaning.specs.Committed.{Versions, committed}
use Rattle.replay_meaning.specs.Kinds.{IsOfKind, OpensOnce}
use Rattle.tree_walk.specs.Walk.{sought}
use Rattle.commit_run.specs.Run.{home_of}
use Rattle.session_facts.specs.Lines.Running.{IsOpening, IsSettledHead, IsRunning, IsOfTree}
use Rattle.cloud_facts.specs.Calls.Looks.{audit_of}
use Rattle.session_facts.specs.Sessions.Knows.{Sessions, SessionsStand}
use Rattle.session_facts.specs.Sessions.Landed.{LandedFor}
use Rattle.txn_buffer.specs.Noted.{Noted}
use Rattle.cloud_facts.specs.Book.Records.{entries_of}

-- ---- the sessions of a list

-- the session of a number; a number that has none has a closed one
abbrev pub session_at : List Acting → Sessions
session_at sessions number = unwrap_or (slice_get sessions number) closed_session

-- ---- what holds of a cloud

-- a row of the trace names a version that is there
abbrev pub IsPlacedAt : Versions → ℕ → Site → Type 0
IsPlacedAt versions position (Object name) = position ≤ length (versions name)
IsPlacedAt versions position (Queue queue) = Unit {0}

abbrev pub IsPlaced : Versions → Landing → Type 0
IsPlaced versions row = IsPlacedAt versions row.position row.site

-- the rows name versions that are there, all that landed did so up to event n, and the book has what the lines committed; each row is of a kind
-- that its session's standing allows, and no transaction opened twice
pub record CloudStands (n : ℕ) (lines : List Line) (book : Book) (t : CloudState) : Type 0 where
  pub placed : All (IsPlaced t.versions) t.trace
  pub upto : IsUpto n t
  pub committed : entries_of book.log ≡ committed lines t
  pub kinds : All (IsOfKind lines t) t.trace
  pub once : OpensOnce t

-- ---- what was reported

-- where a reply is a report, its order is where the order begins in its tree
abbrev pub IsFrontOf : List Entry → Reply → Type 0
IsFrontOf order (reply.Report r) = BeginsWith r.order (of_tree r.tree order)
IsFrontOf order reply = Unit {0}

-- the order goes on from that of each report of the lines
abbrev pub Reported : List Line → List Entry → Type 0
Reported lines order = (k : ℕ) (line : Line) → slice_get lines k ≡ Some line → IsFrontOf order line.reply

-- ---- how a session stands by the lines

-- a session's work is what the lines say that it has in hand, and under way; a settling and a sweep are no session's of the lines
abbrev pub WorksAs : Work → Standing → Type 0
WorksAs work.Closed s = s.posture ≡ Closed
WorksAs (work.Idle home) s = (s.posture ≡ Idle) × (s.client ≡ home.client)
WorksAs (work.Opening r) s = (s.posture ≡ Working Opening) × (s.client ≡ r.client) × (s.buffer ≡ []) × IsOpening r × IsSettledHead r
WorksAs (work.Committing r) s = (s.posture ≡ Working (Committing r.draft.writes.changes)) × (s.client ≡ (home_of r).client) × IsRunning r
WorksAs (work.Reading home m) s = (s.posture ≡ Working (ReadingKey m.tree (sought m))) × (s.client ≡ home.client)
WorksAs (work.Scanning home l) s = (s.posture ≡ Working (ScanningRange l.scan.walk.tree (sought l.scan.walk) (unwrap_or l.scan.to []))) × (s.client ≡ home.client)
WorksAs (work.Looking home m) s = (s.posture ≡ Working (LookingUp m.query.tree m.query.attr)) × (s.client ≡ home.client)
WorksAs (work.Paging home p) s = (s.posture ≡ Working (PagingPage p.tree p.page)) × (s.client ≡ home.client)
WorksAs (work.Folding home f) s = (s.posture ≡ Working (FoldingTree f.tree)) × (s.client ≡ home.client) × IsOfTree f.tree f.work
WorksAs (work.Closing lease) s = s.posture ≡ Working Closing
WorksAs (work.Renewing home) s = (s.posture ≡ Working Renewing) × (s.client ≡ home.client)
WorksAs (work.Settling m) s = ⊥
WorksAs (work.Sweeping m) s = ⊥
WorksAs (work.Broken lease) s = s.posture ≡ Broken

pub record ActsAs (session : Acting) (s : Standing) : Type 0 where
  pub buffer : session.buffer ≡ s.buffer
  pub work : WorksAs session.work s

-- each session stands as the lines say
abbrev pub AllAct : List Line → Sessions → Type 0
AllAct lines sessions = (session : ℕ) → ActsAs (sessions session) (standing lines session)

-- ---- what a session landed since its commit began

-- the line began a commit of the session
pub record BeginsCommit (session : ℕ) (line : Line) : Type 0 where
  pub asks : line.event ≡ event.Commit session
  pub begun : line.reply ≡ reply.Begun

-- from an event's line on none of these lines began a commit of the session: so what it did at that event is of its newest one
abbrev pub BeganBefore : List Line → ℕ → ℕ → Type 0
BeganBefore lines session number = (k : ℕ) (line : Line) → slice_get lines k ≡ Some line → number ≤ k + 1 → BeginsCommit session line → ⊥

-- a row of the session's commit of these changes: it landed by the session's own call since its newest commit began, and the session stood at work on that
pub record IsOfCommit (lines : List Line) (session : ℕ) (changes : List Noted) (place : ℕ) (row : Landing) : Type 0 where
  pub own : row.who.session ≡ session
  pub since : BeganBefore lines session row.who.event
  pub stood : (standing_of_row lines row).posture ≡ Working (Committing changes)

-- each commit at work whose head's put was answered landed by such a row
abbrev pub AllLanded : List Line → Sessions → CloudState → Type 0
AllLanded lines sessions t = (session : ℕ) → LandedFor (IsOfCommit lines session) t (sessions session).work

-- ---- what holds of sessions, an audit and a cloud after lines

-- the cloud stands under a book, with an order, and so do all sessions; the audit has both where no look failed; and the order goes on from
-- those that were reported, and each commit that landed did so by its own session. What landed did so up to event n
pub record CloudHolds (n : ℕ) (lines : List Line) (sessions : Sessions) (audit : Audited) (blind : Bool) (t : CloudState) : Type 0 where
  pub book : Book
  pub order : List Entry
  pub stand : SessionsStand book order t sessions
  pub cloud : CloudStands n lines book t
  pub seen : blind ≡ false → audit ≡ audit_of book order
  pub reported : Reported lines order
  pub landed : AllLanded lines sessions t

-- the settler, which is session 0, is at work within its own line alone
abbrev pub SettlerRests : Sessions → Type 0
SettlerRests sessions = sessions 0 ≡ closed_session

-- after lines
pub record Stands (lines : List Line) (sessions : Sessions) (audit : Audited) (blind : Bool) (t : CloudState) : Type 0 where
  pub holds : CloudHolds (length lines) lines sessions audit blind t
  pub acts : AllAct lines sessions
  pub rests : SettlerRests sessions

-- within the line behind these, when what landed may be of that line
pub record GoesOn (lines : List Line) (sessions : Sessions) (audit : Audited) (blind : Bool) (t : CloudState) : Type 0 where
  pub holds : CloudHolds (length lines + 1) lines sessions audit blind t
  pub acts : AllAct lines sessions

-- ---- whatever lines led there

-- some book and some order stand for a cloud and these sessions, and the settler rests
pub record SomeBookStands (sessions : Sessions) (t : CloudState) : Type 0 where
  pub book : Book
  pub order : List Entry
  pub stand : SessionsStand book order t sessions
  pub rests : SettlerRests sessions

-- a cloud that runs left: some book stands for it once all their sessions are gone
abbrev pub WasLeft : CloudState → Type 0
WasLeft t = SomeBookStands (λ session. closed_session) t
