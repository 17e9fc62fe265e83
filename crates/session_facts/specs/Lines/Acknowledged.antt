-- What a commit that was answered has among what was committed, and that it landed itself.
use Rattle.std.specs.Prelude.{ℕ, ◌≡◌, ◌+◌, ◌≤◌, List, length, slice_get, Some}
use Rattle.cloud_facts.specs.Words.{CommitAnswer, CloudState, Entry, Head, IsIn}
use Rattle.cloud_trait.specs.declared.state.Landing.{Landing}
use Rattle.db_base.specs.declared.trouble.CommitAnswer.TheVariants.{Committed, NotCommitted, InDoubt, CommittedOpen}
use Rattle.history.specs.Audited.{committed_entry}
use Rattle.replay_meaning.specs.Committed.{row_entries}
use Rattle.replay_meaning.specs.Kinds.{LandsOpen}
use Rattle.replay_meaning.specs.Standing.{Line, Posture, Working, Committing, session_of, standing}
use Rattle.reply_text.specs.declared.reply.Reply.{Reply}
use Rattle.reply_text.specs.declared.reply.Reply.TheVariants as reply
use Rattle.session_facts.specs.Lines.Facts.{BeganBefore}
use Rattle.txn_buffer.specs.Noted.{Noted}

-- each of the changes is an entry of the client's transaction, all in one epoch
pub record HasEntries (entries : List Entry) (client txn : ℕ) (changes : List Noted) : Type 0 where
  pub epoch : ℕ
  pub each : (n : Noted) → IsIn changes n → IsIn entries (committed_entry client epoch txn n)

-- a commit that is answered as committed has its changes among the entries, and so has one that stays open
abbrev pub IsKeptCommit : List Entry → ℕ → List Noted → CommitAnswer → Type 0
IsKeptCommit entries client changes (Committed txn) = HasEntries entries client txn changes
IsKeptCommit entries client changes (CommittedOpen t) = (txn : ℕ) × HasEntries entries client txn changes
IsKeptCommit entries client changes (NotCommitted t) = Unit {0}
IsKeptCommit entries client changes InDoubt = Unit {0}

-- that of a session of the client that stood so
abbrev pub IsKeptAt : List Entry → ℕ → Posture → CommitAnswer → Type 0
IsKeptAt entries client (Working (Committing changes)) a = IsKeptCommit entries client changes a
IsKeptAt entries client posture a = Unit {0}

-- and the reply to it
abbrev pub IsKeptReply : List Entry → ℕ → Posture → Reply → Type 0
IsKeptReply entries client posture (reply.Commit a) = IsKeptAt entries client posture a
IsKeptReply entries client posture reply = Unit {0}

-- ---- this commit landed

-- The session's newest commit landed as the transaction of this number: a row that it made itself, at a line behind the one that began the commit and no later
-- than the one behind these, puts an open head of the client, and each of the changes is an entry that this row commits.
pub record LandedCommit (lines : List Line) (t : CloudState) (session client txn : ℕ) (changes : List Noted) : Type 0 where
  pub place : ℕ
  pub row : Landing
  pub there : slice_get t.trace place ≡ Some row
  pub own : row.who.session ≡ session
  pub since : BeganBefore lines session row.who.event
  pub within : row.who.event ≤ length lines + 1
  pub head : Head
  pub opens : LandsOpen t row client head
  pub txn_is : head.txn ≡ txn
  pub each : (n : Noted) → IsIn changes n → IsIn (row_entries lines t.versions row) (committed_entry client head.epoch txn n)

-- a commit that is answered as committed landed as the transaction that is named, and so did one that stays open, as some transaction
abbrev pub IsLandedCommit : List Line → CloudState → ℕ → ℕ → List Noted → CommitAnswer → Type 0
IsLandedCommit lines t session client changes (Committed txn) = LandedCommit lines t session client txn changes
IsLandedCommit lines t session client changes (CommittedOpen trouble) = (txn : ℕ) × LandedCommit lines t session client txn changes
IsLandedCommit lines t session client changes (NotCommitted trouble) = Unit {0}
IsLandedCommit lines t session client changes InDoubt = Unit {0}

-- that of a session of the client that stood so
abbrev pub IsLandedAt : List Line → CloudState → ℕ → ℕ → Posture → CommitAnswer → Type 0
IsLandedAt lines t session client (Working (Committing changes)) a = IsLandedCommit lines t session client changes a
IsLandedAt lines t session client posture a = Unit {0}

-- and the reply to it
abbrev pub IsLandedReply : List Line → CloudState → ℕ → ℕ → Posture → Reply → Type 0
IsLandedReply lines t session client posture (reply.Commit a) = IsLandedAt lines t session client posture a
IsLandedReply lines t session client posture reply = Unit {0}

-- the line behind these, for its session as they say that it stands
abbrev pub IsLandedLine : List Line → CloudState → Line → Type 0
IsLandedLine lines t line =
    IsLandedReply lines t (session_of line.event) (standing lines (session_of line.event)).client (standing lines (session_of line.event)).posture line.reply
