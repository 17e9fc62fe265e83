-- A commit that landed: a row of the trace that is of its own session's calls since it began puts the open head of its transaction. Which rows are, is an argument.
use Rattle.std.specs.Prelude.{ℕ, ◌≡◌, List, slice_get, Some}
use Rattle.client_work.specs.declared.work.Work.{Work}
use Rattle.client_work.specs.declared.work.Work.TheVariants.{Committing}
use Rattle.cloud_facts.specs.Words.{CommitAnswer, CloudState, Head}
use Rattle.cloud_trait.specs.declared.state.Landing.{Landing}
use Rattle.commit_run.specs.declared.hand.Hand.{Hand}
use Rattle.commit_run.specs.declared.hand.Hand.TheVariants.{Writes, First, Change}
use Rattle.commit_writes.specs.Writing.{Writing}
use Rattle.commit_writes.specs.declared.stage.Stage.{Stage}
use Rattle.commit_writes.specs.declared.stage.Stage.TheVariants.{Sending, Settling, Deleting}
use Rattle.db_base.specs.declared.trouble.CommitAnswer.TheVariants.{Committed, CommittedOpen}
use Rattle.replay_meaning.specs.Kinds.{LandsOpen}
use Rattle.session_facts.specs.Machines.Commits.Knows.{Attempt, attempt_of}
use Rattle.txn_buffer.specs.Noted.{Noted}

-- a row among these, by its place in the trace, puts the open head of the transaction
pub record HasLanded (Own : ℕ → Landing → Type 0) (t : CloudState) (x : Attempt) : Type 0 where
  pub place : ℕ
  pub row : Landing
  pub there : slice_get t.trace place ≡ Some row
  pub own : Own place row
  pub head : Head
  pub opens : LandsOpen t row x.client head
  pub epoch_is : head.epoch ≡ x.epoch
  pub txn_is : head.txn ≡ x.txn

-- behind the put of its open head a commit has landed, by a row of its own for its changes
abbrev pub LandedAt : Stage → (List Noted → ℕ → Landing → Type 0) → CloudState → Writing → Type 0
LandedAt Sending Own t w = HasLanded (Own w.changes) t (attempt_of w)
LandedAt Settling Own t w = HasLanded (Own w.changes) t (attempt_of w)
LandedAt Deleting Own t w = HasLanded (Own w.changes) t (attempt_of w)
LandedAt stage Own t w = Unit {0}

abbrev pub LandedIn : Hand → (List Noted → ℕ → Landing → Type 0) → CloudState → Writing → Type 0
LandedIn Writes Own t w = LandedAt w.stage Own t w
LandedIn (First walk) Own t w = Unit {0}
LandedIn (Change walk) Own t w = Unit {0}

-- so it is of a commit that is at work
abbrev pub LandedFor : (List Noted → ℕ → Landing → Type 0) → CloudState → Work → Type 0
LandedFor Own t (Committing r) = LandedIn r.hand Own t r.draft.writes
LandedFor Own t work = Unit {0}

-- a commit that is answered as committed has landed, in its session's epoch, as the transaction that is named, and so has one that stays open
abbrev pub LandedBy : (List Noted → ℕ → Landing → Type 0) → CloudState → Writing → CommitAnswer → Type 0
LandedBy Own t w (Committed txn) = HasLanded (Own w.changes) t (attempt_of w) × (txn ≡ w.home.attempt)
LandedBy Own t w (CommittedOpen trouble) = HasLanded (Own w.changes) t (attempt_of w)
LandedBy Own t w a = Unit {0}

abbrev pub LandedAnswer : (List Noted → ℕ → Landing → Type 0) → CloudState → Work → CommitAnswer → Type 0
LandedAnswer Own t (Committing r) a = LandedBy Own t r.draft.writes a
LandedAnswer Own t work a = Unit {0}
