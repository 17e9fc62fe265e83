-- Which open heads a session may have put into a trace, by what it works on: those of its epoch up to its last transaction number.
use Rattle.std.specs.Prelude.{ℕ, ◌≡◌, ◌<◌, ◌+◌, List, ◌++◌, Some, All, slice_get}
use Rattle.cloud_facts.specs.Words.{Head, CloudState, Seen}
use Rattle.cloud_trait.specs.declared.state.Landing.{Landing}
use Rattle.recover_run.specs.declared.home.Home.{Home}
use Rattle.commit_writes.specs.declared.stage.Stage.{Stage}
use Rattle.commit_writes.specs.declared.stage.Stage.TheVariants as commit
use Rattle.commit_writes.specs.Writing.{Writing}
use Rattle.commit_run.specs.declared.hand.Hand.{Hand}
use Rattle.commit_run.specs.declared.hand.Hand.TheVariants.{Writes, First, Change}
use Rattle.commit_run.specs.Run.{Run, home_of}
use Rattle.client_work.specs.declared.work.Work.{Work}
use Rattle.client_work.specs.declared.work.Work.TheVariants.{Closed, Idle, Opening, Committing, Reading, Scanning, Looking, Paging, Folding, Closing, Renewing, Settling, Sweeping, Broken}
use Rattle.replay_meaning.specs.Kinds.{LandsOpen, OpensOnce}
use Rattle.session_facts.specs.Lines.Facts.{IsPlaced}
use Rattle.session_facts.specs.Sessions.Knows.{Sessions}

-- ---- a commit

-- the first transaction that a commit may still open, with the call in hand or later
abbrev pub first_at : Stage → Writing → ℕ
first_at commit.Waiting w = w.home.attempt
first_at commit.Logging w = w.home.attempt
first_at commit.Opening w = w.home.attempt
first_at commit.Sending w = w.home.attempt + 1
first_at commit.Settling w = w.home.attempt + 1
first_at commit.Deleting w = w.home.attempt + 1
first_at commit.Finished w = w.home.attempt + 1

abbrev pub first_in : Hand → Writing → ℕ
first_in Writes w = first_at w.stage w
first_in (First walk) w = w.home.attempt
first_in (Change walk) w = w.home.attempt

abbrev pub first_of : Run → ℕ
first_of r = first_in r.hand r.draft.writes

-- and behind the call in hand, whether it landed or not
abbrev pub later_at : Stage → Writing → ℕ
later_at commit.Opening w = w.home.attempt + 1
later_at stage w = first_at stage w

abbrev pub later_in : Hand → Writing → ℕ
later_in Writes w = later_at w.stage w
later_in (First walk) w = w.home.attempt
later_in (Change walk) w = w.home.attempt

abbrev pub later_of : Run → ℕ
later_of r = later_in r.hand r.draft.writes

-- the head that a put opens is of the number that the commit took
abbrev pub TakesAt : Stage → Writing → Type 0
TakesAt commit.Opening w = w.home.head.txn ≡ w.home.attempt
TakesAt stage w = Unit {0}

abbrev pub TakesIn : Hand → Writing → Type 0
TakesIn Writes w = TakesAt w.stage w
TakesIn (First walk) w = Unit {0}
TakesIn (Change walk) w = Unit {0}

abbrev pub TakesNumber : Work → Type 0
TakesNumber (Committing r) = TakesIn r.hand r.draft.writes
TakesNumber w = Unit {0}

-- ---- which heads were opened

-- a head of the epoch, of a transaction below the bound
abbrev pub IsHeadBelow : ℕ → ℕ → Head → Type 0
IsHeadBelow epoch bound head = (head.epoch ≡ epoch) × (head.txn < bound)

-- one that a home may have opened
abbrev pub IsOpenedBy : Home → Head → Type 0
IsOpenedBy home head = IsHeadBelow home.head.epoch (home.attempt + 1) head

-- one that a session may have opened: none before its client is open, and nothing is said of one that is closed, closing or broken
abbrev pub MayHaveOpened : Work → Head → Type 0
MayHaveOpened (Opening r) head = ⊥
MayHaveOpened (Committing r) head = IsHeadBelow (home_of r).head.epoch (first_of r) head
MayHaveOpened (Idle home) head = IsOpenedBy home head
MayHaveOpened (Reading home m) head = IsOpenedBy home head
MayHaveOpened (Scanning home l) head = IsOpenedBy home head
MayHaveOpened (Looking home m) head = IsOpenedBy home head
MayHaveOpened (Paging home p) head = IsOpenedBy home head
MayHaveOpened (Folding home f) head = IsOpenedBy home head
MayHaveOpened (Renewing home) head = IsOpenedBy home head
MayHaveOpened Closed head = Unit {0}
MayHaveOpened (Closing lease) head = Unit {0}
MayHaveOpened (Settling m) head = Unit {0}
MayHaveOpened (Sweeping m) head = Unit {0}
MayHaveOpened (Broken lease) head = Unit {0}

-- and behind its call in hand
abbrev pub MayOpen : Work → Head → Type 0
MayOpen (Committing r) head = IsHeadBelow (home_of r).head.epoch (later_of r) head
MayOpen w head = MayHaveOpened w head

-- ---- for whom a session works

-- the session opens the client, or has it open
abbrev pub WorksFor : ℕ → Work → Type 0
WorksFor client (Opening r) = r.client ≡ client
WorksFor client (Committing r) = (home_of r).client ≡ client
WorksFor client (Idle home) = home.client ≡ client
WorksFor client (Reading home m) = home.client ≡ client
WorksFor client (Scanning home l) = home.client ≡ client
WorksFor client (Looking home m) = home.client ≡ client
WorksFor client (Paging home p) = home.client ≡ client
WorksFor client (Folding home f) = home.client ≡ client
WorksFor client (Renewing home) = home.client ≡ client
WorksFor client Closed = ⊥
WorksFor client (Closing lease) = ⊥
WorksFor client (Settling m) = ⊥
WorksFor client (Sweeping m) = ⊥
WorksFor client (Broken lease) = ⊥

-- ---- the rows of a trace

-- each open head that a row of the trace put is so, by its client
abbrev pub AllOpened : (ℕ → Head → Type 0) → CloudState → Type 0
AllOpened Is t = (place : ℕ) (row : Landing) (client : ℕ) (head : Head) → slice_get t.trace place ≡ Some row → LandsOpen t row client head → Is client head

-- a state with these rows alone
abbrev pub with_rows : CloudState → List Landing → CloudState
with_rows t rows = record t { trace = rows }

-- behind the rows of an earlier state there are these: each names a version that is there, no two put open heads that agree in client, epoch and
-- transaction, and each open head that one put is so
pub record AddsOpened (Is : ℕ → Head → Type 0) (start t : CloudState) : Type 0 where
  pub added : List Landing
  pub trace : t.trace ≡ start.trace ++ added
  pub placed : All (IsPlaced t.versions) added
  pub once : OpensOnce (with_rows t added)
  pub opened : AllOpened Is (with_rows t added)

-- of a cloud that is told
pub record AddsOpenedTo (Is : ℕ → Head → Type 0) (start : CloudState) (seen : Seen) : Type 0 where
  pub state : CloudState
  pub told : seen.state ≡ Some state
  pub adds : AddsOpened Is start state

-- an open head of a client may be there: the client was opened, and a session that works for it may have opened the head
pub record MayBeThere (WasOpened : ℕ → Type 0) (sessions : Sessions) (client : ℕ) (head : Head) : Type 0 where
  pub known : WasOpened client
  pub own : (k : ℕ) → WorksFor client (sessions k).work → MayHaveOpened (sessions k).work head

-- what sessions added of which no two work for one client, and each for one that was opened; none puts a head but of the number that it took
pub record AddsApart (WasOpened : ℕ → Type 0) (start : CloudState) (sessions : Sessions) (seen : Seen) : Type 0 where
  pub rows : AddsOpenedTo (MayBeThere WasOpened sessions) start seen
  pub takes : (k : ℕ) → TakesNumber (sessions k).work
  pub known : (k client : ℕ) → WorksFor client (sessions k).work → WasOpened client
  pub apart : (j k client : ℕ) → WorksFor client (sessions j).work → WorksFor client (sessions k).work → j ≡ k

-- no two of the rows behind those of an earlier state put open heads that agree in client, epoch and transaction
pub record AddsNoneTwice (start : CloudState) (seen : Seen) : Type 0 where
  pub state : CloudState
  pub told : seen.state ≡ Some state
  pub added : List Landing
  pub trace : state.trace ≡ start.trace ++ added
  pub once : OpensOnce (with_rows state added)
