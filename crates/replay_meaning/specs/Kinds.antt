-- Which puts, sends and removals a replay may make, by how the session of each stood at its line, and where the order of a tree comes from.
use Rattle.std.specs.Prelude.{ℕ, suc, ◌≡◌, ◌⊎◌, List, length, Option, Some, None, slice_get, All}
use Rattle.db_base.specs.declared.names.ObjName.TheVariants as object
use Rattle.db_base.specs.declared.names.QueueName.{QueueName}
use Rattle.db_base.specs.declared.names.QueueName.TheVariants.{Atomic, TreePu, PagePu}
use Rattle.cloud_trait.specs.declared.state.Landing.{Landing}
use Rattle.cloud_trait.specs.declared.state.Posted.{Posted}
use Rattle.cloud_trait.specs.declared.state.Site.{Site}
use Rattle.cloud_trait.specs.declared.state.Site.TheVariants.{Object, Queue}
use Rattle.cloud_trait.specs.State.{CloudState, version_at}
use Rattle.head_codec.specs.declared.head.Head.{Head}
use Rattle.head_codec.specs.declared.head.Phase.{Phase}
use Rattle.head_codec.specs.declared.head.Phase.TheVariants as phase
use Rattle.head_codec.specs.Spelling.{head_of}
use Rattle.log_codec.specs.declared.record.PuRec.{PuRec}
use Rattle.log_codec.specs.Pu.{pu_of}
use Rattle.event_text.specs.declared.event.Event.TheVariants.{Sweep, Settle, Work}
use Rattle.txn_buffer.specs.Noted.{Noted}
use Rattle.history.specs.Legal.{StandsAt}
use Rattle.report_types.specs.declared.entry.Entry.{Entry}
use Rattle.replay_meaning.specs.Standing.{Line, Opening, Committing, Paging, Folding, Working, Standing, standing_of_row}

-- ---- what a session does

-- the session opens the client
pub record OpensClient (client : ℕ) (s : Standing) : Type 0 where
  pub posture : s.posture ≡ Working Opening
  pub own : s.client ≡ client

-- the session commits these changes
abbrev pub CommitsThese : List Noted → Standing → Type 0
CommitsThese changes s = s.posture ≡ Working (Committing changes)

-- the session commits, whatever the changes and the client
abbrev pub IsCommitting : Standing → Type 0
IsCommitting s = (changes : List Noted) × CommitsThese changes s

-- the session is one of the client and commits
pub record CommitsFor (client : ℕ) (s : Standing) : Type 0 where
  pub commits : IsCommitting s
  pub own : s.client ≡ client

-- the session is one of the client and commits so many changes
pub record CommitsCount (client count : ℕ) (s : Standing) : Type 0 where
  pub changes : List Noted
  pub commits : CommitsThese changes s
  pub as_many : length changes ≡ count
  pub own : s.client ≡ client

-- the session makes a checkpoint of the tree
abbrev pub FoldsTree : ℕ → Standing → Type 0
FoldsTree tree s = s.posture ≡ Working (Folding tree)

-- the session makes a checkpoint of some page of the tree
abbrev pub FoldsPage : ℕ → Standing → Type 0
FoldsPage tree s = (page : ℕ) × (s.posture ≡ Working (Paging tree page))

-- the row is of the settler, session 0, at a line that settles
pub record IsOfSettler (lines : List Line) (row : Landing) : Type 0 where
  pub session : row.who.session ≡ 0
  pub place : ℕ
  pub event : row.who.event ≡ suc place
  pub line : Line
  pub there : slice_get lines place ≡ Some line
  pub settles : line.event ≡ Settle

-- the row is of the settler, at a line that sweeps the tree
pub record IsOfSweep (lines : List Line) (row : Landing) (tree : ℕ) : Type 0 where
  pub session : row.who.session ≡ 0
  pub place : ℕ
  pub event : row.who.event ≡ suc place
  pub line : Line
  pub there : slice_get lines place ≡ Some line
  pub sweeps : line.event ≡ Sweep tree

-- the row is of a session's own line that works, by which the session makes the checkpoints that are due to it
pub record IsOfWork (lines : List Line) (row : Landing) : Type 0 where
  pub place : ℕ
  pub event : row.who.event ≡ suc place
  pub line : Line
  pub there : slice_get lines place ≡ Some line
  pub works : line.event ≡ Work row.who.session

-- ---- the kinds of rows

-- a put of a head of the client that is settled: the client is opened, a session of it commits, or all is settled
abbrev pub MaySettleHead : List Line → Landing → ℕ → Type 0
MaySettleHead lines row client = OpensClient client (standing_of_row lines row) ⊎ (CommitsFor client (standing_of_row lines row) ⊎ IsOfSettler lines row)

-- a put of a head of the client that is open: a session of it commits as many changes as the head counts
abbrev pub MayOpenHead : List Line → Landing → ℕ → ℕ → Type 0
MayOpenHead lines row client count = CommitsCount client count (standing_of_row lines row)

-- a put of a root: a checkpoint of the tree, the work of a session, or all is settled
abbrev pub MayPutRoot : List Line → Landing → ℕ → Type 0
MayPutRoot lines row tree = FoldsTree tree (standing_of_row lines row) ⊎ (IsOfSettler lines row ⊎ IsOfWork lines row)

-- a put of a page: a checkpoint of a page of its tree or of the tree, the work of a session, or all is settled
abbrev pub MayPutPage : List Line → Landing → ℕ → Type 0
MayPutPage lines row tree = FoldsPage tree (standing_of_row lines row) ⊎ MayPutRoot lines row tree

-- a send to the ATOMIC queue of the client: a session of it commits
abbrev pub MaySendAtomic : List Line → Landing → ℕ → Type 0
MaySendAtomic lines row client = CommitsFor client (standing_of_row lines row)

-- a send to a pending update queue: a session commits or opens a client, or all is settled
abbrev pub MaySendPending : List Line → Landing → Type 0
MaySendPending lines row =
    IsCommitting (standing_of_row lines row) ⊎ (((client : ℕ) × OpensClient client (standing_of_row lines row)) ⊎ IsOfSettler lines row)

-- ---- of which kind a row is

-- a put of a head of the client is of its kind, by the head's phase; bytes that are no head are of none
abbrev pub MayPutPhase : List Line → Landing → ℕ → Phase → Type 0
MayPutPhase lines row client phase.Settled = MaySettleHead lines row client
MayPutPhase lines row client (phase.Open count) = MayOpenHead lines row client count

abbrev pub MayPutHead : List Line → Landing → ℕ → Option Head → Type 0
MayPutHead lines row client (Some head) = MayPutPhase lines row client head.phase
MayPutHead lines row client None = ⊥

abbrev pub MayPutBytes : List Line → Landing → ℕ → Option (List ℕ) → Type 0
MayPutBytes lines row client (Some bytes) = MayPutHead lines row client (head_of bytes)
MayPutBytes lines row client None = ⊥

-- a version of a page is of its kind: with bytes it is a put; without, a removal, and the tree is swept
abbrev pub MayLandPage : List Line → Landing → ℕ → Option (List ℕ) → Type 0
MayLandPage lines row tree (Some bytes) = MayPutPage lines row tree
MayLandPage lines row tree None = IsOfSweep lines row tree

-- a send is of its kind, by its queue
abbrev pub MaySend : List Line → Landing → QueueName → Type 0
MaySend lines row (Atomic client) = MaySendAtomic lines row client
MaySend lines row (TreePu tree) = MaySendPending lines row
MaySend lines row (PagePu tree page) = MaySendPending lines row

-- a row is of its kind, by where it landed
abbrev pub IsOfKindAt : List Line → CloudState → Landing → Site → Type 0
IsOfKindAt lines t row (Object (object.Head client)) = MayPutBytes lines row client (version_at (t.versions (object.Head client)) row.position)
IsOfKindAt lines t row (Object (object.Tree tree)) = MayPutRoot lines row tree
IsOfKindAt lines t row (Object (object.Page tree page)) = MayLandPage lines row tree (version_at (t.versions (object.Page tree page)) row.position)
IsOfKindAt lines t row (Queue queue) = MaySend lines row queue

-- a row of the trace is of a kind that its session's standing allows
abbrev pub IsOfKind : List Line → CloudState → Landing → Type 0
IsOfKind lines t row = IsOfKindAt lines t row row.site

-- ---- transactions open once, and an order is of what was sent

-- a row is a put of this open head of the client
pub record LandsOpen (t : CloudState) (row : Landing) (client : ℕ) (head : Head) : Type 0 where
  pub site : row.site ≡ Object (object.Head client)
  pub bytes : List ℕ
  pub put : version_at (t.versions (object.Head client)) row.position ≡ Some bytes
  pub spells : head_of bytes ≡ Some head
  pub count : ℕ
  pub opens : head.phase ≡ phase.Open count

-- no two rows open heads that agree in client, epoch and transaction
abbrev pub OpensOnce : CloudState → Type 0
OpensOnce t =
    (i j : ℕ) (a b : Landing) (client : ℕ) (x y : Head) → slice_get t.trace i ≡ Some a → slice_get t.trace j ≡ Some b
    → LandsOpen t a client x → LandsOpen t b client y → x.epoch ≡ y.epoch → x.txn ≡ y.txn → i ≡ j

-- a pending update queue of the tree
abbrev pub IsPendingOf : ℕ → QueueName → Type 0
IsPendingOf tree (TreePu other) = other ≡ tree
IsPendingOf tree (PagePu other page) = other ≡ tree
IsPendingOf tree (Atomic client) = ⊥

-- an entry equals, in client, epoch, transaction and change, a pending update message that was ever sent to a queue of its tree
pub record WasSentFor (t : CloudState) (entry : Entry) : Type 0 where
  pub queue : QueueName
  pub of_tree : IsPendingOf entry.tree queue
  pub place : ℕ
  pub message : Posted
  pub there : slice_get (t.messages queue) place ≡ Some message
  pub sent : PuRec
  pub spells : pu_of message.bytes ≡ Some sent
  pub client : entry.client ≡ sent.client
  pub epoch : entry.epoch ≡ sent.epoch
  pub txn : entry.txn ≡ sent.txn
  pub change : entry.change ≡ sent.change

-- each row of the trace is of its kind, no transaction opens twice, and each entry of the order was sent for its tree
pub record KeepsKinds (lines : List Line) (t : CloudState) (order : List Entry) : Type 0 where
  pub kinds : All (IsOfKind lines t) t.trace
  pub once : OpensOnce t
  pub sent : (place : ℕ) (entry : Entry) → StandsAt order place entry → WasSentFor t entry
