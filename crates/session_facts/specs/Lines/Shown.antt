-- What a read, a scan and a look-up show by the lines: the session's buffer is what its lines noted, and the pending entries of its head are records that its client
-- committed.
use Rattle.std.specs.Prelude.{ℕ, ◌≡◌, ◌⊎◌, List, [], unwrap_or}
use Rattle.attr_index.specs.Look.{Look}
use Rattle.client_work.specs.Session.{Acting, in_hand, value_of, items_of}
use Rattle.client_work.specs.Shows.{own_of, ShowsValue, ShowsRecords, ShowsFound}
use Rattle.client_work.specs.declared.answer.Answer.{Answer}
use Rattle.client_work.specs.declared.answer.Answer.TheVariants as answer
use Rattle.client_work.specs.declared.listing.Listing.{Listing}
use Rattle.client_work.specs.declared.work.Work.TheVariants as work
use Rattle.cloud_facts.specs.Book.Messages.{IsLogMessage}
use Rattle.cloud_facts.specs.Words.{AtomicRec, Turn, Ended, CloudState, Caller, Seen, IsIn}
use Rattle.cloud_facts.specs.Book.Records.{entry_of}
use Rattle.db_base.specs.declared.names.QueueName.TheVariants.{Atomic}
use Rattle.head_codec.specs.declared.lists.Pending.{Pending}
use Rattle.range_scan.specs.Meaning.{Range, range_of}
use Rattle.recover_run.specs.declared.home.Home.{Home}
use Rattle.replay_meaning.specs.Committed.{committed}
use Rattle.replay_meaning.specs.Standing.{Line, Task, Working, Reading, Scanning, LookingUp, standing}
use Rattle.route_plan.specs.Record.{pending_of}
use Rattle.tree_walk.specs.Walk.{Walk, sought}
use Rattle.txn_buffer.specs.Noted.{Noted}

-- a pending entry is a record of the client: what it says was sent to the client's ATOMIC queue, and the lines committed it
pub record IsOfCommitted (lines : List Line) (t : CloudState) (client : ℕ) (p : Pending) : Type 0 where
  pub of : AtomicRec
  pub own : of.client ≡ client
  pub pending_is : p ≡ pending_of of
  pub committed : IsIn (committed lines t) (entry_of of)
  pub sent : (id : ℕ) × IsLogMessage (t.messages (Atomic client)) id of

-- what a session shows by is what the lines say: it works on this task for this client, it noted these changes since its newest begin of a commit or
-- abort, and each pending entry of its head is a record that its client committed
pub record IsByLines (lines : List Line) (t : CloudState) (session : ℕ) (task : Task) (home : Home) (buffer : List Noted) : Type 0 where
  pub works : (standing lines session).posture ≡ Working task
  pub client : (standing lines session).client ≡ home.client
  pub noted : buffer ≡ (standing lines session).buffer
  pub pending : (p : Pending) → IsIn home.head.pending p → IsOfCommitted lines t home.client p

-- a session at one moment, and what is seen of the cloud then
pub record Moment : Type 0 where
  pub seen : Seen
  pub session : Acting

abbrev pub moment : Seen → Acting → Moment
moment seen session = record { seen = seen; session = session }

-- a read ends with the value that its client sees in a leaf that landed, by what the lines say of the client
pub record ReadsByLines (lines : List Line) (t : CloudState) (who : Caller) (before after : Moment) : Type 0 where
  pub home : Home
  pub walk : Walk
  pub was : before.session.work ≡ work.Reading home walk
  pub shows : ShowsValue who before.seen after.seen (own_of home after.session.buffer) walk (value_of after.session)
  pub by : IsByLines lines t who.session (Reading walk.tree (sought walk)) home after.session.buffer

-- the scan of a range, as a task
abbrev pub scan_task : Range → Task
scan_task r = Scanning r.tree (unwrap_or r.from []) (unwrap_or r.to [])

-- and a scan with the records that its client sees in its leaves
pub record ScansByLines (lines : List Line) (t : CloudState) (who : Caller) (before after : Moment) : Type 0 where
  pub home : Home
  pub listing : Listing
  pub was : before.session.work ≡ work.Scanning home listing
  pub shows : ShowsRecords who before.seen after.seen before.session.buffer (in_hand home listing before.session.cache) (items_of after.session)
  pub by : IsByLines lines t who.session (scan_task (range_of listing.scan)) home before.session.buffer

-- and a look-up with the records that it found at the ends of its walks
pub record LooksByLines (lines : List Line) (t : CloudState) (who : Caller) (before after : Moment) : Type 0 where
  pub home : Home
  pub look : Look
  pub was : before.session.work ≡ work.Looking home look
  pub shows : ShowsFound who before.seen after.seen before.session.buffer (in_hand home look before.session.cache) (items_of after.session)
  pub by : IsByLines lines t who.session (LookingUp look.query.tree look.query.attr) home before.session.buffer

-- a step that ends a read, a scan or a look-up shows it so, over the state before its call
abbrev pub ShowsByLines : List Line → CloudState → Caller → Moment → Moment → Turn Answer → Type 0
ShowsByLines lines t who before after (Ended answer.Value) = ReadsByLines lines t who before after
ShowsByLines lines t who before after (Ended answer.Scan) = ScansByLines lines t who before after ⊎ LooksByLines lines t who before after
ShowsByLines lines t who before after turn = Unit {0}
