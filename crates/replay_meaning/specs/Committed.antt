-- What was committed, by the schedule's lines: each landed put of an open head commits the changes on which its session stood.
use Rattle.std.specs.Prelude.{ℕ, List, [], map, Option, Some, None}
use Rattle.std.specs.List.{flat_map}
use Rattle.db_base.specs.declared.names.ObjName.{ObjName}
use Rattle.db_base.specs.declared.names.ObjName.TheVariants as object
use Rattle.head_codec.specs.declared.head.Head.{Head}
use Rattle.head_codec.specs.declared.head.Phase.{Phase}
use Rattle.head_codec.specs.declared.head.Phase.TheVariants as phase
use Rattle.head_codec.specs.Spelling.{head_of}
use Rattle.report_types.specs.declared.entry.Entry.{Entry}
use Rattle.txn_buffer.specs.Noted.{Noted}
use Rattle.cloud_trait.specs.declared.state.Landing.{Landing}
use Rattle.cloud_trait.specs.declared.state.Site.{Site}
use Rattle.cloud_trait.specs.declared.state.Site.TheVariants.{Object, Queue}
use Rattle.cloud_trait.specs.declared.state.Version.{Version}
use Rattle.cloud_trait.specs.State.{CloudState, version_at}
use Rattle.history.specs.Audited.{committed_entry}
use Rattle.replay_meaning.specs.Standing.{Line, Task, Opening, Closing, Renewing, Committing, Reading, Scanning, LookingUp, Paging, Folding, Posture, Closed, Idle, Broken, Working, standing_of_row}

-- the changes of the commit on which a session works
abbrev pub task_changes : Task → List Noted
task_changes (Committing changes) = changes
task_changes Opening = []
task_changes Closing = []
task_changes Renewing = []
task_changes (Reading tree key) = []
task_changes (Scanning tree from to) = []
task_changes (LookingUp tree attr) = []
task_changes (Paging tree page) = []
task_changes (Folding tree) = []

abbrev pub changes_at : Posture → List Noted
changes_at (Working task) = task_changes task
changes_at Closed = []
changes_at Idle = []
changes_at Broken = []

-- the entries that a head commits, of these changes
abbrev pub entries_of_phase : Phase → ℕ → Head → List Noted → List Entry
entries_of_phase (phase.Open count) client head changes = map (committed_entry client head.epoch head.txn) changes
entries_of_phase phase.Settled client head changes = []

abbrev pub entries_of_head : ℕ → Option Head → List Noted → List Entry
entries_of_head client (Some head) changes = entries_of_phase head.phase client head changes
entries_of_head client None changes = []

abbrev pub entries_of_bytes : ℕ → Option (List ℕ) → List Noted → List Entry
entries_of_bytes client (Some bytes) changes = entries_of_head client (head_of bytes) changes
entries_of_bytes client None changes = []

-- the landed versions of each object
abbrev pub Versions : Type 0
Versions = ObjName → List Version

-- the changes of the commit on which the session of a row stood at its event
abbrev pub changes_of_row : List Line → Landing → List Noted
changes_of_row lines row = changes_at (standing_of_row lines row).posture

-- what a row of the trace commits: a landed put of a head that is open, the changes of its session's commit
abbrev pub site_entries : List Noted → Versions → ℕ → Site → List Entry
site_entries changes versions position (Object (object.Head client)) = entries_of_bytes client (version_at (versions (object.Head client)) position) changes
site_entries changes versions position (Object (object.Tree tree)) = []
site_entries changes versions position (Object (object.Page tree page)) = []
site_entries changes versions position (Queue queue) = []

abbrev pub row_entries : List Line → Versions → Landing → List Entry
row_entries lines versions row = site_entries (changes_of_row lines row) versions row.position row.site

abbrev pub committed_by : List Line → Versions → List Landing → List Entry
committed_by lines versions rows = flat_map (row_entries lines versions) rows

-- the committed entries, in the order in which the open heads landed
abbrev pub committed : List Line → CloudState → List Entry
committed lines t = committed_by lines t.versions t.trace
