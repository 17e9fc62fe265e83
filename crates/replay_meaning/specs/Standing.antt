-- How a session stands after some lines and their replies. Nothing but the lines and replies is looked at.
use Rattle.std.specs.Prelude.{ℕ, ◌-◌, ◌==◌, if◌then◌else◌, List, [], ◌∷◌, take}
use Rattle.db_base.specs.declared.change.Change.{Change}
use Rattle.db_base.specs.declared.change.Change.TheVariants.{Insert, Update, Delete, Add}
use Rattle.db_base.specs.declared.trouble.CommitAnswer.TheVariants.{NotCommitted, InDoubt, CommittedOpen}
use Rattle.cloud_trait.specs.declared.state.Landing.{Landing}
use Rattle.event_text.specs.declared.event.Event.{Event}
use Rattle.event_text.specs.declared.event.Event.TheVariants as event
use Rattle.reply_text.specs.declared.reply.Reply.{Reply}
use Rattle.reply_text.specs.declared.reply.Reply.TheVariants as reply
use Rattle.txn_buffer.specs.Noted.{Noted, noted_in, put_in}

-- a line that was handled: its event and its reply
pub record Line : Type 0 where
  pub event : Event
  pub reply : Reply

-- what a session works on
pub data Task : Type 0 where
  Opening : Task
  Closing : Task
  Renewing : Task
  Committing : (changes : List Noted) → Task
  Reading : (tree : ℕ) (key : List ℕ) → Task
  Scanning : (tree : ℕ) (from to : List ℕ) → Task
  LookingUp : (tree : ℕ) (attr : List ℕ) → Task
  Paging : (tree page : ℕ) → Task
  Folding : (tree : ℕ) → Task

pub data Posture : Type 0 where
  Closed : Posture
  Idle : Posture
  Broken : Posture
  Working : (task : Task) → Posture

-- the posture of a session, its client where one is open or opening, and the changes that it noted
pub record Standing : Type 0 where
  pub posture : Posture
  pub client : ℕ
  pub buffer : List Noted

-- a session that no line has named
abbrev pub unnamed : Standing
unnamed = record { posture = Closed; client = 0; buffer = [] }

abbrev pub shut : Standing → Standing
shut s = record s { posture = Closed; buffer = [] }

abbrev pub idle : Standing → Standing
idle s = record s { posture = Idle }

abbrev pub broken : Standing → Standing
broken s = record s { posture = Broken }

-- an operation began, and has a call in hand
abbrev pub begins : Task → Reply → Standing → Standing
begins task reply.Begun s = record s { posture = Working task }
begins task reply s = s

-- an opening drops what was noted before
abbrev pub begins_opening : ℕ → Reply → Standing → Standing
begins_opening client reply.Begun s = record { posture = Working Opening; client = client; buffer = [] }
begins_opening client reply s = s

-- a commit takes the buffer: one that begins works on it, and one that is answered at once, without a call, drops it
abbrev pub begins_commit : Reply → Standing → Standing
begins_commit reply.Begun s = record s { posture = Working (Committing s.buffer); buffer = [] }
begins_commit (reply.Commit (NotCommitted t)) s = record s { buffer = [] }
begins_commit reply s = s

-- what is noted joins the buffer
abbrev pub joins : (List Noted → List Noted) → Reply → Standing → Standing
joins Join reply.Noted s = record s { buffer = Join s.buffer }
joins Join reply s = s

-- a change joins the buffer; where its tree and key are there, the net change takes its place
abbrev pub notes : ℕ → Change → Reply → Standing → Standing
notes tree change reply s = joins (λ buffer. noted_in buffer tree change) reply s

-- a record with an attribute joins it, and its entry in the index of its tree
abbrev pub puts : ℕ → List ℕ → List ℕ → List ℕ → Reply → Standing → Standing
puts tree key payload attr reply s = joins (λ buffer. put_in buffer tree key payload attr) reply s

abbrev pub aborts : Reply → Standing → Standing
aborts reply.Aborted s = record s { buffer = [] }
aborts reply s = s

abbrev pub crashes : Reply → Standing → Standing
crashes reply.Crashed s = shut s
crashes reply s = s

-- the answer of an opening, of a commit, of any operation
abbrev pub opening_answered : Reply → Standing → Standing
opening_answered (reply.Opened epoch) s = idle s
opening_answered reply s = shut s

abbrev pub commit_answered : Reply → Standing → Standing
commit_answered (reply.Commit InDoubt) s = broken s
commit_answered (reply.Commit (CommittedOpen t)) s = broken s
commit_answered reply s = idle s

abbrev pub task_answered : Task → Reply → Standing → Standing
task_answered Opening reply s = opening_answered reply s
task_answered Closing reply s = shut s
task_answered (Committing changes) reply s = commit_answered reply s
task_answered Renewing reply s = idle s
task_answered (Reading tree key) reply s = idle s
task_answered (Scanning tree from to) reply s = idle s
task_answered (LookingUp tree attr) reply s = idle s
task_answered (Paging tree page) reply s = idle s
task_answered (Folding tree) reply s = idle s

abbrev pub answered : Posture → Reply → Standing → Standing
answered (Working task) reply s = task_answered task reply s
answered Closed reply s = s
answered Idle reply s = s
answered Broken reply s = s

-- a step that was made and has no answer yet, and one that was refused, change nothing
abbrev pub steps : Reply → Standing → Standing
steps reply.Called s = s
steps (reply.Refused rule) s = s
steps reply s = answered s.posture reply s

-- how a session stands after a line of its own
abbrev pub after_own : Event → Reply → Standing → Standing
after_own (event.Open session client) reply s = begins_opening client reply s
after_own (event.Close session) reply s = begins Closing reply s
after_own (event.Renew session) reply s = begins Renewing reply s
after_own (event.Insert session tree key payload attr) reply s = notes tree (Insert key payload attr) reply s
after_own (event.Put session tree key payload attr) reply s = puts tree key payload attr reply s
after_own (event.Update session tree key payload) reply s = notes tree (Update key payload) reply s
after_own (event.Delete session tree key) reply s = notes tree (Delete key) reply s
after_own (event.Add session tree key amount) reply s = notes tree (Add key amount) reply s
after_own (event.Commit session) reply s = begins_commit reply s
after_own (event.Abort session) reply s = aborts reply s
after_own (event.Read session tree key) reply s = begins (Reading tree key) reply s
after_own (event.Scan session tree from to) reply s = begins (Scanning tree from to) reply s
after_own (event.Lookup session tree attr) reply s = begins (LookingUp tree attr) reply s
after_own (event.Page session tree page) reply s = begins (Paging tree page) reply s
after_own (event.Tree session tree) reply s = begins (Folding tree) reply s
after_own (event.Policy session role k) reply s = s
after_own (event.Work session) reply s = s
after_own (event.Step session wish) reply s = steps reply s
after_own (event.Run session) reply s = steps reply s
after_own (event.Crash session done) reply s = crashes reply s
after_own (event.Wait ticks) reply s = s
after_own (event.Report tree) reply s = s
after_own (event.Sweep tree) reply s = s
after_own event.Settle reply s = s

-- the session that a line names; 0 where it names none
abbrev pub session_of : Event → ℕ
session_of (event.Open session client) = session
session_of (event.Close session) = session
session_of (event.Renew session) = session
session_of (event.Insert session tree key payload attr) = session
session_of (event.Put session tree key payload attr) = session
session_of (event.Update session tree key payload) = session
session_of (event.Delete session tree key) = session
session_of (event.Add session tree key amount) = session
session_of (event.Commit session) = session
session_of (event.Abort session) = session
session_of (event.Read session tree key) = session
session_of (event.Scan session tree from to) = session
session_of (event.Lookup session tree attr) = session
session_of (event.Page session tree page) = session
session_of (event.Tree session tree) = session
session_of (event.Policy session role k) = session
session_of (event.Work session) = session
session_of (event.Step session wish) = session
session_of (event.Run session) = session
session_of (event.Crash session done) = session
session_of (event.Wait ticks) = 0
session_of (event.Report tree) = 0
session_of (event.Sweep tree) = 0
session_of event.Settle = 0

-- how a session stands after one more line
abbrev pub after_line : ℕ → Standing → Line → Standing
after_line session s line = if session_of line.event == session then after_own line.event line.reply s else s

-- how a session stands after lines, from a standing before them
abbrev pub standing_from : ℕ → Standing → List Line → Standing
standing_from session s [] = s
standing_from session s (line ∷ lines) = standing_from session (after_line session s line) lines

-- how a session stands after lines
abbrev pub standing : List Line → ℕ → Standing
standing lines session = standing_from session unnamed lines

-- how the session of a row of the trace stood at the row's event
abbrev pub standing_of_row : List Line → Landing → Standing
standing_of_row lines row = standing (take (row.who.event - 1) lines) row.who.session
