-- What a replay whose calls are noted wrote.
use Rattle.std.specs.Prelude.{ℕ, ◌≡◌, false, List, [], Result, Ok, Err}
use Rattle.db_io.specs.Writes.{Written}
use Rattle.db_io.specs.Output.{WasWritten}
use Rattle.db_io.specs.declared.output.OutputFault.{OutputFault}
use Rattle.schedule_run.specs.Outside.{Outside, outside}
use Rattle.schedule_run.specs.Run.{Replays}
use Rattle.schedule_run.specs.Status.{status_of_output}
use Rattle.schedule_run.specs.declared.status.Status.{Status}
use Rattle.schedule_run.specs.declared.status.Status.TheVariants.{Memory}
use Rattle.traced_cloud.specs.declared.form.Form.{Form}
use Rattle.traced_cloud.specs.declared.note.Note.{Note}
use Rattle.traced_cloud.specs.Notes.{Notes}
use Rattle.traced_cloud.specs.Replies.{told_of}
use Rattle.traced_cloud.specs.Woven.{woven}

-- the status of the run where the text was written whole, and else that of the fault
abbrev pub after : Status → Result (Unit {0}) OutputFault → Status
after status (Ok done) = status
after status (Err fault) = status_of_output fault

-- the replies to all lines, each with the calls behind it that were noted of its line
abbrev pub traced : Form → List (List ℕ) → List Note → List ℕ
traced form replies notes = woven form 1 replies notes

-- a text was written, or memory ran out before and nothing was
pub data Writes (text : List ℕ) (status result : Status) (written now_written : Written) : Type 0 where
  writes_all : (ended : Result (Unit {0}) OutputFault) → result ≡ after status ended → WasWritten written now_written text ended
      → Writes text status result written now_written
  writes_none : result ≡ Memory → now_written ≡ written → Writes text status result written now_written

-- the lines were replayed over a cloud, and the replies were written with their calls; or memory ran out, and nothing was written
pub data Traces (form : Form) (noted : Notes) (result : Status) (start now : Outside) : Type 0 where
  traces_all : (status : Status) (replies : List (List ℕ)) → noted.short ≡ false
      → Replays status (outside start.input (told_of []) start.cloud) (outside now.input (told_of replies) now.cloud)
      → Writes (traced form replies noted.made) status result start.output now.output → Traces form noted result start now
  traces_none : result ≡ Memory → now.output ≡ start.output → Traces form noted result start now
