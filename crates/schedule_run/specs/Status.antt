-- The numbers of the statuses, and the status that each fault leads to.
use Rattle.std.specs.Prelude.{ℕ, Result, Ok, Err}
use Rattle.command_words.specs.declared.shape.WordsFault.{WordsFault}
use Rattle.command_words.specs.declared.shape.WordsFault.TheVariants as words
use Rattle.db_io.specs.declared.input.InputFault.{InputFault}
use Rattle.db_io.specs.declared.input.InputFault.TheVariants as input
use Rattle.db_io.specs.declared.output.OutputFault.{OutputFault}
use Rattle.db_io.specs.declared.output.OutputFault.TheVariants as output
use Rattle.schedule_run.specs.declared.dumping.DumpingFault.{DumpingFault}
use Rattle.schedule_run.specs.declared.dumping.DumpingFault.TheVariants as dump
use Rattle.schedule_run.specs.declared.loading.LoadingFault.{LoadingFault}
use Rattle.schedule_run.specs.declared.loading.LoadingFault.TheVariants as load
use Rattle.schedule_run.specs.declared.replay.LineFault.{LineFault}
use Rattle.schedule_run.specs.declared.replay.LineFault.TheVariants as line
use Rattle.schedule_run.specs.declared.shell.ShellFault.{ShellFault}
use Rattle.schedule_run.specs.declared.shell.ShellFault.TheVariants as shell
use Rattle.schedule_run.specs.declared.settling.SettleFault.{SettleFault}
use Rattle.schedule_run.specs.declared.settling.SettleFault.TheVariants as settle
use Rattle.schedule_run.specs.declared.status.Status.{Status}
use Rattle.schedule_run.specs.declared.status.Status.TheVariants.{Done, BadLine, BadWords, ReadFault, WriteFault, NotSettled, TooLong, NotOpened, Memory, NotQuiet, NotEmpty, NotLoaded, Stopped}

-- the exit status
abbrev pub code_of : Status → ℕ
code_of Done = 0
code_of BadLine = 1
code_of BadWords = 2
code_of ReadFault = 3
code_of WriteFault = 4
code_of NotSettled = 5
code_of TooLong = 6
code_of NotOpened = 7
code_of Memory = 9
code_of NotQuiet = 11
code_of NotEmpty = 12
code_of NotLoaded = 13
code_of Stopped = 14

-- the status of a run whose words were not read
abbrev pub status_of_words : WordsFault → Status
status_of_words words.BadWords = BadWords
status_of_words words.Memory = Memory

-- of one whose input was not read
abbrev pub status_of_input : InputFault → Status
status_of_input input.ReadFault = ReadFault
status_of_input input.TooLong = TooLong
status_of_input input.Memory = Memory

-- of a replay, a generated schedule, a shell, a settling, a dump, a load that had this fault
abbrev pub status_of_line : LineFault → Status
status_of_line line.BadLine = BadLine
status_of_line line.WriteFault = WriteFault
status_of_line line.Memory = Memory

abbrev pub status_of_output : OutputFault → Status
status_of_output output.WriteFault = WriteFault
status_of_output output.Memory = Memory

abbrev pub status_of_shell : ShellFault → Status
status_of_shell shell.NotOpened = NotOpened
status_of_shell shell.BadLine = BadLine
status_of_shell shell.WriteFault = WriteFault
status_of_shell shell.Memory = Memory

abbrev pub status_of_settle : SettleFault → Status
status_of_settle settle.NotSettled = NotSettled
status_of_settle settle.WriteFault = WriteFault
status_of_settle settle.Memory = Memory

abbrev pub status_of_dump : DumpingFault → Status
status_of_dump dump.NotQuiet = NotQuiet
status_of_dump dump.Stopped = Stopped
status_of_dump dump.WriteFault = WriteFault
status_of_dump dump.Memory = Memory

abbrev pub status_of_load : LoadingFault → Status
status_of_load load.BadLine = BadLine
status_of_load load.NotEmpty = NotEmpty
status_of_load load.Stopped = Stopped
status_of_load load.NotOpened = NotOpened
status_of_load load.NotLoaded = NotLoaded
status_of_load load.NotSettled = NotSettled
status_of_load load.WriteFault = WriteFault
status_of_load load.Memory = Memory

-- of a run that ended well, or by a fault that leads to a status
abbrev pub ended_as : {F : Type 0} → (F → Status) → Result (Unit {0}) F → Status
ended_as by (Ok done) = Done
ended_as by (Err fault) = by fault
