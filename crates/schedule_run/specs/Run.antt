-- What a run says of its words, its input and its output.
use Rattle.std.specs.Prelude.{ℕ, ◌≡◌, ◌<◌, ◌≤◌, ◌⊎◌, List, length, Option, Some, None, Result}
use Rattle.command_words.specs.declared.shape.Shape.{Shape}
use Rattle.command_words.specs.declared.shape.Shape.TheVariants.{Replay, Gen, Shell, Settle, Dump, Load}
use Rattle.db_io.specs.Content.{Told, Takes}
use Rattle.db_io.specs.Input.{AreAll}
use Rattle.db_io.specs.declared.input.InputFault.{InputFault}
use Rattle.command_words.specs.declared.read.TheConstants.{MAX_COUNT}
use Rattle.db_io.specs.declared.input.TheConstants.{MAX_LINES, MAX_DUMP}
use Rattle.db_io.specs.declared.output.OutputFault.{OutputFault}
use Rattle.sched_gen.specs.Schedule.{schedule}
use Rattle.schedule_run.specs.Outside.{Effects, Outside, effects_of}
use Rattle.schedule_run.specs.declared.dumping.DumpingFault.{DumpingFault}
use Rattle.schedule_run.specs.declared.loading.LoadingFault.{LoadingFault}
use Rattle.schedule_run.specs.declared.replay.LineFault.{LineFault}
use Rattle.schedule_run.specs.declared.settling.SettleFault.{SettleFault}
use Rattle.schedule_run.specs.declared.shell.ShellFault.{ShellFault}
use Rattle.schedule_run.specs.Answered.{OpensNoneTwice}
use Rattle.schedule_run.specs.Dumping.{DumpEnded}
use Rattle.schedule_run.specs.Generated.{GenEnded}
use Rattle.schedule_run.specs.Loading.{FillEnded, SpellsNoDump}
use Rattle.schedule_run.specs.Replayed.{HasBadLine, ReplayWent}
use Rattle.schedule_run.specs.Settling.{SettleEnded}
use Rattle.schedule_run.specs.Shell.{HasBadShellLine, ShellWent}
use Rattle.schedule_run.specs.Written.{NothingRan}
use Rattle.schedule_run.specs.declared.status.Status.{Status}
use Rattle.schedule_run.specs.declared.status.Status.TheVariants as status
use Rattle.schedule_run.specs.Status.{status_of_input, status_of_line, status_of_output, status_of_shell, status_of_settle, status_of_dump, status_of_load, ended_as}

-- ---- the input

-- how many bytes are read at most of what a command reads
abbrev pub limit_of : Option Shape → ℕ
limit_of (Some (Load dir)) = MAX_DUMP
limit_of (Some (Dump dir)) = MAX_LINES
limit_of (Some (Settle dir)) = MAX_LINES
limit_of (Some (Shell client dir)) = MAX_LINES
limit_of (Some (Gen number count)) = MAX_LINES
limit_of (Some Replay) = MAX_LINES
limit_of None = MAX_LINES

-- some bytes were read, and more than an input may have
pub record WasTooLong (limit : ℕ) (before after : Told) : Type 0 where
  pub bytes : List ℕ
  pub taken : Takes before after bytes
  pub long : limit < length bytes

-- some bytes were read, or none, and no more than an input may have
pub record WasWithin (limit : ℕ) (before after : Told) : Type 0 where
  pub bytes : List ℕ
  pub taken : Takes before after bytes
  pub within : length bytes ≤ limit

-- the source was read to its end, and gave no more than an input may have
pub record ReadWhole (limit : ℕ) (before after : Told) : Type 0 where
  pub bytes : List ℕ
  pub taken : Takes before after bytes
  pub all : AreAll before bytes
  pub within : length bytes ≤ limit

-- a line of the text is not one of those that the command reads, or the text is no dump where it reads that
abbrev pub HasBad : Option Shape → List ℕ → Type 0
HasBad (Some Replay) text = HasBadLine text
HasBad (Some (Shell client dir)) text = HasBadShellLine text
HasBad (Some (Gen number count)) text = ⊥
HasBad (Some (Settle dir)) text = ⊥
HasBad (Some (Dump dir)) text = ⊥
HasBad (Some (Load dir)) text = SpellsNoDump text
HasBad None text = ⊥

-- some bytes were read, of which this holds
pub record WasBad (IsBad : List ℕ → Type 0) (before after : Told) : Type 0 where
  pub bytes : List ℕ
  pub taken : Takes before after bytes
  pub bad : IsBad bytes

-- ---- the words

-- no more rounds are asked for than are generated
abbrev pub AsksWithin : Shape → Type 0
AsksWithin (Gen number count) = count ≤ MAX_COUNT
AsksWithin (Shell client dir) = Unit {0}
AsksWithin (Settle dir) = Unit {0}
AsksWithin (Dump dir) = Unit {0}
AsksWithin (Load dir) = Unit {0}
AsksWithin Replay = Unit {0}

-- a status that a replay leads to
abbrev pub IsOfReplay : Status → Type 0
IsOfReplay status.Done = Unit {0}
IsOfReplay status.BadLine = Unit {0}
IsOfReplay status.ReadFault = Unit {0}
IsOfReplay status.WriteFault = Unit {0}
IsOfReplay status.TooLong = Unit {0}
IsOfReplay status.Memory = Unit {0}
IsOfReplay result = ⊥

-- a status that a shell leads to
abbrev pub IsOfShell : Status → Type 0
IsOfShell status.Done = Unit {0}
IsOfShell status.BadLine = Unit {0}
IsOfShell status.ReadFault = Unit {0}
IsOfShell status.WriteFault = Unit {0}
IsOfShell status.TooLong = Unit {0}
IsOfShell status.NotOpened = Unit {0}
IsOfShell status.Memory = Unit {0}
IsOfShell result = ⊥

-- a status that a generated schedule leads to
abbrev pub IsOfSchedule : Status → Type 0
IsOfSchedule status.Done = Unit {0}
IsOfSchedule status.WriteFault = Unit {0}
IsOfSchedule status.Memory = Unit {0}
IsOfSchedule result = ⊥

-- a status that a settling leads to
abbrev pub IsOfSettling : Status → Type 0
IsOfSettling status.Done = Unit {0}
IsOfSettling status.NotSettled = Unit {0}
IsOfSettling status.WriteFault = Unit {0}
IsOfSettling status.Memory = Unit {0}
IsOfSettling result = ⊥

-- a status that a dump leads to
abbrev pub IsOfDump : Status → Type 0
IsOfDump status.Done = Unit {0}
IsOfDump status.WriteFault = Unit {0}
IsOfDump status.NotQuiet = Unit {0}
IsOfDump status.Stopped = Unit {0}
IsOfDump status.Memory = Unit {0}
IsOfDump result = ⊥

-- a status that a load leads to
abbrev pub IsOfLoad : Status → Type 0
IsOfLoad status.BadWords = ⊥
IsOfLoad status.NotQuiet = ⊥
IsOfLoad result = Unit {0}

-- a status that words of no shape lead to
abbrev pub IsOfNone : Status → Type 0
IsOfNone status.BadWords = Unit {0}
IsOfNone status.Memory = Unit {0}
IsOfNone result = ⊥

-- a status that words of this shape lead to
abbrev pub IsOfShape : Option Shape → Status → Type 0
IsOfShape (Some Replay) = IsOfReplay
IsOfShape (Some (Gen number count)) = IsOfSchedule
IsOfShape (Some (Shell client dir)) = IsOfShell
IsOfShape (Some (Settle dir)) = IsOfSettling
IsOfShape (Some (Dump dir)) = IsOfDump
IsOfShape (Some (Load dir)) = IsOfLoad
IsOfShape None = IsOfNone

-- ---- what each command reads, writes and leaves

-- a replay: the input was read whole and its lines were handled up to this end, or it was not, and nothing ran
pub data Replays (result : Status) (before after : Outside) : Type 0 where
  replay_unread : (fault : InputFault) → result ≡ status_of_input fault → NothingRan (effects_of before) (effects_of after)
      → Replays result before after
  replay_went : (input : ReadWhole MAX_LINES before.input after.input) (ended : Result (Unit {0}) LineFault) → result ≡ ended_as status_of_line ended
      → ReplayWent ended input.bytes (effects_of before) (effects_of after) → Replays result before after

-- a shell of a client: in the same way
pub data RunsShell (client : ℕ) (result : Status) (before after : Outside) : Type 0 where
  shell_unread : (fault : InputFault) → result ≡ status_of_input fault → NothingRan (effects_of before) (effects_of after)
      → RunsShell client result before after
  shell_went : (input : ReadWhole MAX_LINES before.input after.input) (ended : Result (Unit {0}) ShellFault) → result ≡ ended_as status_of_shell ended
      → ShellWent client input.bytes ended (effects_of before) (effects_of after) → RunsShell client result before after

-- a generated schedule: its events were handled up to this end, and opened no transaction twice, whatever was in the cloud before
pub record Generates (number count : ℕ) (result : Status) (before after : Effects) : Type 0 where
  pub ended : Result (Unit {0}) OutputFault
  pub leads : result ≡ ended_as status_of_output ended
  pub went : GenEnded (schedule number count) ended before after
  pub opens_once : OpensNoneTwice before.cloud after.cloud

-- a settling: the line `settle` was handled up to this end
pub record RunsSettling (result : Status) (before after : Effects) : Type 0 where
  pub ended : Result (Unit {0}) SettleFault
  pub leads : result ≡ ended_as status_of_settle ended
  pub went : SettleEnded ended before after

-- a dump: what looks showed was written up to this end, or there was no memory to begin, and nothing ran
pub data RunsDump (result : Status) (before after : Effects) : Type 0 where
  dump_unasked : result ≡ status.Memory → NothingRan before after → RunsDump result before after
  dump_went : (ended : Result (Unit {0}) DumpingFault) → result ≡ ended_as status_of_dump ended → DumpEnded ended before after
      → RunsDump result before after

-- a load: the input was read whole, and what its text spells was loaded up to this end; or it was not, and nothing ran
pub data RunsLoad (result : Status) (before after : Outside) : Type 0 where
  load_unread : (fault : InputFault) → result ≡ status_of_input fault → NothingRan (effects_of before) (effects_of after)
      → RunsLoad result before after
  load_went : (input : ReadWhole MAX_DUMP before.input after.input) (ended : Result (Unit {0}) LoadingFault) → result ≡ ended_as status_of_load ended
      → FillEnded input.bytes ended (effects_of before) (effects_of after) → RunsLoad result before after

-- words of no shape, or no memory to read them: nothing is read, and nothing ran
pub record IsUnasked (result : Status) (before after : Outside) : Type 0 where
  pub ends : (result ≡ status.BadWords) ⊎ (result ≡ status.Memory)
  pub unread : after.input ≡ before.input
  pub nothing : NothingRan (effects_of before) (effects_of after)

-- what a run of words of this shape read, wrote and left
abbrev pub Ran : Option Shape → Status → Outside → Outside → Type 0
Ran (Some Replay) result before after = Replays result before after
Ran (Some (Gen number count)) result before after = (after.input ≡ before.input) × Generates number count result (effects_of before) (effects_of after)
Ran (Some (Shell client dir)) result before after = RunsShell client result before after
Ran (Some (Settle dir)) result before after = (after.input ≡ before.input) × RunsSettling result (effects_of before) (effects_of after)
Ran (Some (Dump dir)) result before after = (after.input ≡ before.input) × RunsDump result (effects_of before) (effects_of after)
Ran (Some (Load dir)) result before after = RunsLoad result before after
Ran None result before after = IsUnasked result before after
