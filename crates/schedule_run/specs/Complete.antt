-- What a run comes to in which no read and no write failed.
use Rattle.std.specs.Prelude.{ℕ, ◌≡◌, ◌≤◌, ◌⊎◌, List, Option, Some, None, Err}
use Rattle.cloud_trait.specs.Seen.{Seen}
use Rattle.command_words.specs.declared.shape.Shape.{Shape}
use Rattle.command_words.specs.declared.shape.Shape.TheVariants.{Replay, Gen, Shell, Settle, Dump, Load}
use Rattle.db_io.specs.Content.{Told}
use Rattle.db_io.specs.Writes.{AddsOne}
use Rattle.dump_text.specs.declared.dump.DumpedTree.{DumpedTree}
use Rattle.schedule_run.specs.Outside.{Effects, Outside, effects_of}
use Rattle.schedule_run.specs.declared.dumping.DumpingFault.TheVariants as dump
use Rattle.schedule_run.specs.declared.settling.SettleFault.TheVariants as settle
use Rattle.schedule_run.specs.declared.load.LoadStop.{LoadStop}
use Rattle.schedule_run.specs.Dumping.{DumpEnded}
use Rattle.schedule_run.specs.Load.{LoadEnded}
use Rattle.schedule_run.specs.LoadComplete.{Completes}
use Rattle.schedule_run.specs.Loading.{load_end, load_text}
use Rattle.schedule_run.specs.Status.{ended_as, status_of_load}
use Rattle.schedule_run.specs.Settling.{SettleEnded}
use Rattle.schedule_run.specs.Shell.{WasNotOpened}
use Rattle.schedule_run.specs.declared.status.Status.{Status}
use Rattle.schedule_run.specs.declared.status.Status.TheVariants.{Done, BadLine, NotSettled, NotOpened, Memory, NotQuiet, Stopped}
use Rattle.schedule_run.specs.Run.{HasBad, WasBad, WasTooLong, limit_of}

-- neither the source's nor the sink's count rose, and no more than an input of this shape may have was read
pub record WentInOrder (asked : Option Shape) (before after : Outside) : Type 0 where
  pub reads : after.input.faults ≤ before.input.faults
  pub writes : after.output.faults ≤ before.output.faults
  pub within : WasTooLong (limit_of asked) before.input after.input → ⊥

-- a line of what was read is none that the command reads
abbrev pub ReadBadLine : Option Shape → Told → Told → Type 0
ReadBadLine asked left rest = WasBad (HasBad asked) left rest

-- the source tells what it holds
abbrev pub IsKnown : Told → Type 0
IsKnown left = (all : List ℕ) × (left.content ≡ Some all)

-- the status is this one, or memory ran out
abbrev pub IsOrMemory : Status → Status → Type 0
IsOrMemory wanted result = (result ≡ wanted) ⊎ (result ≡ Memory)

-- a load of a dump stopped, and that was told
pub record LoadStopped (result : Status) (before after : Effects) : Type 0 where
  pub trees : List DumpedTree
  pub stop : LoadStop
  pub went : LoadEnded (Err stop) trees before.cloud after.cloud
  pub leads : result ≡ ended_as status_of_load (load_end (Err stop))
  pub told : AddsOne before.output after.output (load_text (Err stop))

-- a run of words of a shape ends so, unless it is a shell whose opening did not open its session, a settling that stopped, a dump of what
-- is not quiet, or at which a look stopped, or a load of a dump that stopped
abbrev pub EndsWith : Status → Option Shape → Status → Effects → Effects → Type 0
EndsWith wanted (Some Replay) result before after = IsOrMemory wanted result
EndsWith wanted (Some (Gen number count)) result before after = IsOrMemory wanted result
EndsWith wanted (Some (Shell client dir)) result before after =
    IsOrMemory wanted result ⊎ ((result ≡ NotOpened) × WasNotOpened client before after)
EndsWith wanted (Some (Settle dir)) result before after =
    IsOrMemory wanted result ⊎ ((result ≡ NotSettled) × SettleEnded (Err settle.NotSettled) before after)
EndsWith wanted (Some (Dump dir)) result before after =
    IsOrMemory wanted result
    ⊎ (((result ≡ NotQuiet) × DumpEnded (Err dump.NotQuiet) before after)
    ⊎ ((result ≡ Stopped) × DumpEnded (Err dump.Stopped) before after))
EndsWith wanted (Some (Load dir)) result before after =
    IsOrMemory wanted result ⊎ ((wanted ≡ Done) × LoadStopped result before after)
EndsWith wanted None result before after = Unit {0}

-- where all went in order and no line is bad, the run is done
abbrev pub IsComplete : Option Shape → Status → Outside → Outside → Type 0
IsComplete asked result before after =
    WentInOrder asked before after → (ReadBadLine asked before.input after.input → ⊥) → EndsWith Done asked result (effects_of before) (effects_of after)

-- where all went in order and a line is bad, the run ends by it
abbrev pub StopsAtBadLine : Option Shape → Status → Outside → Outside → Type 0
StopsAtBadLine asked result before after =
    WentInOrder asked before after → IsKnown before.input → ReadBadLine asked before.input after.input → EndsWith BadLine asked result (effects_of before) (effects_of after)

-- ---- of a load

-- the load of a dump stopped, which ends the run by its status; where all went well, memory ran out
pub record StopsUnwell (result : Status) (start now : Seen) : Type 0 where
  pub trees : List DumpedTree
  pub stop : LoadStop
  pub leads : result ≡ ended_as status_of_load (load_end (Err stop))
  pub completes : Completes (Err stop) trees start now

-- where all went in order and the text spells a dump, a load is done, or memory ran out, or it stopped so
abbrev pub LoadCompletes : Option Shape → Status → Outside → Outside → Type 0
LoadCompletes (Some (Load dir)) result before after =
    WentInOrder (Some (Load dir)) before after → (ReadBadLine (Some (Load dir)) before.input after.input → ⊥)
    → IsOrMemory Done result ⊎ StopsUnwell result before.cloud after.cloud
LoadCompletes (Some Replay) result before after = Unit {0}
LoadCompletes (Some (Gen number count)) result before after = Unit {0}
LoadCompletes (Some (Shell client dir)) result before after = Unit {0}
LoadCompletes (Some (Settle dir)) result before after = Unit {0}
LoadCompletes (Some (Dump dir)) result before after = Unit {0}
LoadCompletes None result before after = Unit {0}
