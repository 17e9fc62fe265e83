-- What a dump writes and leaves.
use Rattle.std.specs.Prelude.{ℕ, ◌≡◌, Bool, true, false, List, Result, Ok, Err, codes}
use Rattle.db_base.specs.declared.trouble.Trouble.{Trouble}
use Rattle.db_base.specs.declared.trouble.Trouble.TheVariants as trouble
use Rattle.db_io.specs.Writes.{Written, AddsOne, AddsPart}
use Rattle.dump_take.specs.declared.stop.DumpStop.{DumpStop}
use Rattle.dump_take.specs.declared.stop.DumpStop.TheVariants as stop
use Rattle.dump_take.specs.Parts.{StopsDark}
use Rattle.dump_take.specs.Taken.{Takes}
use Rattle.dump_text.specs.declared.dump.Dump.{Dump}
use Rattle.dump_text.specs.Text.{dump_text}
use Rattle.db_io.specs.declared.output.OutputFault.{OutputFault}
use Rattle.db_io.specs.declared.output.OutputFault.TheVariants as output
use Rattle.reply_text.specs.declared.reply.Reply.TheVariants as reply
use Rattle.schedule_run.specs.Outside.{Effects}
use Rattle.schedule_run.specs.Written.{name_line, plain_line}
use Rattle.schedule_run.specs.declared.dumping.DumpingFault.{DumpingFault}
use Rattle.schedule_run.specs.declared.dumping.DumpingFault.TheVariants.{NotQuiet, Stopped, WriteFault, Memory}
use Rattle.world_audit.specs.Look.{Looked}

-- a trouble is want of memory
abbrev pub is_memory : Trouble → Bool
is_memory trouble.Memory = true
is_memory trouble = false

-- what is written of what was taken: the text of a dump, `not-quiet` with a name, or a trouble
abbrev pub taken_text : Result Dump DumpStop → List ℕ
taken_text (Ok dump) = dump_text dump.trees
taken_text (Err (stop.NotQuiet name)) = name_line (codes "not-quiet") name
taken_text (Err (stop.Trouble trouble)) = plain_line (reply.Trouble trouble)

-- something stopped it that is not want of memory
abbrev pub IsStopped : Result Dump DumpStop → Type 0
IsStopped (Ok dump) = ⊥
IsStopped (Err (stop.NotQuiet name)) = ⊥
IsStopped (Err (stop.Trouble trouble)) = is_memory trouble ≡ false

-- how a dump ended by what was taken, and what it wrote: the whole text in one write, or at a failed write and want of memory a first part of it
abbrev pub IsTold : Result Dump DumpStop → Result (Unit {0}) DumpingFault → Written → Written → Type 0
IsTold taken (Ok done) written now_written = (dump : Dump) × (taken ≡ Ok dump) × AddsOne written now_written (taken_text taken)
IsTold taken (Err NotQuiet) written now_written = (name : List ℕ) × (taken ≡ Err (stop.NotQuiet name)) × AddsOne written now_written (taken_text taken)
IsTold taken (Err Stopped) written now_written = IsStopped taken × AddsOne written now_written (taken_text taken)
IsTold taken (Err WriteFault) written now_written = AddsPart written now_written (taken_text taken)
IsTold taken (Err Memory) written now_written = AddsPart written now_written (taken_text taken)

-- a dump was taken by looks alone, or they stopped, and that was told. So where the cloud tells its state, a dump that ended well wrote the text of the
-- contents of all trees of a quiet database (`IsTaken`), and the state is as before
pub record DumpEnded (result : Result (Unit {0}) DumpingFault) (before after : Effects) : Type 0 where
  pub taken : Result Dump DumpStop
  pub takes : Takes before.cloud taken
  pub looked : Looked before.cloud after.cloud
  pub failed : StopsDark taken before.cloud after.cloud
  pub told : IsTold taken result before.output after.output

-- the end of a dump whose text was written so
abbrev pub end_of : Result (Unit {0}) OutputFault → Result (Unit {0}) DumpingFault → Result (Unit {0}) DumpingFault
end_of (Ok done) end = end
end_of (Err output.WriteFault) end = Err WriteFault
end_of (Err output.Memory) end = Err Memory
