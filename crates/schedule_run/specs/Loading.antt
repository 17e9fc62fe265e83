-- What the load of a text writes and leaves.
use Rattle.std.specs.Prelude.{ℕ, ◌≡◌, List, [], ◌∷◌, ◌++◌, Result, Ok, Err, IfOk, codes}
use Rattle.std.specs.Fmt.{decimal}
use Rattle.words.specs.Word.{space, newline}
use Rattle.db_io.specs.Writes.{Written, AddsOne, AddsPart}
use Rattle.dump_text.specs.BadLine.{IsBadLine}
use Rattle.dump_text.specs.declared.dump.DumpedTree.{DumpedTree}
use Rattle.dump_text.specs.Text.{IsDump}
use Rattle.db_io.specs.declared.output.OutputFault.{OutputFault}
use Rattle.db_io.specs.declared.output.OutputFault.TheVariants as output
use Rattle.reply_text.specs.declared.reply.Reply.TheVariants as reply
use Rattle.schedule_run.specs.Outside.{Effects}
use Rattle.schedule_run.specs.Written.{NothingRan, bad_line, count_line, name_line, plain_line}
use Rattle.schedule_run.specs.Load.{LoadEnded}
use Rattle.schedule_run.specs.LoadLeft.{LeavesLoaded}
use Rattle.schedule_run.specs.PlainCalls.{CallsPlainly}
use Rattle.schedule_run.specs.declared.load.Loaded.{Loaded}
use Rattle.schedule_run.specs.declared.load.LoadStop.{LoadStop}
use Rattle.schedule_run.specs.declared.load.LoadStop.TheVariants as load
use Rattle.schedule_run.specs.declared.loading.LoadingFault.{LoadingFault}
use Rattle.schedule_run.specs.declared.loading.LoadingFault.TheVariants.{BadLine, NotEmpty, Stopped, NotOpened, NotLoaded, NotSettled, WriteFault, Memory}

-- what is written of a load: how many records it committed and how many calls its settling made; or `not-empty` with a name, the answer of the commit at
-- which it stopped, or the trouble
abbrev pub load_text : Result Loaded LoadStop → List ℕ
load_text (Ok loaded) = codes "loaded" ++ (space ∷ decimal loaded.records ++ (newline ∷ count_line (codes "settled") loaded.calls))
load_text (Err (load.NotEmpty name)) = name_line (codes "not-empty") name
load_text (Err (load.Stopped trouble)) = plain_line (reply.Trouble trouble)
load_text (Err (load.Opening trouble)) = plain_line (reply.Trouble trouble)
load_text (Err (load.Commit answer)) = plain_line (reply.Commit answer)
load_text (Err (load.Settling trouble)) = plain_line (reply.Trouble trouble)
load_text (Err load.Memory) = []

-- the end to which it leads, where that is written
abbrev pub load_end : Result Loaded LoadStop → Result (Unit {0}) LoadingFault
load_end (Ok loaded) = Ok tt
load_end (Err (load.NotEmpty name)) = Err NotEmpty
load_end (Err (load.Stopped trouble)) = Err Stopped
load_end (Err (load.Opening trouble)) = Err NotOpened
load_end (Err (load.Commit answer)) = Err NotLoaded
load_end (Err (load.Settling trouble)) = Err NotSettled
load_end (Err load.Memory) = Err Memory

-- the text spells no dump
abbrev pub SpellsNoDump : List ℕ → Type 0
SpellsNoDump text = (trees : List DumpedTree) → IsDump text trees → ⊥

-- this text was written in one write, and the end is that to which it leads; or at a failed write and want of memory a first part of it was
abbrev pub TellsLoad : List ℕ → Result (Unit {0}) LoadingFault → Result (Unit {0}) LoadingFault → Written → Written → Type 0
TellsLoad text end (Ok done) written now_written = (end ≡ Ok done) × AddsOne written now_written text
TellsLoad text end (Err WriteFault) written now_written = AddsPart written now_written text
TellsLoad text end (Err Memory) written now_written = AddsPart written now_written text
TellsLoad text end (Err fault) written now_written = (end ≡ Err fault) × AddsOne written now_written text

-- a load of these trees ended, by plain calls of its session and its settling alone, and that was told; where it was done, over a cloud that was empty and
-- told its state, that has what these trees hold
pub record FillWent (trees : List DumpedTree) (result : Result (Unit {0}) LoadingFault) (before after : Effects) : Type 0 where
  pub loaded : Result Loaded LoadStop
  pub went : LoadEnded loaded trees before.cloud after.cloud
  pub calls : CallsPlainly before.cloud after.cloud
  pub leaves : IfOk loaded (λ l. LeavesLoaded trees before.cloud after.cloud)
  pub told : TellsLoad (load_text loaded) (load_end loaded) result before.output after.output

-- the text spells a dump, which was loaded up to this end; or it spells none, and its first bad line was told; or there was no memory to read it.
-- A call was made only in the first case
pub data FillEnded (text : List ℕ) (result : Result (Unit {0}) LoadingFault) (before after : Effects) : Type 0 where
  fill_went : (trees : List DumpedTree) → IsDump text trees → FillWent trees result before after
      → FillEnded text result before after
  fill_bad : (number : ℕ) → IsBadLine text number → TellsLoad (bad_line number) (Err BadLine) result before.output after.output → after.cloud ≡ before.cloud
      → FillEnded text result before after
  fill_unread : result ≡ Err Memory → NothingRan before after → FillEnded text result before after

-- the end of a load whose text was written so
abbrev pub end_of : Result (Unit {0}) OutputFault → Result (Unit {0}) LoadingFault → Result (Unit {0}) LoadingFault
end_of (Ok done) end = end
end_of (Err output.WriteFault) end = Err WriteFault
end_of (Err output.Memory) end = Err Memory
