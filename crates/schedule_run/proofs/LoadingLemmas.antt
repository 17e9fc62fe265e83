-- The end of a load.
use Rattle.std.proofs.Common.{◌≡◌, ◌<◌, ◌⊎◌, List, [], ℕ, Result, Ok, Err, refl, sym, inl, inr}
use Rattle.std.proofs.lemmas.List.{append-nil}
use Rattle.std.specs.Prelude.{IfOk}
use Rattle.cloud_trait.specs.Seen.{Seen}
use Rattle.db_io.specs.Writes.{Written, AddsOne, AddsPart}
use Rattle.dump_text.specs.declared.dump.DumpedTree.{DumpedTree}
use Rattle.db_io.specs.declared.output.OutputFault.{OutputFault}
use Rattle.db_io.specs.declared.output.OutputFault.TheVariants as output
use Rattle.db_io.specs.Output.{WasWritten}
use Rattle.schedule_run.specs.Outside.{effects}
use Rattle.schedule_run.specs.declared.load.Loaded.{Loaded}
use Rattle.schedule_run.specs.declared.load.LoadStop.{LoadStop}
use Rattle.schedule_run.specs.declared.load.LoadStop.TheVariants as load
use Rattle.schedule_run.specs.declared.loading.LoadingFault.{LoadingFault}
use Rattle.schedule_run.specs.declared.loading.LoadingFault.TheVariants.{BadLine, NotEmpty, Stopped, NotOpened, NotLoaded, NotSettled, WriteFault, Memory}
use Rattle.schedule_run.specs.Load.{LoadEnded}
use Rattle.schedule_run.specs.LoadLeft.{LeavesLoaded}
use Rattle.schedule_run.specs.PlainCalls.{CallsPlainly}
use Rattle.schedule_run.specs.Loading.{load_text, load_end, TellsLoad, FillWent, end_of}

-- the whole of a text is a first part of it
as_part : (w u : Written) (text : List ℕ) → AddsOne w u text → AddsPart w u text
as_part w u text one = λ all e. inr (text, [], sym (append-nil text), one all e)

-- a text that was written whole tells its end
tells_whole : (text : List ℕ) (end : Result (Unit {0}) LoadingFault) (w u : Written) → AddsOne w u text → TellsLoad text end end w u
tells_whole text (Ok done) w u one = (refl, one)
tells_whole text (Err BadLine) w u one = (refl, one)
tells_whole text (Err NotEmpty) w u one = (refl, one)
tells_whole text (Err Stopped) w u one = (refl, one)
tells_whole text (Err NotOpened) w u one = (refl, one)
tells_whole text (Err NotLoaded) w u one = (refl, one)
tells_whole text (Err NotSettled) w u one = (refl, one)
tells_whole text (Err WriteFault) w u one = as_part w u text one
tells_whole text (Err Memory) w u one = as_part w u text one

-- and so does one that was written so
pub tells : (text : List ℕ) (end : Result (Unit {0}) LoadingFault) (written : Result (Unit {0}) OutputFault) (w u : Written) → WasWritten w u text written
    → TellsLoad text end (end_of written end) w u
tells text end (Ok done) w u p = tells_whole text end w u p.0
tells text end (Err output.WriteFault) w u p = p.0
tells text end (Err output.Memory) w u p = p.0

-- nothing was written of it, for want of memory
pub tells_nothing : (text : List ℕ) (end : Result (Unit {0}) LoadingFault) (w : Written) → TellsLoad text end (Err Memory) w w
tells_nothing text end w = λ all e. inl e

-- the writing of a text ends a load by a failed write exactly where one failed
pub load_fails : (written : Result (Unit {0}) OutputFault) (end : Result (Unit {0}) LoadingFault) (text : List ℕ) (w u : Written) → WasWritten w u text written
    → (end ≡ Err WriteFault → ⊥) → end_of written end ≡ Err WriteFault → w.faults < u.faults
load_fails (Ok done) end text w u p other e = absurd (other e)
load_fails (Err output.WriteFault) end text w u p other e = p.1
load_fails (Err output.Memory) end text w u p other e = absurd (cc)

pub load_writes : (written : Result (Unit {0}) OutputFault) (end : Result (Unit {0}) LoadingFault) (text : List ℕ) (w u : Written) → WasWritten w u text written
    → (end_of written end ≡ Err WriteFault) ⊎ (u.faults ≡ w.faults)
load_writes (Ok done) end text w u p = inr p.1
load_writes (Err output.WriteFault) end text w u p = inl refl
load_writes (Err output.Memory) end text w u p = inr p.1

-- a load that ended, and told so
pub load_went : (trees : List DumpedTree) (loaded : Result Loaded LoadStop) (result : Result (Unit {0}) LoadingFault) (w u : Written) (s t : Seen) → LoadEnded loaded trees s t
    → CallsPlainly s t → IfOk loaded (λ l. LeavesLoaded trees s t) → TellsLoad (load_text loaded) (load_end loaded) result w u → FillWent trees result (effects w s) (effects u t)
load_went trees loaded result w u s t went calls leaves told = record { loaded = loaded; went = went; calls = calls; leaves = leaves; told = told }

-- it does not end by a bad line
pub never_bad : (stop : LoadStop) → load_end (Err stop) ≡ Err BadLine → ⊥
never_bad (load.NotEmpty name) e = absurd (cc)
never_bad (load.Stopped trouble) e = absurd (cc)
never_bad (load.Opening trouble) e = absurd (cc)
never_bad (load.Commit answer) e = absurd (cc)
never_bad (load.Settling trouble) e = absurd (cc)
never_bad load.Memory e = absurd (cc)
