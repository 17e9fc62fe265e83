-- A load that stopped.
use Rattle.std.proofs.Common.{◌≡◌, List, ℕ, Result, Ok, Err, sym, ap, subst}
use Rattle.cloud_trait.specs.Seen.{Seen}
use Rattle.db_io.specs.Content.{Told}
use Rattle.db_io.specs.Writes.{Written, AddsOne}
use Rattle.dump_text.specs.declared.dump.DumpedTree.{DumpedTree}
use Rattle.dump_text.specs.Text.{IsDump}
use Rattle.db_io.specs.declared.input.InputFault.{InputFault}
use Rattle.db_io.specs.declared.input.InputFault.TheVariants as input
use Rattle.db_io.specs.declared.input.TheConstants.{MAX_DUMP}
use Rattle.schedule_run.specs.Outside.{Outside, effects_of, effects, outside}
use Rattle.schedule_run.specs.declared.load.Loaded.{Loaded}
use Rattle.schedule_run.specs.declared.load.LoadStop.{LoadStop}
use Rattle.schedule_run.specs.declared.loading.LoadingFault.{LoadingFault}
use Rattle.schedule_run.specs.declared.loading.LoadingFault.TheVariants as load
use Rattle.schedule_run.specs.declared.status.Status.{Status}
use Rattle.schedule_run.specs.declared.status.Status.TheVariants as status
use Rattle.schedule_run.specs.Complete.{LoadStopped}
use Rattle.schedule_run.specs.Load.{LoadEnded}
use Rattle.schedule_run.specs.Loading.{load_text, load_end, FillEnded, fill_went, fill_bad, fill_unread}
use Rattle.schedule_run.specs.Run.{ReadWhole, RunsLoad, load_unread, load_went}
use Rattle.schedule_run.specs.Status.{ended_as, status_of_input, status_of_load}

-- a status with which a load ends that stopped
abbrev pub Falls : Status → Type 0
Falls status.NotSettled = Unit {0}
Falls status.NotOpened = Unit {0}
Falls status.NotEmpty = Unit {0}
Falls status.NotLoaded = Unit {0}
Falls status.Stopped = Unit {0}
Falls result = ⊥

-- a text spells a dump
abbrev pub Spells : List ℕ → Type 0
Spells text = (trees : List DumpedTree) × IsDump text trees

-- what a load came to by which it ends so
came : (trees : List DumpedTree) (loaded : Result Loaded LoadStop) (fault : LoadingFault) (w u : Written) (s t : Seen) → load_end loaded ≡ Err fault
    → LoadEnded loaded trees s t → AddsOne w u (load_text loaded) → LoadStopped (status_of_load fault) (effects w s) (effects u t)
came trees (Ok loaded) fault w u s t e went one = absurd (cc)
came trees (Err stop) fault w u s t e went one = record { trees = trees; stop = stop; went = went; leads = sym (ap (ended_as status_of_load) e); told = one }

-- a load of a text that stopped was one of a dump
fell : (fault : LoadingFault) (text : List ℕ) (w u : Written) (s t : Seen) → Falls (status_of_load fault) → FillEnded text (Err fault) (effects w s) (effects u t)
    → Spells text × LoadStopped (status_of_load fault) (effects w s) (effects u t)
fell load.NotSettled text w u s t f (fill_went trees spelled went) = ((trees, spelled), came trees went.loaded load.NotSettled w u s t went.told.0 went.went went.told.1)
fell load.NotSettled text w u s t f (fill_bad number is told still) = let e = told.0 in absurd (cc)
fell load.NotSettled text w u s t f (fill_unread e nothing) = absurd (cc)
fell load.NotOpened text w u s t f (fill_went trees spelled went) = ((trees, spelled), came trees went.loaded load.NotOpened w u s t went.told.0 went.went went.told.1)
fell load.NotOpened text w u s t f (fill_bad number is told still) = let e = told.0 in absurd (cc)
fell load.NotOpened text w u s t f (fill_unread e nothing) = absurd (cc)
fell load.NotEmpty text w u s t f (fill_went trees spelled went) = ((trees, spelled), came trees went.loaded load.NotEmpty w u s t went.told.0 went.went went.told.1)
fell load.NotEmpty text w u s t f (fill_bad number is told still) = let e = told.0 in absurd (cc)
fell load.NotEmpty text w u s t f (fill_unread e nothing) = absurd (cc)
fell load.NotLoaded text w u s t f (fill_went trees spelled went) = ((trees, spelled), came trees went.loaded load.NotLoaded w u s t went.told.0 went.went went.told.1)
fell load.NotLoaded text w u s t f (fill_bad number is told still) = let e = told.0 in absurd (cc)
fell load.NotLoaded text w u s t f (fill_unread e nothing) = absurd (cc)
fell load.Stopped text w u s t f (fill_went trees spelled went) = ((trees, spelled), came trees went.loaded load.Stopped w u s t went.told.0 went.went went.told.1)
fell load.Stopped text w u s t f (fill_bad number is told still) = let e = told.0 in absurd (cc)
fell load.Stopped text w u s t f (fill_unread e nothing) = absurd (cc)
fell load.BadLine text w u s t f went = absurd f
fell load.WriteFault text w u s t f went = absurd f
fell load.Memory text w u s t f went = absurd f

-- the input was read, and spells a dump, whose load stopped
pub record Fallen (result : Status) (before after : Outside) : Type 0 where
  pub input : ReadWhole MAX_DUMP before.input after.input
  pub spells : Spells input.bytes
  pub stopped : LoadStopped result (effects_of before) (effects_of after)

unread : (fault : InputFault) → Falls (status_of_input fault) → ⊥
unread input.ReadFault f = f
unread input.TooLong f = f
unread input.Memory f = f

pub fallen : (result : Status) (left rest : Told) (w u : Written) (s t : Seen) → Falls result → RunsLoad result (outside left w s) (outside rest u t) → Fallen result (outside left w s) (outside rest u t)
fallen result left rest w u s t f (load_unread fault e nothing) = absurd (unread fault (subst Falls e f))
fallen result left rest w u s t f (load_went read (Ok done) e went) = absurd (subst Falls e f)
fallen result left rest w u s t f (load_went read (Err fault) e went) =
    let both = fell fault read.bytes w u s t (subst Falls e f) went in
    record { input = read; spells = both.0; stopped = subst (λ r. LoadStopped r (effects w s) (effects u t)) (sym e) both.1 }
