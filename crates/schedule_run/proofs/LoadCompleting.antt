-- A load ends well where nothing goes wrong.
use Rattle.std.proofs.Common.{◌≡◌, ◌⊎◌, ◌<◌, ℕ, List, Option, Some, None, Result, Ok, Err, refl, ap, ◌∙◌, inl, inr, arith}
use Rattle.cloud_facts.specs.Words.{ObjName, CloudState, newest, Seen}
use Rattle.cloud_trait.specs.State.{IsEmptyCloud}
use Rattle.command_words.specs.declared.shape.Shape.{Shape}
use Rattle.command_words.specs.declared.shape.Shape.TheVariants.{Replay, Gen, Shell, Settle, Dump, Load}
use Rattle.db_io.specs.Content.{Told}
use Rattle.db_io.specs.Writes.{Written}
use Rattle.dump_text.specs.declared.dump.DumpedTree.{DumpedTree}
use Rattle.load_plan.specs.FirstLook.{first_names, LooksEnded}
use Rattle.load_plan.specs.declared.first_look.LookStop.TheVariants as look
use Rattle.schedule_run.specs.Outside.{effects, outside}
use Rattle.schedule_run.specs.Complete.{IsOrMemory, IsComplete, LoadStopped, StopsUnwell, LoadCompletes}
use Rattle.schedule_run.specs.Load.{LoadEnded}
use Rattle.schedule_run.specs.LoadComplete.{Completes}
use Rattle.schedule_run.specs.declared.load.LoadStop.{LoadStop}
use Rattle.schedule_run.specs.declared.load.LoadStop.TheVariants.{NotEmpty, Stopped, Opening, Commit, Settling, Memory}
use Rattle.schedule_run.specs.declared.load.Loaded.{Loaded}
use Rattle.schedule_run.specs.declared.status.Status.{Status}
use Rattle.schedule_run.specs.declared.status.Status.TheVariants as status

-- nothing is there in an empty cloud
none_there : (t : CloudState) (name : ObjName) → IsEmptyCloud t → newest t name ≡ None
none_there t name empty = rw (empty.versions name) refl

never_there : (text : List ℕ) (start now : Seen) (t : CloudState) → LooksEnded first_names (look.NotEmpty text) start now → start.state ≡ Some t → IsEmptyCloud t → ⊥
never_there text start now t ended told empty =
    let there = ended.ends.1 in
    let clash : Some there.0 ≡ None = there.1.told t told ∙ none_there t ended.name empty in
    absurd (cc)

never_dark : (start now : Seen) → LooksEnded first_names look.Failed start now → now.counts ≡ start.counts → ⊥
never_dark start now ended still =
    let rose : start.counts.dark < now.counts.dark = ended.ends.rose in
    let same : now.counts.dark ≡ start.counts.dark = ap (λ c. c.dark) still in
    omega (arith, rose, same)

pub completes_so : (result : Result Loaded LoadStop) (trees : List DumpedTree) (start now : Seen) → LoadEnded result trees start now → Completes result trees start now
completes_so (Ok loaded) trees start now went = record { went = went; well = λ t u told empty seen still calm. tt }
completes_so (Err (NotEmpty text)) trees start now went = record { went = went; well = λ t u told empty seen still calm. absurd (never_there text start now t went told empty) }
completes_so (Err (Stopped k)) trees start now went = record { went = went; well = λ t u told empty seen still calm. absurd (never_dark start now went.1 still) }
completes_so (Err (Opening k)) trees start now went = record { went = went; well = λ t u told empty seen still calm. went.calm t told empty u seen calm }
completes_so (Err (Commit answer)) trees start now went = record { went = went; well = λ t u told empty seen still calm. went.calm t told empty u seen calm }
completes_so (Err (Settling k)) trees start now went = record { went = went; well = λ t u told empty seen still calm. went.calm t told empty u seen calm }
completes_so (Err Memory) trees start now went = record { went = went; well = λ t u told empty seen still calm. refl }

-- ---- of a run

stops_unwell : (result : Status) (w u : Written) (s t : Seen) → LoadStopped result (effects w s) (effects u t) → StopsUnwell result s t
stops_unwell result w u s t it = record { trees = it.trees; stop = it.stop; leads = it.leads; completes = completes_so (Err it.stop) it.trees s t it.went }

ends_so : (result : Status) (w u : Written) (s t : Seen) → IsOrMemory status.Done result ⊎ ((status.Done ≡ status.Done) × LoadStopped result (effects w s) (effects u t))
    → IsOrMemory status.Done result ⊎ StopsUnwell result s t
ends_so result w u s t (inl done) = inl done
ends_so result w u s t (inr stopped) = inr (stops_unwell result w u s t stopped.1)

pub load_completes : (shape : Shape) (result : Status) (left rest : Told) (w u : Written) (s t : Seen) → IsComplete (Some shape) result (outside left w s) (outside rest u t)
    → LoadCompletes (Some shape) result (outside left w s) (outside rest u t)
load_completes (Load dir) result left rest w u s t complete = λ order good. ends_so result w u s t (complete order good)
load_completes Replay result left rest w u s t complete = tt
load_completes (Gen number count) result left rest w u s t complete = tt
load_completes (Shell client dir) result left rest w u s t complete = tt
load_completes (Settle dir) result left rest w u s t complete = tt
load_completes (Dump dir) result left rest w u s t complete = tt

-- so does one for which memory ran out before its words were read
pub load_out_of_memory : (asked : Option Shape) (left rest : Told) (w u : Written) (s t : Seen) → LoadCompletes asked status.Memory (outside left w s) (outside rest u t)
load_out_of_memory (Some (Load dir)) left rest w u s t = λ order good. inl (inr refl)
load_out_of_memory (Some Replay) left rest w u s t = tt
load_out_of_memory (Some (Gen number count)) left rest w u s t = tt
load_out_of_memory (Some (Shell client dir)) left rest w u s t = tt
load_out_of_memory (Some (Settle dir)) left rest w u s t = tt
load_out_of_memory (Some (Dump dir)) left rest w u s t = tt
load_out_of_memory None left rest w u s t = tt
