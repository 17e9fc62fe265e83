-- That a load is done where nothing goes wrong.
use Rattle.std.specs.Prelude.{◌≡◌, List, Some, Result, Ok, Err}
use Rattle.cloud_trait.specs.Seen.{Seen}
use Rattle.cloud_trait.specs.State.{CloudState, IsEmptyCloud}
use Rattle.dump_text.specs.declared.dump.DumpedTree.{DumpedTree}
use Rattle.schedule_run.specs.Load.{LoadEnded, StoppedBehind}
use Rattle.schedule_run.specs.LoadCalm.{AreCalm}
use Rattle.schedule_run.specs.declared.load.LoadStop.{LoadStop}
use Rattle.schedule_run.specs.declared.load.LoadStop.TheVariants.{NotEmpty, Stopped, Opening, Commit, Settling, Memory}
use Rattle.schedule_run.specs.declared.load.Loaded.{Loaded}

-- each step of the lines that were run up to a stop was calm
abbrev pub StepsAreCalm : (stop : LoadStop) (trees : List DumpedTree) (start now : Seen) → StoppedBehind stop trees start now → Type 0
StepsAreCalm stop trees start now behind = AreCalm behind.mid behind.run.played.first behind.run.lines now behind.play.world behind.run.played.went

-- the steps of a load that stopped behind a reply were calm
abbrev pub WasCalm : (result : Result Loaded LoadStop) (trees : List DumpedTree) (start now : Seen) → LoadEnded result trees start now → Type 0
WasCalm (Ok loaded) trees start now done = Unit {0}
WasCalm (Err (NotEmpty text)) trees start now ended = Unit {0}
WasCalm (Err (Stopped t)) trees start now ended = Unit {0}
WasCalm (Err (Opening t)) trees start now behind = StepsAreCalm (Opening t) trees start now behind
WasCalm (Err (Commit answer)) trees start now behind = StepsAreCalm (Commit answer) trees start now behind
WasCalm (Err (Settling t)) trees start now behind = StepsAreCalm (Settling t) trees start now behind
WasCalm (Err Memory) trees start now ended = Unit {0}

-- it is done, or memory ran out
abbrev pub EndsWell : Result Loaded LoadStop → Type 0
EndsWell (Ok loaded) = Unit {0}
EndsWell (Err stop) = stop ≡ Memory

-- A load ended so. Over a cloud that was empty and told its state, where no count rose and each step was calm, so that no lease was over, it ends well:
-- nothing is there and no look failed, the session is opened, each commit is committed, and all is settled.
pub record Completes (result : Result Loaded LoadStop) (trees : List DumpedTree) (start now : Seen) : Type 0 where
  pub went : LoadEnded result trees start now
  pub well : (t u : CloudState) → start.state ≡ Some t → IsEmptyCloud t → now.state ≡ Some u → now.counts ≡ start.counts
      → WasCalm result trees start now went → EndsWell result
