-- What a load leaves in a cloud that was empty.
use Rattle.std.specs.Prelude.{ℕ, ◌≡◌, List, Some, Ok, length}
use Rattle.cloud_trait.specs.Seen.{Seen}
use Rattle.cloud_trait.specs.State.{CloudState, IsEmptyCloud}
use Rattle.db_io.specs.Writes.{Written, AddsOne}
use Rattle.dump_take.specs.Taken.{AreDumped}
use Rattle.dump_text.specs.Text.{dump_text}
use Rattle.dump_text.specs.declared.dump.DumpedTree.{DumpedTree}
use Rattle.schedule_run.specs.Outside.{effects}
use Rattle.schedule_run.specs.Loads.Loaded.{HasContents, AreLogged, commits_in}
use Rattle.load_plan.specs.Events.{records_of, transactions, load_events}
use Rattle.schedule_run.specs.Dumping.{DumpEnded}
use Rattle.world_core.specs.Settled.{LeavesNothing}

-- a dump that begins here and is done writes this text
abbrev pub DumpsAs : List ℕ → Seen → Type 0
DumpsAs text now = (written now_written : Written) (later : Seen) → DumpEnded (Ok tt) (effects written now) (effects now_written later) → AddsOne written now_written text

-- A transaction takes 200 records, the last one what is left. Whatever call failed and whatever lease ended, the ATOMIC messages of transactions that
-- were opened are the inserts of the dump's records in order; and where no message was withheld each tree has the records of the dump, and nothing is
-- left: what a dump takes there is what was loaded (`AreDumped`, as of a dump that is done), so it writes the same text.
pub record IsLoaded (trees : List DumpedTree) (start now : Seen) (u : CloudState) : Type 0 where
  pub commits : commits_in (load_events trees) ≡ transactions (length (records_of trees))
  pub logged : AreLogged u (records_of trees)
  pub contents : now.counts.withheld ≡ start.counts.withheld → HasContents u trees
  pub nothing : now.counts.withheld ≡ start.counts.withheld → LeavesNothing u
  pub dumped : now.counts.withheld ≡ start.counts.withheld → AreDumped u trees
  pub again : now.counts.withheld ≡ start.counts.withheld → DumpsAs (dump_text trees) now

-- so is the state that a cloud tells that was empty
abbrev pub LeavesLoaded : List DumpedTree → Seen → Seen → Type 0
LeavesLoaded trees start now = (t : CloudState) → start.state ≡ Some t → IsEmptyCloud t → (u : CloudState) × (now.state ≡ Some u) × IsLoaded trees start now u
