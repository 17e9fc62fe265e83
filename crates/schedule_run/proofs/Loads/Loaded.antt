-- What a load of a dump leaves where it came to its end.
use Rattle.std.proofs.Common.{List}
use Rattle.cloud_trait.specs.State.{CloudState}
use Rattle.dump_text.specs.Dump.{IsDumpable}
use Rattle.dump_text.specs.Maps.{contents_of}
use Rattle.dump_text.specs.declared.dump.DumpedTree.{DumpedTree}
use Rattle.history.specs.Fold.{of_tree}
use Rattle.load_plan.specs.Events.{records_of, parts_of}
use Rattle.replay_meaning.specs.Committed.{committed}
use Rattle.replay_meaning.specs.Standing.{Line}
use Rattle.session_facts.specs.Lines.Facts.{session_at}
use Rattle.world_core.specs.Settled.{LeavesNothing}
use Rattle.world_core.specs.Stands.{WorldStands}
use Rattle.world_core.specs.World.{World}
use Rattle.schedule_run.specs.Loads.Inserts.{InsertAll}
use Rattle.schedule_run.specs.Loads.Loaded.{HasContents}
use Rattle.schedule_run.proofs.Loads.Contents.{contents_are}
use Rattle.schedule_run.proofs.Loads.Course.{changes_of, all_changes, IsThrough}
use Rattle.schedule_run.proofs.Loads.Dumps.{dump_changes, dump_tree, contents_ascend}
use Rattle.schedule_run.proofs.Loads.Kept.{AllKept, load_committed}
use Rattle.schedule_run.proofs.Loads.Parts.{inserts_of_tree}

-- where nothing is left each tree has the records of the dump
pub load_contents : (trees : List DumpedTree) (lines : List Line) (world : World) (t : CloudState) → IsDumpable trees → IsThrough (parts_of trees) lines → WorldStands lines world t
    → AllKept lines (committed lines t) → LeavesNothing t → HasContents t trees
load_contents trees lines world t dumpable is stands kept nothing tree of_tree_is =
    contents_are lines (session_at world.sessions) world.audit world.blind t tree (contents_of tree trees) stands.by_lines of_tree_is
    ((nothing tree of_tree_is).heads (of_tree tree (committed lines t))) (nothing tree of_tree_is).messages (contents_ascend tree trees dumpable.each) inserts
  where
    inserts : InsertAll tree (contents_of tree trees) (of_tree tree (committed lines t))
    inserts =
        inserts_of_tree tree (contents_of tree trees) (changes_of (records_of trees)) (all_changes (parts_of trees)) (committed lines t) (dump_tree tree trees dumpable)
        (dump_changes trees dumpable) (load_committed (all_changes (parts_of trees)) lines is.own t is.loading stands.by_lines.holds.cloud.kinds kept)
