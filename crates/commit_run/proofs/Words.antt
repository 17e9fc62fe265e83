-- The words of the lemmas on a commit.
pub use Rattle.cloud_trait.specs.Ask.{Ask, Get}
pub use Rattle.cloud_trait.specs.Machine.{Came, Deed, Ends, Goes, LeadsBy, Next, Stops, Took}
pub use Rattle.cloud_trait.specs.declared.answer.Answer.{Answer}
pub use Rattle.cloud_trait.specs.declared.answer.Answer.TheVariants.{Got}
pub use Rattle.cloud_trait.specs.declared.turn.Turn.{Turn}
pub use Rattle.cloud_trait.specs.declared.turn.Turn.TheVariants.{More, Stopped}
pub use Rattle.commit_run.specs.Ended.{ended_of}
pub use Rattle.commit_run.specs.Plan.{page_without, pages_of, seeks}
pub use Rattle.commit_run.specs.Draft.{Draft, leaf_noted, new_draft, paged, planned, pruned_behind}
pub use Rattle.commit_run.specs.Meaning.{AreLeaves, MeansWalks, walked_home}
pub use Rattle.commit_run.specs.Run.{KeepsHome, Led, Run, ask_at, asks, begin_walks, begun_turn, by_turn, held, home_of, is_stale, long_target, new_run, next_target, plan_on, refused, run_next, run_ready, seek, stale_at, target_of, troubled, walk_turned, walked, written, wrote}
pub use Rattle.commit_run.specs.Trips.{AreWalks, Trip, Use, left_by_turn, used_by_turn, used_in, uses_of}
pub use Rattle.commit_run.specs.Within.{GetsNothing, Went}
pub use Rattle.commit_run.specs.declared.hand.Hand.{Hand}
pub use Rattle.commit_run.specs.declared.hand.Hand.TheVariants.{Change, First, Writes}
pub use Rattle.commit_writes.proofs.RoutedLaws.{routed_length}
pub use Rattle.commit_writes.specs.Calls.{Calls, told}
pub use Rattle.commit_writes.specs.Writing.{Writing, begun, is_spent, log_or_open, not_committed, passes, routed_of, waiting, with_attempt, writing_ask, writing_next}
pub use Rattle.commit_writes.specs.declared.stage.Stage.{Stage}
pub use Rattle.commit_writes.specs.declared.stage.Stage.TheVariants.{Deleting, Finished, Logging, Opening, Sending, Settling, Waiting}
pub use Rattle.db_base.specs.Change.{key_of}
pub use Rattle.db_base.specs.declared.names.ObjName.{ObjName}
pub use Rattle.db_base.specs.declared.trouble.CommitAnswer.{CommitAnswer}
pub use Rattle.db_base.specs.declared.trouble.CommitAnswer.TheVariants.{NotCommitted}
pub use Rattle.db_base.specs.declared.trouble.Trouble.{Trouble}
pub use Rattle.head_codec.specs.declared.lists.Pending.{Pending}
pub use Rattle.leaf_view.specs.Leaf.{Leaf}
pub use Rattle.log_codec.specs.declared.record.AtomicRec.{AtomicRec}
pub use Rattle.node_codec.specs.Tree.{Tree}
pub use Rattle.page_cache.specs.Cache.{Cache}
pub use Rattle.page_cache.specs.Held.{as_leaf, leaf_at}
pub use Rattle.recover_run.specs.declared.home.Home.{Home}
pub use Rattle.tree_walk.specs.Causes.{LinkShows}
pub use Rattle.tree_walk.specs.Walk.{IsAtLeaf, IsWalk, Walk, new_walk, object_of, sought, walk_ask, walk_next, walk_ready}
pub use Rattle.txn_buffer.specs.Noted.{Noted}
