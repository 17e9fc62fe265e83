-- What holds of a store at every moment.
use Rattle.std.specs.Prelude.{ℕ, ◌≡◌, List, None}
use Rattle.cloud_trait.specs.State.{CloudState}
use Rattle.db_base.specs.Ids.{IsTree}
use Rattle.history.specs.Audited.{Audited}
use Rattle.history.specs.Fold.{fold, of_tree}
use Rattle.history.specs.Legal.{IsLegal}
use Rattle.leaf_view.specs.Fits.{Ascend}
use Rattle.leaf_view.specs.Leaf.{Leaf}
use Rattle.replay_meaning.specs.Chain.{AreLeaves, records_of}
use Rattle.replay_meaning.specs.Index.{Finds}
use Rattle.replay_meaning.specs.Right.{HoldsAll, stored_below, value_at}
use Rattle.report_types.specs.declared.entry.Entry.{Entry}
use Rattle.world_audit.specs.Counts.{heads_upto, AreWaiting}

-- no client's commit of the tree is open, and no message of its queues waits
pub record NothingWaits (s : CloudState) (tree : ℕ) (committed : List Entry) : Type 0 where
  pub heads : heads_upto s tree (of_tree tree committed) 64 ≡ 0
  pub messages : AreWaiting s tree 0

-- A tree is right for what was committed and applied: the order is a legal one of what was committed; the leaves lead from page 1 to the last, with
-- records in the order of their keys; the index finds for each key the record that they have, which is what the order comes to; and where nothing
-- waits the order holds all.
pub record IsRightTree (s : CloudState) (a : Audited) (tree : ℕ) : Type 0 where
  pub legal : IsLegal (of_tree tree a.order) (of_tree tree a.committed)
  pub leaves : List Leaf
  pub chain : AreLeaves s tree leaves
  pub ascending : Ascend stored_below None (records_of leaves)
  pub found : (key : List ℕ) → Finds s tree key (value_at key (records_of leaves))
  pub folded : (key : List ℕ) → value_at key (records_of leaves) ≡ fold a.order tree key
  pub complete : NothingWaits s tree a.committed → HoldsAll (of_tree tree a.order) (of_tree tree a.committed)

-- and so is each of the sixteen
abbrev pub IsRightAt : CloudState → Audited → Type 0
IsRightAt s a = (tree : ℕ) → IsTree tree → IsRightTree s a tree
