use Rattle.leaf_edit.proofs.InOrder.{Rises-sorted}
use Rattle.leaf_edit.proofs.held.parted_at.Goals as goal

pub parted-requires : goal.parted-requires
parted-requires c = Rises-sorted c.args.run.now c.requires.sorted
