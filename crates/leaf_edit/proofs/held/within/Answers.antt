use Rattle.leaf_edit.proofs.InOrder.{Rises-sorted}
use Rattle.leaf_edit.proofs.held.within.Goals as goal

pub held-requires : goal.held-requires
held-requires c = Rises-sorted c.args.run.now c.requires.sorted
