use Rattle.leaf_edit.proofs.InOrder.{Rises-sorted}
use Rattle.leaf_edit.proofs.merging.merge.Goals as goal

pub of-changes-requires-clause-rise : goal.of-changes-requires-clause-rise
of-changes-requires-clause-rise c = Rises-sorted c.args.run.now c.requires.ordered.sorted
