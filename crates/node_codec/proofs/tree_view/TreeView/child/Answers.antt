use Rattle.node_codec.specs.Node.{plain_entry}
use Rattle.node_codec.proofs.PlainLemmas.{list_from_whole}
use Rattle.node_codec.proofs.TreeLemmas.{tree_has_child}
use Rattle.node_codec.proofs.tree_view.TreeView.child.Goals as goal

pub child_in-requires-clause-listed : goal.child_in-requires-clause-listed
child_in-requires-clause-listed c = list_from_whole plain_entry c.self.inside.entries.now c.self.invariant.entry_list

pub child_in-requires-clause-there : goal.child_in-requires-clause-there
child_in-requires-clause-there c = tree_has_child c.self.inside.next c.self.inside.level c.self.inside.cursor.now c.self.inside.entries.now c.args.key.now c.self.invariant
