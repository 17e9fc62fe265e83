use Rattle.node_codec.specs.Node.{plain_number}
use Rattle.node_codec.specs.Tree.{tree_in}
use Rattle.node_codec.proofs.PlainLemmas.{list_from_whole}
use Rattle.node_codec.proofs.TreeLemmas.{tree_fits}
use Rattle.node_codec.proofs.tree_view.TreeView.copy_cursor.Goals as goal

pub cursor_of-requires-clause-listed : goal.cursor_of-requires-clause-listed
cursor_of-requires-clause-listed c = list_from_whole plain_number c.self.inside.cursor.now c.self.invariant.cursor_list

pub cursor_of-requires-clause-fits : goal.cursor_of-requires-clause-fits
cursor_of-requires-clause-fits c = let v = c.self.inside in (tree_fits (tree_in 1 v.next v.level v.cursor.now v.entries.now) c.self.invariant.fits).cursor
