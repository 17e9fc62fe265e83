use Rattle.node_codec.specs.Node.{plain_number}
use Rattle.node_codec.proofs.PlainLemmas.{list_from_whole}
use Rattle.node_codec.proofs.tree_buf.TreeBuf.raise.Goals as goal

pub raised_numbers-requires : goal.raised_numbers-requires
raised_numbers-requires c = rw c.as_slice-numbers.ensures.value (list_from_whole plain_number c.self.inside.cursor.items c.self.invariant.parts.cursor_list)
