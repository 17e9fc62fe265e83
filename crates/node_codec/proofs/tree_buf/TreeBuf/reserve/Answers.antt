use Rattle.std.proofs.Common.{◌+◌, arith}
use Rattle.node_codec.proofs.TreeLemmas.{parts_reserved}
use Rattle.node_codec.proofs.tree_buf.TreeBuf.reserve.Goals as goal

pub invariant_of-self : goal.invariant_of-self
invariant_of-self c =
    let b = c.self.inside in
    parts_reserved b.version b.next b.level (b.next + c.args.count) b.cursor.items b.entries.items c.self.invariant (omega arith) (omega arith)
