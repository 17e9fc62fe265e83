use Rattle.std.proofs.Common.{subst}
use Rattle.node_codec.specs.Tree.{HasTreeSpelling}
use Rattle.node_codec.proofs.TreeLemmas.{fit_written}
use Rattle.node_codec.proofs.tree_buf.TreeBuf.len.Goals as goal

pub returns-clause-sound : goal.returns-clause-sound
returns-clause-sound c =
    let b = c.self.inside in
    subst HasTreeSpelling c.self.view_is (fit_written b.version b.next b.level b.cursor.items b.entries.items c.self.invariant)
