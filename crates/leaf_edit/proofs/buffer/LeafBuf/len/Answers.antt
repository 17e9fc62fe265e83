use Rattle.std.proofs.Common.{length, ap, ◌∙◌}
use Rattle.leaf_view.specs.Leaf.{Leaf}
use Rattle.leaf_edit.proofs.buffer.LeafBuf.len.Goals as goal

pub returns : goal.returns
returns c = c.self.invariant.counted ∙ ap (λ (l : Leaf). length l.records) c.self.view_is
