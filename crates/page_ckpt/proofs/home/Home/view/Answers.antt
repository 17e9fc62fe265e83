use Rattle.std.proofs.Common.{sym, ◌∙◌}
use Rattle.leaf_edit.specs.Buffer.{leaf_in}
use Rattle.leaf_edit.proofs.Spelled.{leaf_in_is}
use Rattle.page_ckpt.proofs.home.Home.view.Goals as goal

pub known-requires : goal.known-requires
known-requires c = (leaf_in c.self.inside.bytes, rw c.as_slice.ensures c.self.invariant)

pub returns : goal.returns
returns c =
    let is = rw c.as_slice.ensures at c.known.ensures in
    sym (leaf_in_is c.self.inside.bytes c.known.result is) ∙ c.self.view_is
