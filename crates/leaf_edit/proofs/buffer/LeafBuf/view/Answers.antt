use Rattle.std.proofs.Common.{◌≡◌, sym, ◌∙◌, subst}
use Rattle.leaf_view.specs.Fits.{IsVersion}
use Rattle.leaf_view.specs.Leaf.{Leaf}
use Rattle.leaf_view.proofs.Split.{leaf_fits}
use Rattle.leaf_edit.specs.Buffer.{leaf_in}
use Rattle.leaf_edit.proofs.Spelled.{leaf_in_is}
use Rattle.leaf_edit.proofs.buffer.LeafBuf.view.Goals as goal

pub known-requires : goal.known-requires
known-requires c = (leaf_in c.self.inside.bytes.items, rw c.deref.ensures.value c.self.invariant.written.spelled)

pub returns-clause-view : goal.returns-clause-view
returns-clause-view c =
    let is = rw c.deref.ensures.value at c.known.ensures in
    sym (leaf_in_is c.self.inside.bytes.items c.known.result is) ∙ c.self.view_is

pub returns-clause-format : goal.returns-clause-format
returns-clause-format c =
    let P : Leaf → Type 0 = λ l. l.format ≡ 2 in
    subst P c.self.view_is c.self.invariant.written.format

pub returns-clause-version : goal.returns-clause-version
returns-clause-version c =
    let P : Leaf → Type 0 = λ l. IsVersion l.version in
    subst P c.self.view_is (leaf_fits _ c.self.invariant.written.spelled.fits).0
