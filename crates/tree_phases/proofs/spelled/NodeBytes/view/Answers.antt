use Rattle.std.proofs.Common.{◌≡◌, ℕ, List, Ok, sym, subst}
use Rattle.tree_phases.specs.Read.{inner_read}
use Rattle.tree_phases.proofs.Reading.{inner_is}
use Rattle.tree_phases.proofs.spelled.NodeBytes.view.Goals as goal

pub known-requires : goal.known-requires
known-requires c = rw c.as_slice.ensures c.self.invariant

pub returns : goal.returns
returns c = λ tree page.
    let is = rw c.as_slice.ensures at c.known.ensures in
    let P : List ℕ → Type 0 = λ bytes. inner_read tree page bytes ≡ Ok c.known.result in
    subst P c.self.view_is (sym (inner_is tree page c.self.inside.bytes c.known.result is))
