use Rattle.std.proofs.Common.{ℕ, List, Some, ap, ◌∙◌}
use Rattle.tree_phases.specs.Read.{tree_held}
use Rattle.tree_phases.proofs.Reading.{tree_is}
use Rattle.tree_phases.proofs.spelled.TreeBytes.view.Goals as goal

pub known-requires : goal.known-requires
known-requires c = rw c.as_slice.ensures c.self.invariant

pub returns : goal.returns
returns c =
    let is = rw c.as_slice.ensures at c.known.ensures in
    tree_is c.self.inside.bytes c.known.result is ∙ ap (λ (b : List ℕ). tree_held (Some b)) c.self.view_is
