use Rattle.std.proofs.Common.{◌≡◌, ℕ, List, Some, ap, subst, ◌∙◌}
use Rattle.node_codec.specs.Tree.{Tree}
use Rattle.tree_phases.specs.Going.{Finds}
use Rattle.tree_phases.specs.Read.{tree_held}
use Rattle.tree_phases.specs.Reserve.{next_tree}
use Rattle.tree_phases.proofs.Held.{held_spelled}
use Rattle.tree_phases.proofs.root.again.Goals as goal

pub returns-in-Ok : goal.returns-in-Ok
returns-in-Ok c =
    let same : c.view.result ≡ c.args.buf.now =
    c.view.ensures ∙ ap (λ (b : List ℕ). tree_held (Some b)) c.in-Ok.ensures ∙ held_spelled c.args.buf.now c.len-entries.ensures.sound in
    subst (λ (t : Tree). Finds c.next_tree.result (next_tree t)) same c.next_tree.ensures
