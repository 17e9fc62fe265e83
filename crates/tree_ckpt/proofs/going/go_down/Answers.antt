use Rattle.std.proofs.Common.{subst, ap, ◌∙◌}
use Rattle.node_codec.specs.Node.{Entry}
use Rattle.tree_phases.specs.Going.{Went}
use Rattle.tree_phases.specs.declared.descent.Descent.{Descent}
use Rattle.tree_phases.specs.Descent.{arrive, begun}
use Rattle.tree_ckpt.proofs.going.go_down.Goals as goal

pub returns-in-Ok : goal.returns-in-Ok
returns-in-Ok c =
    let from = c.begin-descent.ensures ∙ ap (λ (e : Entry). begun c.args.chart e.0 e.1) c.in-Ok.ensures in
    c.descend.ensures _ (subst (λ (d : Descent). Went (arrive d) c.arrive-pace.new.self c.arrive-pace.result) from c.arrive-pace.ensures)
