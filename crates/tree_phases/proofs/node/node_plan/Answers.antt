use Rattle.std.proofs.Common.{Result, sym, subst}
use Rattle.db_base.specs.declared.trouble.Trouble.{Trouble}
use Rattle.node_codec.specs.Inner.{Inner}
use Rattle.tree_phases.specs.Going.{Finds}
use Rattle.tree_phases.specs.Nodes.{linked_by, planned_of}
use Rattle.tree_phases.proofs.node.node_plan.Goals as goal

pub returns : goal.returns
returns c = λ tree.
    let P : Result Inner Trouble → Type 0 = λ read.
    Finds c.linked_plan.result (planned_of c.args.root.now c.args.kept.now.page (linked_by c.args.links.now read)) in
    subst P (sym (c.view.ensures tree c.args.kept.now.page)) c.linked_plan.ensures
