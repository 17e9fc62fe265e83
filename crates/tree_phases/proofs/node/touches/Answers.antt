use Rattle.std.proofs.Common.{sym, ap, ◌∙◌}
use Rattle.tree_phases.specs.Nodes.{touched_by}
use Rattle.tree_phases.proofs.node.touches.Goals as goal

pub returns : goal.returns
returns c = c.is_touched.ensures ∙ sym (ap (touched_by c.args.links.now) (c.view.ensures c.args.tree c.args.kept.now.page))
