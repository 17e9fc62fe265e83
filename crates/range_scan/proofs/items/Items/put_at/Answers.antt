use Rattle.std.proofs.Common.{ap, map, ◌∙◌}
use Rattle.leaf_view.specs.Shown.{valued}
use Rattle.range_scan.proofs.Placing.{placed}
use Rattle.range_scan.proofs.items.Items.put_at.Goals as goal

pub returns : goal.returns
returns c = ap (map valued) c.in_ok-insert.ensures.items ∙ placed c.self.inside.pairs.items c.args.self.now c.args.place (c.args.key, c.args.value) c.self.view_is
