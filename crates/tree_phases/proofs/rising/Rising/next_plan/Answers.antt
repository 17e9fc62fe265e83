use Rattle.std.proofs.Common.{refl, sym}
use Rattle.std.proofs.lemmas.Option.{slice_get_within}
use Rattle.tree_phases.proofs.Going.{found_some, found_none}
use Rattle.tree_phases.proofs.rising.Rising.next_plan.Goals as goal

pub returns-in-Some : goal.returns-in-Some
returns-in-Some c =
    let kept = c.in-Some.kept.now in
    let at = c.next_touched-at.result in
    found_some c.args.self.now at c.behind.result _ c.tree_view.result c.as_slice.result.now kept c.node_plan-plan.result
    c.next_touched-at.ensures c.in-Some.ensures (c.behind.ensures (slice_get_within c.args.self.now.chart.nodes at kept (sym c.in-Some.ensures)))
    refl c.tree_view.ensures c.as_slice.ensures (c.node_plan-plan.ensures c.args.self.now.chart.tree)

pub returns-in-None : goal.returns-in-None
returns-in-None c = found_none c.args.self.now c.next_touched-at.result c.next_touched-at.ensures c.in-None.ensures
