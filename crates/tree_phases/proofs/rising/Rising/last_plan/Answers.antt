use Rattle.tree_phases.proofs.Held.{raised_level}
use Rattle.tree_phases.proofs.rising.Rising.last_plan.Goals as goal

pub root_plan-requires : goal.root_plan-requires
root_plan-requires c = raised_level c.tree_view-root.result c.as_slice.result.now c.top.result.now c.in-Ok.buf c.in-Ok.ensures
