use Rattle.tree_phases.proofs.Going.{rise_some, rise_none}
use Rattle.tree_phases.proofs.rising.Rising.rise.Goals as goal

pub returns-in-Some : goal.returns-in-Some
returns-in-Some c = rise_some c.args.self.now c.put_node.new.self c.put_node.result _ _ _ c.in-Some.ensures c.put_node.ensures

pub returns-in-None : goal.returns-in-None
returns-in-None c = rise_none c.args.self.now c.finish.new.self c.finish.result c.in-None.ensures c.finish.ensures
