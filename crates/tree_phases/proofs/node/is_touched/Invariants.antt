use Rattle.std.proofs.Common.{◌≡◌, length}
use Rattle.tree_phases.specs.Nodes.{is_touched}
use Rattle.tree_phases.proofs.node.is_touched.Given as goal

abbrev pub invariant-loop-link : goal.invariant-loop-link
invariant-loop-link l = is_touched l.node l.left ≡ is_touched l.node l.links

abbrev pub decreases-loop-link : goal.decreases-loop-link
decreases-loop-link l = length l.left
