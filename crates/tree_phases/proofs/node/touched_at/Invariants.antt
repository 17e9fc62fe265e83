use Rattle.std.proofs.Common.{◌≡◌, ◌+◌, length}
use Rattle.tree_phases.specs.Nodes.{touched_at}
use Rattle.tree_phases.proofs.node.touched_at.Given as goal

abbrev pub invariant-loop-kept : goal.invariant-loop-kept
invariant-loop-kept l = record {
  place : l.place + touched_at l.tree l.links l.left ≡ touched_at l.tree l.links l.nodes;
  within : l.place + length l.left ≡ length l.nodes;
}

abbrev pub decreases-loop-kept : goal.decreases-loop-kept
decreases-loop-kept l = length l.left
