use Rattle.std.proofs.Common.{◌≡◌, ◌+◌, length}
use Rattle.tree_phases.specs.Kept.{place_of}
use Rattle.tree_phases.proofs.kept.place_of.Given as goal

abbrev pub invariant-loop-other : goal.invariant-loop-other
invariant-loop-other l = record {
  place : l.place + place_of l.node l.left ≡ place_of l.node l.nodes;
  within : l.place + length l.left ≡ length l.nodes;
}

abbrev pub decreases-loop-other : goal.decreases-loop-other
decreases-loop-other l = length l.left
