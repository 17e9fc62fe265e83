use Rattle.std.proofs.Common.{◌≡◌, length}
use Rattle.tree_phases.specs.Nodes.{with_links}
use Rattle.tree_phases.proofs.node.add_links.Given as goal

abbrev pub invariant-loop-link : goal.invariant-loop-link
invariant-loop-link l = record {
  all : record l.buf { entries = with_links l.node l.left l.buf.entries } ≡ record l.fn.buf { entries = with_links l.node l.links l.fn.buf.entries };
  low : l.buf.low ≡ l.node.low;
  high : l.buf.high ≡ l.node.high;
}

abbrev pub decreases-loop-link : goal.decreases-loop-link
decreases-loop-link l = length l.left
