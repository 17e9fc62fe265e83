use Rattle.std.proofs.Common.{◌≡◌, length}
use Rattle.tree_phases.specs.Root.{with_named}
use Rattle.tree_phases.proofs.root.add_links.Given as goal

abbrev pub invariant-loop-link : goal.invariant-loop-link
invariant-loop-link l = with_named l.level l.left l.buf ≡ with_named l.level l.links l.fn.buf

abbrev pub decreases-loop-link : goal.decreases-loop-link
decreases-loop-link l = length l.left
