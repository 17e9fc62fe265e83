use Rattle.std.proofs.Common.{◌≡◌, ◌++◌, length}
use Rattle.tree_phases.specs.Kept.{links_at}
use Rattle.tree_phases.proofs.link.add_links.Given as goal

abbrev pub invariant-loop-entry : goal.invariant-loop-entry
invariant-loop-entry l = l.links ++ links_at l.level l.left ≡ l.fn.links ++ links_at l.level l.entries

abbrev pub decreases-loop-entry : goal.decreases-loop-entry
decreases-loop-entry l = length l.left
