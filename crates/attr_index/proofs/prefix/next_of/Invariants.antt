use Rattle.std.proofs.Common.{◌≡◌, length}
use Rattle.attr_index.specs.Prefix.{next_of}
use Rattle.attr_index.proofs.prefix.next_of.Given as goal

abbrev pub invariant-loop-last : goal.invariant-loop-last
invariant-loop-last l = next_of l.front ≡ next_of l.prefix

abbrev pub decreases-loop-last : goal.decreases-loop-last
decreases-loop-last l = length l.front
