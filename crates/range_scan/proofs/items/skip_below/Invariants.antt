use Rattle.std.proofs.Common.{◌≡◌, length}
use Rattle.range_scan.specs.Bounds.{from_on}
use Rattle.range_scan.proofs.items.skip_below.Given as goal

abbrev pub invariant-loop-found : goal.invariant-loop-found
invariant-loop-found l = from_on l.key l.left ≡ from_on l.key l.initial.left

abbrev pub decreases-loop-found : goal.decreases-loop-found
decreases-loop-found l = length l.left
