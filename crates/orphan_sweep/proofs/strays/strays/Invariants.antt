use Rattle.std.proofs.Common.{◌≡◌, ◌++◌, length}
use Rattle.orphan_sweep.specs.Sweeping.{strays}
use Rattle.orphan_sweep.proofs.strays.strays.Given as goal

abbrev pub invariant-loop-page : goal.invariant-loop-page
invariant-loop-page l = l.pages.items ++ strays l.visited l.left ≡ strays l.visited l.listed

abbrev pub decreases-loop-page : goal.decreases-loop-page
decreases-loop-page l = length l.left
