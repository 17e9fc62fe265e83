use Rattle.std.proofs.Common.{◌≡◌}
use Rattle.tree_walk.specs.Walk.{goes_through, goes_on}
use Rattle.tree_walk.proofs.walk.Walk.go_on.Given as goal

abbrev pub invariant-loop-left : goal.invariant-loop-left
invariant-loop-left l = goes_through l.cache l.left l.self ≡ goes_on l.cache l.fn.self

abbrev pub decreases-loop-left : goal.decreases-loop-left
decreases-loop-left l = l.left
