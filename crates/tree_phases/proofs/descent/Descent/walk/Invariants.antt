use Rattle.std.proofs.Common.{◌≡◌, length}
use Rattle.tree_phases.specs.Descent.{walk}
use Rattle.tree_phases.proofs.descent.Descent.walk.Given as goal

abbrev pub invariant-strides : goal.invariant-strides
invariant-strides l = walk l.left l.self ≡ walk (length l.fn.self.chart.nodes) l.fn.self

abbrev pub decreases-strides : goal.decreases-strides
decreases-strides l = l.left
