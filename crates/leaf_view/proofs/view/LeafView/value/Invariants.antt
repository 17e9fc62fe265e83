use Rattle.std.proofs.Common.{◌≡◌, length}
use Rattle.leaf_view.specs.Lookup.{value_of}
use Rattle.leaf_view.proofs.view.LeafView.value.Given as goal

abbrev pub invariant-loop-found : goal.invariant-loop-found
invariant-loop-found l = value_of l.key l.left ≡ value_of l.key l.self.records

abbrev pub decreases-loop-found : goal.decreases-loop-found
decreases-loop-found l = length l.left
