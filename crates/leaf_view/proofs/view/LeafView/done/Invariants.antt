use Rattle.std.proofs.Common.{◌≡◌, length}
use Rattle.leaf_view.specs.Lookup.{number_of}
use Rattle.leaf_view.proofs.view.LeafView.done.Given as goal

abbrev pub invariant-loop-item : goal.invariant-loop-item
invariant-loop-item l = number_of l.left l.queue l.client ≡ number_of l.self.done l.queue l.client

abbrev pub decreases-loop-item : goal.decreases-loop-item
decreases-loop-item l = length l.left
