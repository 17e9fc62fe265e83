use Rattle.std.proofs.Common.{◌≡◌, ℕ, length}
use Rattle.std.specs.Prelude.{slice_index}
use Rattle.std.specs.List.{AllByRecursion}
use Rattle.leaf_view.specs.Fits.{IsDone}
use Rattle.leaf_view.specs.Lookup.{number_of, or_else}
use Rattle.leaf_view.proofs.view.LeafView.numbers.Given as goal

abbrev pub invariant-loop-item : goal.invariant-loop-item
invariant-loop-item l = record {
  noted : (client : ℕ) → or_else (slice_index l.numbers client) (number_of l.left l.queue client) ≡ number_of l.self.done l.queue client;
  entries : AllByRecursion IsDone l.left;
}

abbrev pub decreases-loop-item : goal.decreases-loop-item
decreases-loop-item l = length l.left
