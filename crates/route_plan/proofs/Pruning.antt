-- What is known of a leaf's table while it is looked through.
use Rattle.std.proofs.Common.{◌≡◌, ℕ, ◌≤◌, ◌%◌, List, ◌⊎◌}
use Rattle.std.specs.Prelude.{slice_index}
use Rattle.leaf_view.specs.declared.done.Done.{Done}
use Rattle.leaf_view.specs.Lookup.{number_of}

-- the number of a queue is not above that of its class, or the queue stands in what is left as it does in all
abbrev pub AreMostBefore : List Done → List Done → ℕ → List ℕ → Type 0
AreMostBefore all left client most = (queue : ℕ) → (number_of all queue client ≤ slice_index most (queue % 64)) ⊎ (number_of all queue client ≡ number_of left queue client)
