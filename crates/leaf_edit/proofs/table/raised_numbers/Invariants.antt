use Rattle.std.proofs.Common.{◌≡◌, ℕ, length, max}
use Rattle.std.specs.Prelude.{slice_index}
use Rattle.leaf_edit.specs.Raised.{greatest_of, raised_number}
use Rattle.leaf_edit.proofs.table.raised_numbers.Given as goal

abbrev pub invariant-loop-x : goal.invariant-loop-x
invariant-loop-x l =
    (client : ℕ) → max (slice_index l.numbers client) (greatest_of l.left client) ≡ raised_number l.leaf.done l.queue l.run client

abbrev pub decreases-loop-x : goal.decreases-loop-x
decreases-loop-x l = length l.left
