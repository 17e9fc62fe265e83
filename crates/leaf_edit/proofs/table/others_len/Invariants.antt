use Rattle.std.proofs.Common.{◌≡◌, ◌+◌, length}
use Rattle.std.specs.Prelude.{filter}
use Rattle.leaf_edit.specs.Sizes.{dones_size}
use Rattle.leaf_edit.specs.Spelled.{is_beside}
use Rattle.leaf_edit.proofs.table.others_len.Given as goal

abbrev pub invariant-loop-entry : goal.invariant-loop-entry
invariant-loop-entry l =
    l.sum + dones_size (filter (is_beside l.above l.queue) l.left) ≡ l.initial.sum + dones_size (filter (is_beside l.above l.queue) l.initial.left)

abbrev pub decreases-loop-entry : goal.decreases-loop-entry
decreases-loop-entry l = length l.left
