use Rattle.std.proofs.Common.{◌≡◌, ◌+◌, ◌≤◌, ◌++◌, [], length}
use Rattle.std.specs.Prelude.{filter, vec_len}
use Rattle.std.specs.Vec.{vec_capacity}
use Rattle.leaf_edit.specs.Sizes.{dones_size}
use Rattle.leaf_edit.specs.Spelled.{dones_before, is_beside}
use Rattle.leaf_edit.proofs.table.add_others.Given as goal

abbrev pub invariant-loop-entry : goal.invariant-loop-entry
invariant-loop-entry l = record {
  items : l.out.items ++ dones_before (filter (is_beside l.above l.queue) l.left) []
      ≡ l.initial.out.items ++ dones_before (filter (is_beside l.above l.queue) l.initial.left) [];
  room : vec_len l.out + dones_size (filter (is_beside l.above l.queue) l.left) ≤ vec_capacity l.out;
  kept : vec_capacity l.out ≡ vec_capacity l.initial.out;
}

abbrev pub decreases-loop-entry : goal.decreases-loop-entry
decreases-loop-entry l = length l.left
