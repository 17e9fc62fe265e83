use Rattle.std.proofs.Common.{◌≡◌, ◌+◌, ◌≤◌, ◌++◌, []}
use Rattle.std.specs.Prelude.{slice_index, vec_len}
use Rattle.std.specs.Vec.{vec_capacity}
use Rattle.leaf_edit.specs.Raised.{own_entries}
use Rattle.leaf_edit.specs.Sizes.{dones_size}
use Rattle.leaf_edit.specs.Spelled.{dones_before}
use Rattle.leaf_edit.proofs.table.add_own.Given as goal

abbrev pub invariant-loop-left : goal.invariant-loop-left
invariant-loop-left l = record {
  most : l.left ≤ 64;
  items : l.out.items ++ dones_before (own_entries l.queue (λ client. slice_index l.numbers client) l.left) []
      ≡ l.initial.out.items ++ dones_before (own_entries l.queue (λ client. slice_index l.numbers client) 64) [];
  room : vec_len l.out + dones_size (own_entries l.queue (λ client. slice_index l.numbers client) l.left) ≤ vec_capacity l.out;
  kept : vec_capacity l.out ≡ vec_capacity l.initial.out;
}

abbrev pub decreases-loop-left : goal.decreases-loop-left
decreases-loop-left l = l.left
