use Rattle.std.proofs.Common.{◌≡◌, ◌+◌, ◌≤◌}
use Rattle.std.specs.Prelude.{slice_index}
use Rattle.leaf_edit.specs.Raised.{own_entries}
use Rattle.leaf_edit.specs.Sizes.{dones_size}
use Rattle.leaf_edit.proofs.table.own_len.Given as goal

abbrev pub invariant-loop-left : goal.invariant-loop-left
invariant-loop-left l = record {
  most : l.left ≤ 64;
  sum : l.sum + dones_size (own_entries l.queue (λ client. slice_index l.numbers client) l.left)
      ≡ l.initial.sum + dones_size (own_entries l.queue (λ client. slice_index l.numbers client) 64);
}

abbrev pub decreases-loop-left : goal.decreases-loop-left
decreases-loop-left l = l.left
