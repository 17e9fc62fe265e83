use Rattle.std.proofs.Common.{◌≡◌, ◌≤◌, ◌++◌, ◌+◌, length}
use Rattle.std.specs.Prelude.{vec_len}
use Rattle.std.specs.Vec.{vec_capacity}
use Rattle.leaf_edit.specs.Merging.{AreRecords}
use Rattle.leaf_edit.specs.Sizes.{entries_size}
use Rattle.leaf_edit.specs.Spelled.{entries_bytes}
use Rattle.leaf_edit.proofs.merging.add_each.Given as goal

abbrev pub invariant-loop-key : goal.invariant-loop-key
invariant-loop-key l = record {
  records : AreRecords l.left;
  items : l.out.items ++ entries_bytes l.left ≡ l.initial.out.items ++ entries_bytes l.initial.left;
  room : vec_len l.out + entries_size l.left ≤ vec_capacity l.out;
  kept : vec_capacity l.out ≡ vec_capacity l.initial.out;
}

abbrev pub decreases-loop-key : goal.decreases-loop-key
decreases-loop-key l = length l.left
