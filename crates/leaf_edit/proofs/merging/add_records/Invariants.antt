use Rattle.std.proofs.Common.{◌≡◌, ◌≤◌, ◌++◌, ◌+◌, length}
use Rattle.std.specs.Prelude.{vec_len}
use Rattle.std.specs.Vec.{vec_capacity}
use Rattle.leaf_edit.specs.Edited.{edited_by}
use Rattle.leaf_edit.specs.Merging.{AreChanges, AreRecords}
use Rattle.leaf_edit.specs.Sizes.{entries_size}
use Rattle.leaf_edit.specs.Spelled.{entries_bytes}
use Rattle.leaf_edit.proofs.merging.add_records.Given as goal

abbrev pub invariant-loop-x : goal.invariant-loop-x
invariant-loop-x l = record {
  records : AreRecords l.left;
  changes : AreChanges l.coming;
  items : l.out.items ++ entries_bytes (edited_by l.left l.coming)
      ≡ l.initial.out.items ++ entries_bytes (edited_by l.initial.left l.initial.coming);
  room : vec_len l.out + entries_size (edited_by l.left l.coming) ≤ vec_capacity l.out;
  kept : vec_capacity l.out ≡ vec_capacity l.initial.out;
}

abbrev pub decreases-loop-x : goal.decreases-loop-x
decreases-loop-x l = length l.left + length l.coming
