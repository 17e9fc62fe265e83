use Rattle.std.proofs.Common.{◌≡◌, ◌+◌, length}
use Rattle.leaf_edit.specs.Edited.{edited_by}
use Rattle.leaf_edit.specs.Merging.{AreChanges, AreRecords}
use Rattle.leaf_edit.specs.Sizes.{entries_size}
use Rattle.leaf_edit.proofs.merging.records_len.Given as goal

abbrev pub invariant-loop-x : goal.invariant-loop-x
invariant-loop-x l = record {
  records : AreRecords l.left;
  changes : AreChanges l.coming;
  sum : l.sum + entries_size (edited_by l.left l.coming) ≡ l.initial.sum + entries_size (edited_by l.initial.left l.initial.coming);
}

abbrev pub decreases-loop-x : goal.decreases-loop-x
decreases-loop-x l = length l.left + length l.coming
