use Rattle.std.proofs.Common.{◌≡◌, ◌+◌, length}
use Rattle.leaf_edit.specs.Merging.{AreRecords}
use Rattle.leaf_edit.specs.Sizes.{entries_size}
use Rattle.leaf_edit.proofs.merging.each_len.Given as goal

abbrev pub invariant-loop-key : goal.invariant-loop-key
invariant-loop-key l = record {
  records : AreRecords l.left;
  sum : l.sum + entries_size l.left ≡ l.initial.sum + entries_size l.initial.left;
}

abbrev pub decreases-loop-key : goal.decreases-loop-key
decreases-loop-key l = length l.left
