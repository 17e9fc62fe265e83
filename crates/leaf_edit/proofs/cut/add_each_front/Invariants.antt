use Rattle.std.proofs.Common.{◌≡◌, ◌++◌, take}
use Rattle.leaf_edit.specs.Merging.{AreRecords}
use Rattle.leaf_edit.specs.Spelled.{entries_bytes}
use Rattle.leaf_edit.proofs.cut.add_each_front.Given as goal

abbrev pub invariant-loop-key : goal.invariant-loop-key
invariant-loop-key l =
    AreRecords l.left
    × (l.out.items ++ entries_bytes (take l.more l.left) ≡ l.initial.out.items ++ entries_bytes (take l.initial.more l.initial.left))

abbrev pub decreases-loop-key : goal.decreases-loop-key
decreases-loop-key l = l.more
