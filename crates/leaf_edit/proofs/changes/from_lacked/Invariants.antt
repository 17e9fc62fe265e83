use Rattle.std.proofs.Common.{◌≡◌, length}
use Rattle.leaf_edit.specs.Lacked.{lacked, AllHeld}
use Rattle.leaf_edit.proofs.changes.from_lacked.Given as goal

abbrev pub invariant-loop-x : goal.invariant-loop-x
invariant-loop-x l = record {
  same : lacked l.leaf l.queue l.left ≡ lacked l.leaf l.queue l.items;
  held : AllHeld l.leaf l.left;
}

abbrev pub decreases-loop-x : goal.decreases-loop-x
decreases-loop-x l = length l.left
