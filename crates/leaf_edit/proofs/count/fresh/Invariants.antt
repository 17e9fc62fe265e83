use Rattle.std.proofs.Common.{◌≡◌, ◌+◌, ◌≤◌, length}
use Rattle.leaf_edit.specs.Lacked.{lacked}
use Rattle.leaf_edit.proofs.count.fresh.Given as goal

abbrev pub invariant-loop-x : goal.invariant-loop-x
invariant-loop-x l = record {
  counted : l.count + length (lacked l.leaf l.queue l.left) ≡ length (lacked l.leaf l.queue l.run);
  few : l.count + length l.left ≤ length l.run;
}

abbrev pub decreases-loop-x : goal.decreases-loop-x
decreases-loop-x l = length l.left
