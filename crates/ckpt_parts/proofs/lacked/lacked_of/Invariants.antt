use Rattle.std.proofs.Common.{◌≡◌, ◌++◌, length}
use Rattle.std.specs.Prelude.{filter}
use Rattle.leaf_edit.specs.Lacked.{is_lacked, lacked}
use Rattle.ckpt_parts.proofs.lacked.lacked_of.Given as goal

abbrev pub invariant-loop-item : goal.invariant-loop-item
invariant-loop-item l = l.items.items ++ filter (is_lacked l.leaf l.queue) l.left ≡ lacked l.leaf l.queue l.run

abbrev pub decreases-loop-item : goal.decreases-loop-item
decreases-loop-item l = length l.left
