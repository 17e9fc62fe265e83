use Rattle.std.proofs.Common.{◌≡◌, ◌++◌, length}
use Rattle.recover_run.specs.Gathering.{lost_ids}
use Rattle.recover_run.proofs.wanted.Wanted.lost_ids.Given as goal

abbrev pub invariant-loop-item : goal.invariant-loop-item
invariant-loop-item l = l.ids.items ++ lost_ids l.self l.left ≡ lost_ids l.self l.items

abbrev pub decreases-loop-item : goal.decreases-loop-item
decreases-loop-item l = length l.left
