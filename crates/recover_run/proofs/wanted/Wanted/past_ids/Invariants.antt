use Rattle.std.proofs.Common.{◌≡◌, ◌++◌, length}
use Rattle.recover_run.specs.Gathering.{past_ids}
use Rattle.recover_run.proofs.wanted.Wanted.past_ids.Given as goal

abbrev pub invariant-loop-item : goal.invariant-loop-item
invariant-loop-item l = l.ids.items ++ past_ids l.self l.left ≡ past_ids l.self l.items

abbrev pub decreases-loop-item : goal.decreases-loop-item
decreases-loop-item l = length l.left
