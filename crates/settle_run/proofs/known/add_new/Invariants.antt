use Rattle.std.proofs.Common.{◌≡◌, ◌++◌, length}
use Rattle.std.specs.Prelude.{◌||◌}
use Rattle.recover_run.specs.Ids.{new_ids, has_some}
use Rattle.settle_run.proofs.known.add_new.Given as goal

abbrev pub invariant-loop-id : goal.invariant-loop-id
invariant-loop-id l =
    (l.known.items ++ new_ids l.known.items l.left ≡ l.initial.known.items ++ new_ids l.initial.known.items l.ids)
    × ((l.some || has_some (new_ids l.known.items l.left)) ≡ has_some (new_ids l.initial.known.items l.ids))

abbrev pub decreases-loop-id : goal.decreases-loop-id
decreases-loop-id l = length l.left
