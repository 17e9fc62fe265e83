use Rattle.std.proofs.Common.{◌≡◌, ◌++◌, length}
use Rattle.recover_run.specs.Ids.{new_ids}
use Rattle.recover_run.proofs.ids.IdSet.add_all.Given as goal

abbrev pub invariant-loop-id : goal.invariant-loop-id
invariant-loop-id l =
    (l.fresh.items ++ new_ids l.self l.left ≡ new_ids l.initial.self l.ids)
    × (l.self ++ new_ids l.self l.left ≡ l.initial.self ++ new_ids l.initial.self l.ids)

abbrev pub decreases-loop-id : goal.decreases-loop-id
decreases-loop-id l = length l.left
