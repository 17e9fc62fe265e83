use Rattle.std.proofs.Common.{◌≡◌, length}
use Rattle.std.specs.Prelude.{filter}
use Rattle.route_plan.specs.Seen.{after_pending, is_lacked_by}
use Rattle.route_plan.proofs.seen.after_pending.Given as goal

abbrev pub invariant-loop-entry : goal.invariant-loop-entry
invariant-loop-entry l =
    after_pending l.value (filter (is_lacked_by l.view l.client l.tree l.key) l.left)
    ≡ after_pending l.initial.value (filter (is_lacked_by l.view l.client l.tree l.key) l.pending)

abbrev pub decreases-loop-entry : goal.decreases-loop-entry
decreases-loop-entry l = length l.left
