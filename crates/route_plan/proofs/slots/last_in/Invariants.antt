use Rattle.route_plan.proofs.Indexes.{IsWay}
use Rattle.route_plan.proofs.slots.last_in.Given as goal

abbrev pub invariant-loop-entry : goal.invariant-loop-entry
invariant-loop-entry l = IsWay l.pending l.tree l.key l.upto

abbrev pub decreases-loop-entry : goal.decreases-loop-entry
decreases-loop-entry l = l.upto
