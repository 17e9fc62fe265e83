use Rattle.std.proofs.Common.{◌-◌, length}
use Rattle.route_plan.proofs.Indexes.{IsBuilt}
use Rattle.route_plan.proofs.slots.SlotTable.of.Given as goal

abbrev pub invariant-loop-entry : goal.invariant-loop-entry
invariant-loop-entry l = IsBuilt l.pending l.newest.items l.before.items

abbrev pub decreases-loop-entry : goal.decreases-loop-entry
decreases-loop-entry l = length l.pending - length l.before.items
