use Rattle.std.proofs.Common.{length}
use Rattle.split_plan.specs.Part.{part_of_leaf, record_key}
use Rattle.split_plan.specs.Plan.{leaf_bytes, IsLeafPart}
use Rattle.split_plan.proofs.Underway.{IsUnderway}
use Rattle.split_plan.proofs.leaf.cut.Given as goal

abbrev pub invariant-pieces : goal.invariant-pieces
invariant-pieces l =
    IsUnderway record_key leaf_bytes IsLeafPart l.fn.page l.fn.first_free (part_of_leaf l.initial.rest) l.plan.puts l.plan.entries l.sizes l.at l.free (part_of_leaf l.rest)

abbrev pub decreases-pieces : goal.decreases-pieces
decreases-pieces l = length l.sizes
