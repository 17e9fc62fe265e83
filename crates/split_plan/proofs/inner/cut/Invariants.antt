use Rattle.std.proofs.Common.{length}
use Rattle.split_plan.specs.Part.{part_of_node, entry_key}
use Rattle.split_plan.specs.Plan.{node_bytes, IsNodePart}
use Rattle.split_plan.proofs.Underway.{IsUnderway}
use Rattle.split_plan.proofs.inner.cut.Given as goal

abbrev pub invariant-pieces : goal.invariant-pieces
invariant-pieces l =
    IsUnderway entry_key node_bytes IsNodePart l.fn.page l.fn.first_free (part_of_node l.initial.rest) l.plan.puts l.plan.entries l.sizes l.at l.free (part_of_node l.rest)

abbrev pub decreases-pieces : goal.decreases-pieces
decreases-pieces l = length l.sizes
