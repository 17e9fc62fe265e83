use Rattle.std.proofs.Common.{◌≡◌, ◌+◌, length}
use Rattle.load_plan.specs.Events.{records_of}
use Rattle.load_plan.proofs.insert.count_records.Given as goal

-- the records of the trees so far are counted
abbrev pub invariant-loop-tree : goal.invariant-loop-tree
invariant-loop-tree l = l.count + length (records_of l.left) ≡ length (records_of l.dump.trees)

abbrev pub decreases-loop-tree : goal.decreases-loop-tree
decreases-loop-tree l = length l.left
