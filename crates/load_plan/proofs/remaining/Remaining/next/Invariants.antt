use Rattle.std.proofs.Common.{◌≡◌, ◌++◌, length}
use Rattle.load_plan.specs.Events.{placed_in, records_of}
use Rattle.load_plan.proofs.remaining.Remaining.next.Given as goal

-- the same records remain
abbrev pub invariant-loop-self : goal.invariant-loop-self
invariant-loop-self l = placed_in l.self-inside.tree l.self-inside.records.now ++ records_of l.self-inside.trees.now ≡ l.fn.self

abbrev pub decreases-loop-self : goal.decreases-loop-self
decreases-loop-self l = length l.self-inside.trees.now
