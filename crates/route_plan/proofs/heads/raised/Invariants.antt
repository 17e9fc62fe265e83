use Rattle.std.proofs.Common.{◌≡◌, length}
use Rattle.route_plan.specs.Heads.{raised_by}
use Rattle.route_plan.proofs.heads.raised.Given as goal

abbrev pub invariant-loop-r : goal.invariant-loop-r
invariant-loop-r l = raised_by l.all.items l.left ≡ raised_by l.counters l.records

abbrev pub decreases-loop-r : goal.decreases-loop-r
decreases-loop-r l = length l.left
