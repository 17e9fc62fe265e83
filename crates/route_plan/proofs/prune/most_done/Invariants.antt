use Rattle.std.proofs.Common.{length}
use Rattle.route_plan.proofs.Pruning.{AreMostBefore}
use Rattle.route_plan.proofs.prune.most_done.Given as goal

abbrev pub invariant-loop-item : goal.invariant-loop-item
invariant-loop-item l = AreMostBefore l.view.done l.left l.client l.most

abbrev pub decreases-loop-item : goal.decreases-loop-item
decreases-loop-item l = length l.left
