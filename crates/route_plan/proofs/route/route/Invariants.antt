use Rattle.std.proofs.Common.{◌≡◌, ◌+◌, length, ◌-◌}
use Rattle.std.specs.Option.{IfSome}
use Rattle.route_plan.specs.Route.{next_number}
use Rattle.route_plan.proofs.Routes.{IsRoutedSoFar}
use Rattle.route_plan.proofs.route.route.Given as goal

abbrev pub invariant-loop-noted : goal.invariant-loop-noted
invariant-loop-noted l = record {
  so_far : IsRoutedSoFar l.commit.client l.commit.epoch l.commit.txn l.commit.count l.head l.changes l.leaves l.records.items;
  newest : IfSome l.newest (λ n. next_number l.head l.records.items n.tree n.page ≡ n.number + 1);
}

abbrev pub decreases-loop-noted : goal.decreases-loop-noted
decreases-loop-noted l = length l.changes - length l.records.items
