use Rattle.std.proofs.Common.{◌≡◌}
use Rattle.route_plan.proofs.Counters.{GoesBehind}
use Rattle.route_plan.proofs.heads.put_counter.Given as goal

abbrev pub invariant-loop-i : goal.invariant-loop-i
invariant-loop-i l = GoesBehind l.counters.items l.counter l.i × (l.counters.items ≡ l.initial.counters.items)
