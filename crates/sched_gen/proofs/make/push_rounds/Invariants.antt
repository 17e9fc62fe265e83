use Rattle.std.proofs.Common.{◌≡◌, ◌+◌, ◌-◌, ◌++◌}
use Rattle.sched_gen.specs.Schedule.{rounds}
use Rattle.sched_gen.proofs.make.push_rounds.Given as goal

abbrev pub invariant-loop-round : goal.invariant-loop-round
invariant-loop-round l = l.events.items ++ rounds (l.count + 1 - l.round) l.round l.draws ≡ l.fn.events.items ++ rounds l.count 1 l.number
