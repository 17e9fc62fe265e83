use Rattle.std.proofs.Common.{◌≡◌, length}
use Rattle.schedule_run.specs.Outside.{effects}
use Rattle.schedule_run.specs.Replayed.{HasHandledLines}
use Rattle.schedule_run.proofs.replay.go_on.Given as goal

-- the lines so far stand before the rest and were handled; no write has failed
abbrev pub invariant-loop-rest : goal.invariant-loop-rest
invariant-loop-rest g l = record {
  at : HasHandledLines l.fn.input l.rest l.n (effects (g.O.Sink.told l.fn.sink) (g.C.Cloud.seen l.fn.cloud), l.fn.world) (effects (g.O.Sink.told l.sink) (g.C.Cloud.seen l.cloud), l.world);
  faults : (g.O.Sink.told l.sink).faults ≡ (g.O.Sink.told l.fn.sink).faults;
}

abbrev pub decreases-loop-rest : goal.decreases-loop-rest
decreases-loop-rest g l = length l.rest
