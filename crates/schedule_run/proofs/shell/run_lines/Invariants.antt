use Rattle.std.proofs.Common.{◌≡◌, length}
use Rattle.schedule_run.specs.Outside.{effects}
use Rattle.schedule_run.specs.Shell.{HasRunLines}
use Rattle.schedule_run.proofs.shell.run_lines.Given as goal

-- the lines so far stand before the rest and were run; no write has failed
abbrev pub invariant-loop-rest : goal.invariant-loop-rest
invariant-loop-rest g l = record {
  at : HasRunLines l.fn.client l.fn.input l.rest l.n (effects (g.O.Sink.told l.fn.sink) (g.C.Cloud.seen l.fn.cloud)) (effects (g.O.Sink.told l.sink) (g.C.Cloud.seen l.cloud), l.play);
  faults : (g.O.Sink.told l.sink).faults ≡ (g.O.Sink.told l.fn.sink).faults;
}

abbrev pub decreases-loop-rest : goal.decreases-loop-rest
decreases-loop-rest g l = length l.rest
