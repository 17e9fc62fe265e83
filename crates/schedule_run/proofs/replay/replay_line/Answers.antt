use Rattle.schedule_run.specs.Replayed.{event_handled}
use Rattle.schedule_run.proofs.replay.replay_line.Goals as goal

-- src/replay.rt:94:1
pub returns-in-Ok-clause-went : goal.returns-in-Ok-clause-went
returns-in-Ok-clause-went g c = event_handled c.in-Ok.event c.in-Ok.ensures.found c.handle-end.ensures.handled
