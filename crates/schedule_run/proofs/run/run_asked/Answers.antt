use Rattle.std.proofs.Common.{refl}
use Rattle.schedule_run.proofs.run.run_asked.Goals as goal

pub returns-in-Replay-clause-ran : goal.returns-in-Replay-clause-ran
returns-in-Replay-clause-ran g c = rw c.in-Replay.is c.replay.ensures.ran

pub returns-in-Shell-clause-ran : goal.returns-in-Shell-clause-ran
returns-in-Shell-clause-ran g c = rw c.in-Shell.is c.shell.ensures.ran

pub returns-in-Dump-clause-ran : goal.returns-in-Dump-clause-ran
returns-in-Dump-clause-ran g c = rw c.in-Dump.is (refl, c.dumped.ensures.ran)

pub returns-clause-ran : goal.returns-clause-ran
returns-clause-ran g c = rw c.in-Load.is c.filled.ensures.ran
