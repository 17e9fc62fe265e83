use Rattle.std.proofs.Common.{refl}
use Rattle.schedule_run.proofs.ShellLemmas.{out_first}
use Rattle.schedule_run.proofs.shell.run_shell.Goals as goal

pub returns-in-Err-clause-went : goal.returns-in-Err-clause-went
returns-in-Err-clause-went g c = out_first _ _ _ _ _ _ (record { output = refl; seen = refl })
