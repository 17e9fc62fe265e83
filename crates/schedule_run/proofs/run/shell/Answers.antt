use Rattle.std.proofs.Common.{Ok, Err}
use Rattle.db_io.specs.declared.input.InputFault.TheVariants as input
use Rattle.schedule_run.specs.declared.shell.ShellFault.TheVariants as fault
use Rattle.schedule_run.proofs.RunLemmas.{shell_ran, shell_not_read}
use Rattle.schedule_run.proofs.run.shell.Goals as goal

pub returns-in-Ok-run_shell-clause-ran : goal.returns-in-Ok-run_shell-clause-ran
returns-in-Ok-run_shell-clause-ran g c = shell_ran _ _ _ _ _ _ _ _ _ (Ok tt) c.in-Ok.ensures c.as_slice.ensures c.in-Ok-run_shell.ensures.went

pub returns-in-Err-NotOpened-clause-ran : goal.returns-in-Err-NotOpened-clause-ran
returns-in-Err-NotOpened-clause-ran g c =
    let went = rw c.in-Err-NotOpened.field-0-is at c.in-Err-NotOpened.ensures.went in shell_ran _ _ _ _ _ _ _ _ _ (Err fault.NotOpened) c.in-Ok.ensures c.as_slice.ensures went

pub returns-in-Err-BadLine-clause-ran : goal.returns-in-Err-BadLine-clause-ran
returns-in-Err-BadLine-clause-ran g c =
    let went = rw c.in-Err-BadLine.field-0-is at c.in-Err-BadLine.ensures.went in shell_ran _ _ _ _ _ _ _ _ _ (Err fault.BadLine) c.in-Ok.ensures c.as_slice.ensures went

pub returns-in-Err-WriteFault-clause-ran : goal.returns-in-Err-WriteFault-clause-ran
returns-in-Err-WriteFault-clause-ran g c =
    let went = rw c.in-Err-WriteFault.field-0-is at c.in-Err-WriteFault.ensures.went in shell_ran _ _ _ _ _ _ _ _ _ (Err fault.WriteFault) c.in-Ok.ensures c.as_slice.ensures went

pub returns-in-Ok-clause-ran : goal.returns-in-Ok-clause-ran
returns-in-Ok-clause-ran g c =
    let went = rw c.in-Err-Memory-run_shell.field-0-is at c.in-Err-Memory-run_shell.ensures.went in shell_ran _ _ _ _ _ _ _ _ _ (Err fault.Memory) c.in-Ok.ensures c.as_slice.ensures went

pub returns-in-Err-ReadFault-clause-ran : goal.returns-in-Err-ReadFault-clause-ran
returns-in-Err-ReadFault-clause-ran g c = shell_not_read _ _ _ _ _ input.ReadFault

pub returns-in-Err-TooLong-clause-ran : goal.returns-in-Err-TooLong-clause-ran
returns-in-Err-TooLong-clause-ran g c = shell_not_read _ _ _ _ _ input.TooLong

pub returns-clause-ran : goal.returns-clause-ran
returns-clause-ran g c = shell_not_read _ _ _ _ _ input.Memory
