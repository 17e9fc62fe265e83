use Rattle.std.proofs.Common.{Ok, Err}
use Rattle.schedule_run.specs.declared.dumping.DumpingFault.TheVariants as fault
use Rattle.schedule_run.proofs.RunLemmas.{dump_ran}
use Rattle.schedule_run.proofs.run.dumped.Goals as goal

pub returns-in-Ok-clause-ran : goal.returns-in-Ok-clause-ran
returns-in-Ok-clause-ran g c = dump_ran (Ok tt) _ _ _ _ c.in-Ok.ensures.went

pub returns-in-Err-NotQuiet-clause-ran : goal.returns-in-Err-NotQuiet-clause-ran
returns-in-Err-NotQuiet-clause-ran g c = dump_ran (Err fault.NotQuiet) _ _ _ _ (rw c.in-Err-NotQuiet.field-0-is at c.in-Err-NotQuiet.ensures.went)

pub returns-in-Err-Stopped-clause-ran : goal.returns-in-Err-Stopped-clause-ran
returns-in-Err-Stopped-clause-ran g c = dump_ran (Err fault.Stopped) _ _ _ _ (rw c.in-Err-Stopped.field-0-is at c.in-Err-Stopped.ensures.went)

pub returns-in-Err-WriteFault-clause-ran : goal.returns-in-Err-WriteFault-clause-ran
returns-in-Err-WriteFault-clause-ran g c = dump_ran (Err fault.WriteFault) _ _ _ _ (rw c.in-Err-WriteFault.field-0-is at c.in-Err-WriteFault.ensures.went)

pub returns-in-Err-Memory-clause-ran : goal.returns-in-Err-Memory-clause-ran
returns-in-Err-Memory-clause-ran g c = dump_ran (Err fault.Memory) _ _ _ _ (rw c.in-Err-Memory.field-0-is at c.in-Err-Memory.ensures.went)
