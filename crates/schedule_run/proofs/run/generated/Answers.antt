use Rattle.std.proofs.Common.{Ok, Err}
use Rattle.db_io.specs.declared.output.OutputFault.TheVariants as output
use Rattle.schedule_run.proofs.GeneratedLemmas.{gen_ran}
use Rattle.schedule_run.proofs.run.generated.Goals as goal

pub returns-in-Ok-clause-ran : goal.returns-in-Ok-clause-ran
returns-in-Ok-clause-ran g c = gen_ran _ _ (Ok tt) _ _ _ _ c.in-Ok.ensures.went

pub returns-in-Err-WriteFault-clause-ran : goal.returns-in-Err-WriteFault-clause-ran
returns-in-Err-WriteFault-clause-ran g c =
    let went = rw c.in-Err-WriteFault.field-0-is at c.in-Err-WriteFault.ensures.went in gen_ran _ _ (Err output.WriteFault) _ _ _ _ went

pub returns-in-Err-Memory-clause-ran : goal.returns-in-Err-Memory-clause-ran
returns-in-Err-Memory-clause-ran g c =
    let went = rw c.in-Err-Memory.field-0-is at c.in-Err-Memory.ensures.went in gen_ran _ _ (Err output.Memory) _ _ _ _ went
