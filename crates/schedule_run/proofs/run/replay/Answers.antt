use Rattle.std.proofs.Common.{Ok, Err}
use Rattle.db_io.specs.declared.input.InputFault.TheVariants as input
use Rattle.schedule_run.specs.declared.replay.LineFault.TheVariants as fault
use Rattle.schedule_run.proofs.RunLemmas.{replay_ran, replay_not_read}
use Rattle.schedule_run.proofs.run.replay.Goals as goal

pub returns-in-Ok-replay_lines-clause-ran : goal.returns-in-Ok-replay_lines-clause-ran
returns-in-Ok-replay_lines-clause-ran g c = replay_ran _ _ _ _ _ _ _ _ (Ok tt) c.in-Ok.ensures c.as_slice.ensures c.in-Ok-replay_lines.ensures.went

pub returns-in-Err-BadLine-clause-ran : goal.returns-in-Err-BadLine-clause-ran
returns-in-Err-BadLine-clause-ran g c =
    let went = rw c.in-Err-BadLine.field-0-is at c.in-Err-BadLine.ensures.went in replay_ran _ _ _ _ _ _ _ _ (Err fault.BadLine) c.in-Ok.ensures c.as_slice.ensures went

pub returns-in-Err-WriteFault-clause-ran : goal.returns-in-Err-WriteFault-clause-ran
returns-in-Err-WriteFault-clause-ran g c =
    let went = rw c.in-Err-WriteFault.field-0-is at c.in-Err-WriteFault.ensures.went in replay_ran _ _ _ _ _ _ _ _ (Err fault.WriteFault) c.in-Ok.ensures c.as_slice.ensures went

pub returns-in-Ok-clause-ran : goal.returns-in-Ok-clause-ran
returns-in-Ok-clause-ran g c =
    let went = rw c.in-Err-Memory-replay_lines.field-0-is at c.in-Err-Memory-replay_lines.ensures.went in replay_ran _ _ _ _ _ _ _ _ (Err fault.Memory) c.in-Ok.ensures c.as_slice.ensures went

pub returns-in-Err-ReadFault-clause-ran : goal.returns-in-Err-ReadFault-clause-ran
returns-in-Err-ReadFault-clause-ran g c = replay_not_read _ _ _ _ input.ReadFault

pub returns-in-Err-TooLong-clause-ran : goal.returns-in-Err-TooLong-clause-ran
returns-in-Err-TooLong-clause-ran g c = replay_not_read _ _ _ _ input.TooLong

pub returns-clause-ran : goal.returns-clause-ran
returns-clause-ran g c = replay_not_read _ _ _ _ input.Memory
