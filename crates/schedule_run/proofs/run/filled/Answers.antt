use Rattle.std.proofs.Common.{Ok, Err}
use Rattle.db_io.specs.declared.input.InputFault.TheVariants as input
use Rattle.schedule_run.specs.declared.loading.LoadingFault.TheVariants as fault
use Rattle.schedule_run.proofs.RunLemmas.{load_ran, load_not_read}
use Rattle.schedule_run.proofs.run.filled.Goals as goal

pub returns-in-Ok-fill-clause-ran : goal.returns-in-Ok-fill-clause-ran
returns-in-Ok-fill-clause-ran g c = load_ran _ _ _ _ _ _ _ _ (Ok tt) c.in-Ok.ensures c.as_slice.ensures c.in-Ok-fill.ensures.went

pub returns-in-Err-BadLine-clause-ran : goal.returns-in-Err-BadLine-clause-ran
returns-in-Err-BadLine-clause-ran g c =
    let went = rw c.in-Err-BadLine.field-0-is at c.in-Err-BadLine.ensures.went in load_ran _ _ _ _ _ _ _ _ (Err fault.BadLine) c.in-Ok.ensures c.as_slice.ensures went

pub returns-in-Err-NotEmpty-clause-ran : goal.returns-in-Err-NotEmpty-clause-ran
returns-in-Err-NotEmpty-clause-ran g c =
    let went = rw c.in-Err-NotEmpty.field-0-is at c.in-Err-NotEmpty.ensures.went in load_ran _ _ _ _ _ _ _ _ (Err fault.NotEmpty) c.in-Ok.ensures c.as_slice.ensures went

pub returns-in-Err-Stopped-clause-ran : goal.returns-in-Err-Stopped-clause-ran
returns-in-Err-Stopped-clause-ran g c =
    let went = rw c.in-Err-Stopped.field-0-is at c.in-Err-Stopped.ensures.went in load_ran _ _ _ _ _ _ _ _ (Err fault.Stopped) c.in-Ok.ensures c.as_slice.ensures went

pub returns-in-Err-NotOpened-clause-ran : goal.returns-in-Err-NotOpened-clause-ran
returns-in-Err-NotOpened-clause-ran g c =
    let went = rw c.in-Err-NotOpened.field-0-is at c.in-Err-NotOpened.ensures.went in load_ran _ _ _ _ _ _ _ _ (Err fault.NotOpened) c.in-Ok.ensures c.as_slice.ensures went

pub returns-in-Err-NotLoaded-clause-ran : goal.returns-in-Err-NotLoaded-clause-ran
returns-in-Err-NotLoaded-clause-ran g c =
    let went = rw c.in-Err-NotLoaded.field-0-is at c.in-Err-NotLoaded.ensures.went in load_ran _ _ _ _ _ _ _ _ (Err fault.NotLoaded) c.in-Ok.ensures c.as_slice.ensures went

pub returns-in-Err-NotSettled-clause-ran : goal.returns-in-Err-NotSettled-clause-ran
returns-in-Err-NotSettled-clause-ran g c =
    let went = rw c.in-Err-NotSettled.field-0-is at c.in-Err-NotSettled.ensures.went in load_ran _ _ _ _ _ _ _ _ (Err fault.NotSettled) c.in-Ok.ensures c.as_slice.ensures went

pub returns-in-Err-WriteFault-clause-ran : goal.returns-in-Err-WriteFault-clause-ran
returns-in-Err-WriteFault-clause-ran g c =
    let went = rw c.in-Err-WriteFault.field-0-is at c.in-Err-WriteFault.ensures.went in load_ran _ _ _ _ _ _ _ _ (Err fault.WriteFault) c.in-Ok.ensures c.as_slice.ensures went

pub returns-in-Ok-clause-ran : goal.returns-in-Ok-clause-ran
returns-in-Ok-clause-ran g c =
    let went = rw c.in-Err-Memory-fill.field-0-is at c.in-Err-Memory-fill.ensures.went in load_ran _ _ _ _ _ _ _ _ (Err fault.Memory) c.in-Ok.ensures c.as_slice.ensures went

pub returns-in-Err-ReadFault-clause-ran : goal.returns-in-Err-ReadFault-clause-ran
returns-in-Err-ReadFault-clause-ran g c = load_not_read _ _ _ _ input.ReadFault

pub returns-in-Err-TooLong-clause-ran : goal.returns-in-Err-TooLong-clause-ran
returns-in-Err-TooLong-clause-ran g c = load_not_read _ _ _ _ input.TooLong

pub returns-clause-ran : goal.returns-clause-ran
returns-clause-ran g c = load_not_read _ _ _ _ input.Memory
