use Rattle.std.proofs.Common.{refl}
use Rattle.schedule_run.specs.Shell.{event_run, refused}
use Rattle.schedule_run.proofs.ShellLemmas.{is_bad}
use Rattle.schedule_run.proofs.shell.run_line.Goals as goal

pub returns-in-Ok-clause-line : goal.returns-in-Ok-clause-line
returns-in-Ok-clause-line g c = event_run c.in-Ok.event c.run_event.result c.in-Ok.ensures.found c.ended-end.ensures c.run_event.ensures.event

pub returns-in-Ok-refuse-clause-line : goal.returns-in-Ok-refuse-clause-line
returns-in-Ok-refuse-clause-line g c =
    let only = rw c.in-Err-NotInGrammar.field-0-is at c.in-Err-NotInGrammar.ensures.only in refused (is_bad _ only) refl c.in-Ok-refuse.ensures.0

pub returns-in-Ok-refuse-clause-bad_line : goal.returns-in-Ok-refuse-clause-bad_line
returns-in-Ok-refuse-clause-bad_line g c e =
    let only = rw c.in-Err-NotInGrammar.field-0-is at c.in-Err-NotInGrammar.ensures.only in is_bad _ only

pub returns-in-Err-WriteFault-clause-line : goal.returns-in-Err-WriteFault-clause-line
returns-in-Err-WriteFault-clause-line g c =
    let only = rw c.in-Err-NotInGrammar.field-0-is at c.in-Err-NotInGrammar.ensures.only in
    let written = rw c.in-Err-WriteFault.field-0-is at c.in-Err-WriteFault.ensures in refused (is_bad _ only) refl written.0

pub returns-in-Err-Memory-refuse-clause-line : goal.returns-in-Err-Memory-refuse-clause-line
returns-in-Err-Memory-refuse-clause-line g c =
    let only = rw c.in-Err-NotInGrammar.field-0-is at c.in-Err-NotInGrammar.ensures.only in
    let written = rw c.in-Err-Memory-refuse.field-0-is at c.in-Err-Memory-refuse.ensures in refused (is_bad _ only) refl written.0
