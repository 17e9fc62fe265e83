use Rattle.std.proofs.Common.{Ok, Err}
use Rattle.dump_take.specs.declared.stop.DumpStop.TheVariants as stop
use Rattle.schedule_run.proofs.DumpingLemmas.{dump_ended}
use Rattle.schedule_run.proofs.dumping.dump.Goals as goal

pub returns-in-Ok-clause-went : goal.returns-in-Ok-clause-went
returns-in-Ok-clause-went g c =
    let e = c.in-Ok.ensures in
    dump_ended (Ok c.in-Ok.dump) _ _ _ _ _ e.taken e.looked e.failed c.write_dump.ensures.told

pub returns-in-Err-NotQuiet-clause-went : goal.returns-in-Err-NotQuiet-clause-went
returns-in-Err-NotQuiet-clause-went g c =
    let e = c.in-Err-NotQuiet.ensures in
    let is = c.in-Err-NotQuiet.field-0-is in
    dump_ended (Err (stop.NotQuiet c.in-Err-NotQuiet.name)) _ _ _ _ _ (rw is at e.taken) e.looked (rw is at e.failed) (rw c.as_str.ensures at c.write_not_quiet.ensures.told)

pub returns-in-Err-Trouble-clause-went : goal.returns-in-Err-Trouble-clause-went
returns-in-Err-Trouble-clause-went g c =
    let e = c.in-Err-Trouble.ensures in
    let is = c.in-Err-Trouble.field-0-is in
    dump_ended (Err (stop.Trouble c.in-Err-Trouble.trouble)) _ _ _ _ _ (rw is at e.taken) e.looked (rw is at e.failed) c.write_trouble.ensures.told
