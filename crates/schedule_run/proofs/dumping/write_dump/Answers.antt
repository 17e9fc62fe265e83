use Rattle.std.proofs.Common.{◌∙◌, sym, Ok}
use Rattle.schedule_run.proofs.DumpingLemmas.{tells_dump, end_fails, end_writes, no_memory}
use Rattle.schedule_run.proofs.dumping.write_dump.Goals as goal

pub returns-in-Ok-clause-told : goal.returns-in-Ok-clause-told
returns-in-Ok-clause-told g c = rw c.end_of.ensures (tells_dump c.args.dump.now _ _ _ _ (c.as_slice.ensures ∙ c.in-Ok.ensures.ok) c.write_text.ensures)

pub returns-in-Ok-clause-write_fault : goal.returns-in-Ok-clause-write_fault
returns-in-Ok-clause-write_fault g c e = end_fails _ (Ok tt) _ _ _ c.write_text.ensures (λ e. cc) (sym c.end_of.ensures ∙ e)

pub returns-in-Ok-clause-writes : goal.returns-in-Ok-clause-writes
returns-in-Ok-clause-writes g c = rw c.end_of.ensures (end_writes _ (Ok tt) _ _ _ c.write_text.ensures)

pub returns-in-Err-clause-told : goal.returns-in-Err-clause-told
returns-in-Err-clause-told g c = no_memory (Ok c.args.dump.now) (g.O.Sink.told c.args.sink.now)
