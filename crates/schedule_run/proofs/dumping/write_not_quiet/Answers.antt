use Rattle.std.proofs.Common.{◌∙◌, sym, Err}
use Rattle.schedule_run.specs.declared.dumping.DumpingFault.TheVariants.{NotQuiet}
use Rattle.schedule_run.proofs.DumpingLemmas.{tells_name, end_fails, end_writes}
use Rattle.schedule_run.proofs.dumping.write_not_quiet.Goals as goal

pub returns-clause-told : goal.returns-clause-told
returns-clause-told g c = rw c.end_of.ensures (tells_name c.args.name.now _ _ _ c.write_name.ensures)

pub returns-clause-write_fault : goal.returns-clause-write_fault
returns-clause-write_fault g c e = end_fails _ (Err NotQuiet) _ _ _ c.write_name.ensures (λ e. cc) (sym c.end_of.ensures ∙ e)

pub returns-clause-writes : goal.returns-clause-writes
returns-clause-writes g c = rw c.end_of.ensures (end_writes _ (Err NotQuiet) _ _ _ c.write_name.ensures)
