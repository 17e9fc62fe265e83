use Rattle.std.proofs.Common.{◌∙◌, sym, Err}
use Rattle.schedule_run.specs.declared.loading.LoadingFault.TheVariants.{BadLine}
use Rattle.schedule_run.proofs.LoadingLemmas.{tells, load_fails, load_writes}
use Rattle.schedule_run.proofs.loading.write_bad_line.Goals as goal

pub returns-clause-told : goal.returns-clause-told
returns-clause-told g c = rw c.end_of.ensures (tells _ (Err BadLine) _ _ _ c.refuse.ensures)

pub returns-clause-write_fault : goal.returns-clause-write_fault
returns-clause-write_fault g c e = load_fails _ (Err BadLine) _ _ _ c.refuse.ensures (λ e. cc) (sym c.end_of.ensures ∙ e)

pub returns-clause-writes : goal.returns-clause-writes
returns-clause-writes g c = rw c.end_of.ensures (load_writes _ (Err BadLine) _ _ _ c.refuse.ensures)
