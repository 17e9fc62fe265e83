use Rattle.std.proofs.Common.{◌∙◌, sym, Ok}
use Rattle.schedule_run.specs.Loading.{load_text}
use Rattle.schedule_run.proofs.LoadingLemmas.{tells, tells_nothing, load_fails, load_writes}
use Rattle.schedule_run.proofs.loading.write_loaded.Goals as goal

pub returns-in-Ok-clause-told : goal.returns-in-Ok-clause-told
returns-in-Ok-clause-told g c = rw c.end_of.ensures (tells _ (Ok tt) _ _ _ (rw (c.as_bytes.ensures.value, c.in-Ok.ensures.ok) at c.write_text.ensures))

pub returns-in-Ok-clause-write_fault : goal.returns-in-Ok-clause-write_fault
returns-in-Ok-clause-write_fault g c e = load_fails _ (Ok tt) _ _ _ c.write_text.ensures (λ e. cc) (sym c.end_of.ensures ∙ e)

pub returns-in-Ok-clause-writes : goal.returns-in-Ok-clause-writes
returns-in-Ok-clause-writes g c = rw c.end_of.ensures (load_writes _ (Ok tt) _ _ _ c.write_text.ensures)

pub returns-in-Err-clause-told : goal.returns-in-Err-clause-told
returns-in-Err-clause-told g c = tells_nothing (load_text (Ok c.args.loaded)) (Ok tt) (g.O.Sink.told c.args.sink.now)
