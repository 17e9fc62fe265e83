use Rattle.std.proofs.lemmas.Result.{err_from_is_err_and}
use Rattle.event_text.specs.declared.event.Event.TheVariants.{Settle}
use Rattle.schedule_run.proofs.LoadLemmas.{settles_by, out_at, no_settling}
use Rattle.schedule_run.proofs.load.settle.Goals as goal

pub returns-in_err-run : goal.returns-in_err-run
returns-in_err-run g c =
    let p = err_from_is_err_and c.from_residual.result c.from_residual.ensures.1 in
    rw (p.1, p.2) (out_at Settle _ _ _ _ _ no_settling c.in_err-run.ensures)

pub returns : goal.returns
returns g c = rw c.settled.ensures (settles_by c.in_ok-run.field-0 _ _ _ _ c.in_ok-run.ensures)
