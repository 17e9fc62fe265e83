use Rattle.std.proofs.lemmas.Result.{err_from_is_err_and}
use Rattle.event_text.specs.declared.event.Event.TheVariants.{Open}
use Rattle.schedule_run.proofs.LoadLemmas.{goes_by, out_at, no_opening}
use Rattle.schedule_run.proofs.load.open.Goals as goal

pub returns-in_err-run : goal.returns-in_err-run
returns-in_err-run g c =
    let p = err_from_is_err_and c.from_residual.result c.from_residual.ensures.1 in
    rw (p.1, p.2) (out_at (Open 1 1) _ _ _ _ _ no_opening c.in_err-run.ensures)

pub returns : goal.returns
returns g c = rw c.opened.ensures (goes_by (Open 1 1) c.in_ok-run.field-0 _ _ _ _ no_opening c.in_ok-run.ensures)
