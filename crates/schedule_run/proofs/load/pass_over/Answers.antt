use Rattle.std.proofs.lemmas.Result.{err_from_is_err_and}
use Rattle.schedule_run.proofs.LoadLemmas.{passes, out_at}
use Rattle.schedule_run.proofs.load.pass_over.Goals as goal

pub returns-in_err-run : goal.returns-in_err-run
returns-in_err-run g c =
    let p = err_from_is_err_and c.from_residual.result c.from_residual.ensures.1 in
    rw (p.1, p.2) (out_at c.args.event _ _ _ _ _ c.requires.unasked c.in_err-run.ensures)

pub returns : goal.returns
returns g c = passes c.args.event c.in_ok-run.field-0 _ _ _ _ c.requires c.in_ok-run.ensures
