use Rattle.std.proofs.lemmas.Result.{err_from_is_err_and}
use Rattle.event_text.specs.declared.event.Event.TheVariants.{Commit}
use Rattle.schedule_run.proofs.LoadLemmas.{goes_by, out_at, no_commit}
use Rattle.schedule_run.proofs.load.commit.Goals as goal

pub returns-in_err-run : goal.returns-in_err-run
returns-in_err-run g c =
    let p = err_from_is_err_and c.from_residual.result c.from_residual.ensures.1 in
    rw (p.1, p.2) (out_at (Commit 1) _ _ _ _ _ no_commit c.in_err-run.ensures)

pub returns : goal.returns
returns g c = rw c.committed.ensures (goes_by (Commit 1) c.in_ok-run.field-0 _ _ _ _ no_commit c.in_ok-run.ensures)
