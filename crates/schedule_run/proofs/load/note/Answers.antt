use Rattle.std.proofs.Common.{refl, [], ◌∷◌, sym, subst}
use Rattle.std.proofs.lemmas.Result.{err_from_is_err_and}
use Rattle.event_text.specs.declared.event.Event.{Event}
use Rattle.load_plan.specs.Events.{Placed, insert_of}
use Rattle.schedule_run.specs.Load.{GoesThrough, Runs, answer_of}
use Rattle.schedule_run.specs.declared.load.LoadStop.TheVariants.{Memory}
use Rattle.schedule_run.proofs.LoadLemmas.{goes_by, out_at, out_before, no_insert}
use Rattle.schedule_run.proofs.load.note.Goals as goal

pub returns-in_err-run-in-Ok : goal.returns-in_err-run-in-Ok
returns-in_err-run-in-Ok g c =
    let placed : Placed = record { tree = c.args.tree; stored = c.args.stored.now } in
    let p = err_from_is_err_and c.from_residual.result c.from_residual.ensures.1 in
    let ran = rw c.in-Ok.ensures at c.in_err-run-in-Ok.ensures in
    rw (p.1, p.2) (out_at (insert_of placed) _ _ _ _ _ (no_insert placed) ran)

pub returns-in_ok-run-in-Ok : goal.returns-in_ok-run-in-Ok
returns-in_ok-run-in-Ok g c =
    let placed : Placed = record { tree = c.args.tree; stored = c.args.stored.now } in
    let ran = rw c.in-Ok.ensures at c.in_ok-run-in-Ok.ensures in
    rw (c.noted.ensures placed) (goes_by (insert_of placed) c.in_ok-run-in-Ok.field-0 _ _ _ _ (no_insert placed) ran)

pub returns-in-Err : goal.returns-in-Err
returns-in-Err g c = out_before _ Memory _ _ refl
