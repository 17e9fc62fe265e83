use Rattle.schedule_run.proofs.GeneratedLemmas.{stop_earlier, stop_next, stop_report, handles_all}
use Rattle.schedule_run.proofs.generated.take_all.Goals as goal

pub returns-in-Err : goal.returns-in-Err
returns-in-Err g c = stop_earlier _ _ _ _ (stop_earlier _ _ _ _ c.in-Err.ensures)

pub returns-in-Err-take : goal.returns-in-Err-take
returns-in-Err-take g c = stop_earlier _ _ _ _ (stop_next _ _ _ _ _ _ _ c.in-Ok.ensures c.in-Err-take.ensures)

pub returns-in-Ok-take-2 : goal.returns-in-Ok-take-2
returns-in-Ok-take-2 g c = handles_all _ _ _ _ _ _ _ _ _ _ _ c.in-Ok.ensures c.in-Ok-take.ensures c.in-Ok-take-2.ensures

pub returns : goal.returns
returns g c = stop_report _ _ _ _ _ _ _ _ _ _ c.in-Ok.ensures c.in-Ok-take.ensures c.in-Err-take-2.ensures
