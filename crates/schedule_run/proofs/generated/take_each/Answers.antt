use Rattle.std.proofs.lemmas.List.{nil_from_length}
use Rattle.schedule_run.proofs.GeneratedLemmas.{among_none, among_more, among_all, among_stop}
use Rattle.schedule_run.proofs.generated.take_each.Goals as goal

pub loop-event-init : goal.loop-event-init
loop-event-init g c = among_none _ _ _ c.requires

pub loop-event-preserved : goal.loop-event-preserved
loop-event-preserved g c = among_more _ _ c.in-Some.rest.now c.in-Some.event.now c.in-Ok.reply _ _ _ _ _ c.loop-event.invariant c.in-Some.ensures.cases.0 c.in-Ok.ensures

pub returns-in-Err : goal.returns-in-Err
returns-in-Err g c = among_stop _ _ c.in-Some.rest.now c.in-Some.event.now _ _ _ _ _ c.loop-event.invariant c.in-Some.ensures.cases.0 c.in-Err.ensures

pub returns : goal.returns
returns g c = among_all _ _ _ _ _ c.loop-event.invariant (nil_from_length _ c.in_default.ensures.cases)
