use Rattle.std.proofs.Common.{arith}
use Rattle.schedule_run.specs.InPlay.{Play}
use Rattle.schedule_run.proofs.PlayLemmas.{takes_next}
use Rattle.schedule_run.proofs.play.Play.take.Goals as goal

pub returns : goal.returns
returns g c =
    let old : Play = record { world = c.self.inside.world; handled = c.self.inside.handled; left = c.self.inside.quota } in
    let new : Play = record { world = c.event.new.self; handled = c.in-Some.handled; left = c.event.new.quota } in
    let sum = c.in-Some.ensures.1 in
    let fits = c.in-Some.ensures.0 in
    rw (← c.self.view_is)
    (takes_next c.args.event.now c.event.result (g.C.Cloud.seen c.args.cloud.now) (g.C.Cloud.seen c.event.new.cloud) old new sum (omega (arith, sum, fits)) c.event.ensures.handled c.event.ensures.stands
    c.event.ensures.grows c.event.ensures.spends)
