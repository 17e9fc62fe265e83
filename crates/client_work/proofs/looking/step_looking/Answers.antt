use Rattle.std.proofs.Common.{ap, refl, subst}
use Rattle.attr_index.specs.Stepped.{Stepped}
use Rattle.cloud_trait.specs.declared.turn.Turn.TheVariants.{Ended, Stopped}
use Rattle.cloud_trait.specs.Machine.{occasion_of}
use Rattle.recover_run.specs.declared.home.Home.{Home}
use Rattle.client_work.specs.Shows.{own_of}
use Rattle.client_work.specs.declared.shown.Shown.TheVariants.{Listed}
use Rattle.client_work.proofs.looking.step_looking.Goals as goal

pub returns-in-Ended : goal.returns-in-Ended
returns-in-Ended g c =
    let Of : Home → Type 0 = λ home. Stepped (own_of home c.args.buffer.now) (occasion_of c.args.who (g.C.Cloud.seen c.args.cloud.now) (g.C.Cloud.seen c.step-turn.new.cloud))
    (c.args.look, c.args.cache.now) (c.step-turn.new.self, c.step-turn.new.cache) (Ended tt) in
    (c.step-turn.new.self, subst Of c.home.view_is c.in-Ended.ensures.stepped, refl, ap Listed c.into_pairs.ensures)

pub returns-in-Stopped : goal.returns-in-Stopped
returns-in-Stopped g c =
    let Of : Home → Type 0 = λ home. Stepped (own_of home c.args.buffer.now) (occasion_of c.args.who (g.C.Cloud.seen c.args.cloud.now) (g.C.Cloud.seen c.step-turn.new.cloud))
    (c.args.look, c.args.cache.now) (c.step-turn.new.self, c.step-turn.new.cache) (Stopped c.in-Stopped.trouble) in
    (c.step-turn.new.self, subst Of c.home.view_is c.in-Stopped.ensures.stepped, c.stopped.ensures, refl)
