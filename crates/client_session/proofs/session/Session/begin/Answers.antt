use Rattle.std.proofs.Common.{Ok, ap}
use Rattle.client_work.specs.Session.{Acting, Begins}
use Rattle.client_work.proofs.Came.{begins_come}
use Rattle.client_work.proofs.Shows.{begins_known}
use Rattle.client_session.proofs.Phases.{begun}
use Rattle.client_session.proofs.session.Session.begin.Goals as goal

pub returns : goal.returns
returns g c =
    begun c.args.op c.args.self.now _ c.self.inside.buffer _ (g.H.Hand.work c.self.inside.work) c.self.inside.cache c.self.inside.shown _ c.self.view_is (ap g.H.Hand.work c.replace-work.ensures.value)
    c.begin-work.ensures

pub invariant_of-self : goal.invariant_of-self
invariant_of-self g c =
    let new : Acting = record { buffer = c.begin-work.new.buffer; work = g.H.Hand.work c.begin-work.result.0; cache = c.begin-work.new.cache; shown = c.begin-work.result.1 } in
    let begins : Begins c.args.op c.args.self.now new (Ok c.begin-work.result.2) =
    begun c.args.op c.args.self.now new c.self.inside.buffer _ (g.H.Hand.work c.self.inside.work) c.self.inside.cache c.self.inside.shown _ c.self.view_is
    (ap g.H.Hand.work c.replace-work.ensures.value) c.begin-work.ensures in
    (begins_known c.args.self.now new c.begin-work.result.2 c.args.op begins, begins_come c.args.self.now new c.begin-work.result.2 c.args.op begins)
