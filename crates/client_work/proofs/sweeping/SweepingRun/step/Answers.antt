use Rattle.client_work.proofs.Sweeps.{sweeps_on}
use Rattle.client_work.proofs.sweeping.SweepingRun.step.Goals as goal

pub invariant_of-self : goal.invariant_of-self
invariant_of-self g c =
    sweeps_on c.args.who (g.C.Cloud.seen c.args.cloud.now) (g.C.Cloud.seen c.step.new.cloud) c.self.inside.run c.step.new.self c.step.result c.step.ensures.steps.did c.in-More.is c.self.invariant
