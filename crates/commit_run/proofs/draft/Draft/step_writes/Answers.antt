use Rattle.commit_run.proofs.CallDemands.{write_stepped_at}
use Rattle.commit_run.proofs.draft.Draft.step_writes.Goals as goal

pub returns-clause-stepped : goal.returns-clause-stepped
returns-clause-stepped g c =
    λ k. write_stepped_at c.args.self.now (record { writes = c.self.inside.writes; plan = c.self.inside.plan }) c.self.view_is k c.args.who _ _ c.step.new.self c.step.result c.step.ensures.stepped
