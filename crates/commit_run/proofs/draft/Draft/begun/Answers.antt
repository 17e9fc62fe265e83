use Rattle.commit_run.proofs.Hands.{begun_stopped}
use Rattle.commit_run.proofs.draft.Draft.begun.Goals as goal

pub returns-in-Stopped-clause-led : goal.returns-in-Stopped-clause-led
returns-in-Stopped-clause-led c =
    begun_stopped c.args.first c.args.self.now c.prune_behind.new.self c.args.walk c.args.cache.now c.args.turn c.in-Stopped.trouble _ _ c.in-Stopped.is c.prune_behind.ensures.after
    (c.trouble.ensures.led c.args.cache.now)
