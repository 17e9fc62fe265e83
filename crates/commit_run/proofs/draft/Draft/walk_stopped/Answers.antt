use Rattle.std.proofs.Common.{sym, ◌∙◌}
use Rattle.commit_run.proofs.Hands.{stopped_other}
use Rattle.commit_run.proofs.draft.Draft.walk_stopped.Goals as goal

pub returns-clause-led : goal.returns-clause-led
returns-clause-led c =
    stopped_other c.args.first c.args.self.now c.args.cache.now c.args.trouble _ _ (sym c.is_stale.ensures ∙ c.if-is_stale.false) (c.trouble.ensures.led c.args.cache.now)
