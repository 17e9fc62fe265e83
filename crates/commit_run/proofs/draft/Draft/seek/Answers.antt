use Rattle.std.proofs.Common.{sym, ◌∙◌}
use Rattle.commit_run.proofs.Hands.{all_known, no_target, seek_none}
use Rattle.commit_run.proofs.draft.Draft.seek.Goals as goal

pub route-requires-clause-leaves : goal.route-requires-clause-leaves
route-requires-clause-leaves c = all_known c.args.self.now c.requires.within (no_target c.args.self.now (sym c.in-None.is ∙ c.requires.is))

pub returns-in-None-clause-led : goal.returns-in-None-clause-led
returns-in-None-clause-led c = seek_none c.args.self.now c.args.cache.now c.args.to _ _ c.in-None.is (c.route.ensures.led c.args.cache.now)
