use Rattle.commit_run.proofs.CallDemands.{run_names}
use Rattle.commit_run.proofs.Groups.{run_within}
use Rattle.commit_run.proofs.run.CommitRun.step.Goals as goal

pub returns-in-Writes-clause-within : goal.returns-in-Writes-clause-within
returns-in-Writes-clause-within g c = run_within (c.args.self.now, c.args.cache.now)

pub returns-in-Writes-clause-names : goal.returns-in-Writes-clause-names
returns-in-Writes-clause-names g c = run_names (c.args.self.now, c.args.cache.now)

pub returns-in-First-clause-within : goal.returns-in-First-clause-within
returns-in-First-clause-within g c = run_within (c.args.self.now, c.args.cache.now)

pub returns-in-First-clause-names : goal.returns-in-First-clause-names
returns-in-First-clause-names g c = run_names (c.args.self.now, c.args.cache.now)

pub returns-in-Change-clause-within : goal.returns-in-Change-clause-within
returns-in-Change-clause-within g c = run_within (c.args.self.now, c.args.cache.now)

pub returns-in-Change-clause-names : goal.returns-in-Change-clause-names
returns-in-Change-clause-names g c = run_names (c.args.self.now, c.args.cache.now)
