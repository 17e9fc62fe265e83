use Rattle.schedule_run.proofs.LoadLemmas.{skips_last}
use Rattle.schedule_run.proofs.load.checkpoint_at.Goals as goal

pub returns-then-tree-last : goal.returns-then-tree-last
returns-then-tree-last g c = skips_last c.args.last c.args.tree _ _ c.if-tree-last.true
