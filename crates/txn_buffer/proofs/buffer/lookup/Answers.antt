use Rattle.std.proofs.Common.{◌∙◌}
use Rattle.txn_buffer.proofs.NotedLemmas.{found}
use Rattle.txn_buffer.proofs.buffer.lookup.Goals as goal

pub returns : goal.returns
returns c = c.get.ensures.value ∙ found c.args.key.now c.args.changes.now.entries c.requires
