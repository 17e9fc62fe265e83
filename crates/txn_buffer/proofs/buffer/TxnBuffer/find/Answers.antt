use Rattle.std.proofs.Common.{sym}
use Rattle.txn_buffer.proofs.NotedLemmas.{too_long}
use Rattle.txn_buffer.proofs.buffer.TxnBuffer.find.Goals as goal

pub returns-in-None : goal.returns-in-None
returns-in-None c =
    rw (← c.self.view_is) (sym (too_long c.args.tree c.args.key.now c.self.inside.changes.entries c.self.invariant.keys c.in-None.ensures.none))
