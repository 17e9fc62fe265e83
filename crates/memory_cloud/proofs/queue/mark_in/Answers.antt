use Rattle.std.proofs.Common.{arith}
use Rattle.memory_cloud.proofs.QueueLemmas.{mark_at-set, mark_at-past}
use Rattle.std.proofs.Common.{sym}
use Rattle.memory_cloud.proofs.queue.mark_in.Goals as goal

pub returns-then-at-len : goal.returns-then-at-len
returns-then-at-len c =
    mark_at-set c.args.messages.now.items c.args.at c.index_mut.result.now (omega (arith, c.args.messages.now.ok.0)) c.index_mut.ensures.value

pub returns-else-at-len : goal.returns-else-at-len
returns-else-at-len c = sym (mark_at-past c.args.messages.now.items c.args.at (omega (arith, c.args.messages.now.ok.0)))
