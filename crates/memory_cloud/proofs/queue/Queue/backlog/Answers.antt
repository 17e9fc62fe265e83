use Rattle.std.proofs.Common.{arith, ap, length}
use Rattle.memory_cloud.proofs.QueueLemmas.{length-kept}
use Rattle.memory_cloud.proofs.queue.Queue.backlog.Goals as goal

pub returns : goal.returns
returns c =
    omega (arith, c.len.ensures, c.args.self.now.kept.ok.0, ap length c.args.self.now.kept_are, length-kept 1 c.args.self.now.messages.items)
