use Rattle.std.proofs.Common.{sym}
use Rattle.memory_cloud.proofs.QueueLemmas.{chosen-kept, chosen-both}
use Rattle.memory_cloud.proofs.queue.Queue.deliver.Goals as goal

pub returns : goal.returns
returns c =
    rw (sym (chosen-kept c.args.self.now.messages.items), sym c.args.self.now.kept_are, sym c.as_slice-messages.ensures.value, sym c.as_slices.ensures.items)
    (chosen-both c.args.most c.as_slice-messages.result.now c.as_slices.result.0.now c.as_slices.result.1.now _ _ c.in_ok-out.ensures c.in_ok-add_chosen.ensures)
