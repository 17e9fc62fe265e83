use Rattle.std.proofs.Common.{arith, ◌∙◌, rules}
use Rattle.memory_cloud.proofs.QueueLemmas.{added, added-deleted}
use Rattle.memory_cloud.proofs.queue.Queue.add.Goals as goal

pub invariant_of-self-then-is_open : goal.invariant_of-self-then-is_open
invariant_of-self-then-is_open c =
    record { kept_are = c.push_back_reserved.ensures.items ∙ added c.args.self.now.messages.items c.push.new.self.items c.args.message c.reserve.new.self.items c.len.result (c.reserve.ensures.items ∙ c.args.self.now.kept_are) c.in_ok-push.ensures.items (search rules) (omega (arith, c.len.ensures, c.push.new.self.ok.0)) }

pub invariant_of-self-else-is_open : goal.invariant_of-self-else-is_open
invariant_of-self-else-is_open c =
    record { kept_are = added-deleted c.args.self.now.messages.items c.push.new.self.items c.args.message c.reserve.new.self.items (c.reserve.ensures.items ∙ c.args.self.now.kept_are) c.in_ok-push.ensures.items (search rules) }
