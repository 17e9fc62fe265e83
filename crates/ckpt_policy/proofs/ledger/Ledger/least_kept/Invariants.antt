use Rattle.std.proofs.Common.{◌≡◌, ◌++◌, map}
use Rattle.ckpt_policy.specs.Due.{place_of_rank}
use Rattle.ckpt_policy.specs.Notes.{queue_at}
use Rattle.ckpt_policy.specs.Picking.{ranked_from}
use Rattle.ckpt_policy.proofs.ledger.Ledger.least_kept.Given as goal

abbrev pub invariant-loop-rank : goal.invariant-loop-rank
invariant-loop-rank l = l.queues.items ++ map queue_at (map place_of_rank l.rank-iterator) ≡ map queue_at (ranked_from l.fn.self.counts)
