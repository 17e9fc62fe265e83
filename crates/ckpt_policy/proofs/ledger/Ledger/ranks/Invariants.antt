use Rattle.std.proofs.Common.{◌≡◌, map}
use Rattle.ckpt_policy.specs.Due.{ranked_with}
use Rattle.ckpt_policy.specs.Picking.{rank_at, ranks_from}
use Rattle.ckpt_policy.proofs.ledger.Ledger.ranks.Given as goal

abbrev pub invariant-loop-place : goal.invariant-loop-place
invariant-loop-place l = ranked_with l.ranks.keys (map rank_at l.place-iterator) ≡ ranks_from l.fn.self.counts
