use Rattle.std.proofs.Common.{◌≡◌, ◌++◌, map}
use Rattle.std.specs.List.{filter}
use Rattle.ckpt_policy.specs.Notes.{queue_at}
use Rattle.ckpt_policy.specs.Picking.{picked_from, picks}
use Rattle.ckpt_policy.proofs.ledger.Ledger.picked.Given as goal

abbrev pub invariant-loop-place : goal.invariant-loop-place
invariant-loop-place l =
    l.queues.items ++ map (λ e. queue_at e.0) (filter (λ e. picks l.fn.self.role l.fn.self.k l.fn.self.client e.0 e.1) l.place-iterator)
    ≡ picked_from l.fn.self
