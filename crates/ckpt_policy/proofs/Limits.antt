-- Which numbers keep a writer's queues short.
use Rattle.std.proofs.Common.{ℕ, ◌≤◌, ◌<◌, ◌-◌, arith}
use Rattle.std.specs.Prelude.{◌↔◌}
use Rattle.ckpt_policy.specs.Ledger.{IsNumber, StaysShort}

-- a number that is allowed does
stays : (k : ℕ) → IsNumber k → (1 ≤ k) × StaysShort k
stays k is = (is.0, λ waiting sent few most. omega (arith, few, most, is.1))

-- one that does is allowed: with as many messages as may wait, and a commit of as many changes as it may have
allowed : (k : ℕ) → (1 ≤ k) × StaysShort k → IsNumber k
allowed k short =
    let below : k - 1 < k = omega (arith, short.0) in
    let room = short.1 (k - 1) 200 below (omega arith) in
    (short.0, omega (arith, room, short.0))

pub stays_short : (k : ℕ) → IsNumber k ↔ ((1 ≤ k) × StaysShort k)
stays_short k = (stays k, allowed k)
