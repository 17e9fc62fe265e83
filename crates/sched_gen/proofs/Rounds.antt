-- Steps of the generator.
use Rattle.std.proofs.Common.{◌≡◌, ℕ, suc, ◌+◌, ◌-◌, ◌*◌, ◌%◌, ◌^◌, ◌≤◌, [], ◌++◌, refl, arith}
use Rattle.std.proofs.Math.Nat.{mod-add-mod}
use Rattle.sched_gen.specs.Schedule.{next_state, round_events, state_after, rounds}

pub wrapped : (x : ℕ) → (x * 6364136223846793005 % 2 ^ 64 + 1442695040888963407) % 2 ^ 64 ≡ next_state x
unfolding next_state
wrapped x = mod-add-mod (x * 6364136223846793005) (2 ^ 64) 1442695040888963407

-- the rounds that are left begin with this one
pub rounds_step : (count round x : ℕ) → round ≤ count → rounds (count + 1 - round) round x ≡ round_events round x ++ rounds (count + 1 - (round + 1)) (round + 1) (state_after round x)
unfolding rounds
rounds_step count round x h =
    let e : count + 1 - round ≡ suc (count + 1 - (round + 1)) = omega arith in
    rw e refl

-- none is left at the end
pub rounds_end : (count round x : ℕ) → count + 1 ≤ round → rounds (count + 1 - round) round x ≡ []
unfolding rounds
rounds_end count round x h =
    let e : count + 1 - round ≡ 0 = omega arith in
    rw e refl
