-- Numbers of eight bytes.
use Rattle.std.specs.Prelude.{ℕ, ◌-◌, ◌^◌, ◌<◌, ◌≤◌}
use Rattle.std.specs.Int.{w64}
use Rattle.byte_format.specs.Format.{Format, number}

-- from least to the greatest number of eight bytes
abbrev pub u64_from : ℕ → Format ℕ
u64_from least = number w64 least (2 ^ 64 - 1)

-- a number from 1 on, of eight bytes
pub record IsCount (n : ℕ) : Type 0 where
  pub some : 1 ≤ n
  pub fits : n < 2 ^ 64
