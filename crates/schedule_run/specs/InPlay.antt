-- How a play stands.
use Rattle.std.specs.Prelude.{ℕ}
use Rattle.world_core.specs.World.{World}

-- its world, how many events that has handled, and how many calls it may still make
pub record Play : Type 0 where
  pub world : World
  pub handled : ℕ
  pub left : ℕ
