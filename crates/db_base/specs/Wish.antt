-- The positions that a wish may name.
use Rattle.std.specs.Prelude.{ℕ, ◌≤◌, List, length}
use Rattle.db_base.specs.Limits.{most_positions}

-- 1 to 256 positions
pub record ArePositions (list : List ℕ) : Type 0 where
  pub some : 1 ≤ length list
  pub most : length list ≤ most_positions
