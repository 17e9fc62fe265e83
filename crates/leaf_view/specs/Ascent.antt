-- Records in order: the first and the last of them say for all where they stand.
use Rattle.std.specs.Prelude.{ℕ, Bool, true, not, List, Option, Some, None}
use Rattle.byte_format.specs.Order.{bytes_below, below_bound}
use Rattle.leaf_view.specs.Leaf.{Entry}

-- a key that may come next: above the record before, or from low on where there is none
abbrev pub comes_next : List ℕ → Option Entry → List ℕ → Bool
comes_next low None key = not (bytes_below key low)
comes_next low (Some e) key = bytes_below e.key key

-- the last record, where there is one, is below the bound
abbrev pub last_below : Option Entry → Option (List ℕ) → Bool
last_below None high = true
last_below (Some e) high = below_bound e.key high
