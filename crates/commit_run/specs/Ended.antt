-- The leaves at which walks of a commit ended.
use Rattle.std.specs.Prelude.{ℕ, ◌==◌, ◌&&◌, not, Bool, List, Option, find}
use Rattle.std.specs.Option.{option_map}
use Rattle.byte_format.specs.Order.{bytes_below, below_bound}
use Rattle.leaf_view.specs.Leaf.{Leaf}

-- a leaf at which a walk ended: its tree and page, and the range of the version that the walk was served
pub record Ended : Type 0 where
  pub tree : ℕ
  pub page : ℕ
  pub low : List ℕ
  pub high : Option (List ℕ)

abbrev pub ended_of : ℕ → ℕ → Leaf → Ended
ended_of tree page leaf = record { tree = tree; page = page; low = leaf.low; high = leaf.high }

-- whether a key of a tree lies in the range of the leaf
abbrev pub spans : ℕ → List ℕ → Ended → Bool
spans tree key e = (e.tree == tree) && (not (bytes_below key e.low) && below_bound key e.high)

-- the first of the leaves in whose range the key lies
abbrev pub leaf_at : List Ended → ℕ → List ℕ → Option Ended
leaf_at leaves tree key = find (spans tree key) leaves

abbrev pub page_at : List Ended → ℕ → List ℕ → Option ℕ
page_at leaves tree key = option_map (λ (e : Ended). e.page) (leaf_at leaves tree key)
