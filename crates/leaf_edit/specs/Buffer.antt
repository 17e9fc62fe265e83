-- A leaf that is its bytes.
use Rattle.std.specs.Prelude.{◌≡◌, ℕ, List, length, Result, Ok, Err}
use Rattle.byte_format.specs.Whole.{whole}
use Rattle.leaf_view.specs.Leaf.{Leaf, IsLeaf, leaf}
use Rattle.leaf_view.specs.Lookup.{empty_leaf}

abbrev pub leaf_from : Result Leaf ℕ → Leaf
leaf_from (Ok l) = l
leaf_from (Err left) = empty_leaf

-- the leaf that the bytes spell
abbrev pub leaf_in : List ℕ → Leaf
leaf_in bytes = leaf_from (whole leaf bytes)

-- the bytes spell a leaf, in the format in which leaves are written
pub record IsWritten (bytes : List ℕ) : Type 0 where
  pub spelled : IsLeaf bytes (leaf_in bytes)
  pub format : (leaf_in bytes).format ≡ 2

-- they do, and the leaf has so many records
pub record IsBuffer (bytes : List ℕ) (count : ℕ) : Type 0 where
  pub written : IsWritten bytes
  pub counted : count ≡ length (leaf_in bytes).records
