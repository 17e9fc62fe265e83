-- Records whose bytes lie one behind the other.
use Rattle.std.specs.Prelude.{ℕ, ◌≡◌, ◌≤◌, List, [], ◌∷◌, length, take, drop}
use Rattle.db_base.specs.declared.pair.Pair.{Pair}
use Rattle.report_types.specs.declared.pair_list.Lengths.{Lengths}

-- the records of these lengths: each a key with its payload behind it
abbrev pub pairs_in : List ℕ → List Lengths → List Pair
pairs_in bytes [] = []
pairs_in bytes (l ∷ ls) = record { key = take l.key bytes; payload = take l.payload (drop l.key bytes) } ∷ pairs_in (drop l.payload (drop l.key bytes)) ls

-- the bytes are those of records of these lengths, and no others
abbrev pub AreLaid : List ℕ → List Lengths → Type 0
AreLaid bytes [] = bytes ≡ []
AreLaid bytes (l ∷ ls) = (l.key ≤ length bytes) × (l.payload ≤ length (drop l.key bytes)) × AreLaid (drop l.payload (drop l.key bytes)) ls
