-- How many pieces a list of items is cut into, and how long each of them is.
use Rattle.std.specs.Prelude.{◌≡◌, ℕ, ◌+◌, ◌-◌, ◌*◌, ◌/◌, ◌%◌, ◌<◌, ◌≤◌, List, [], ◌∷◌, ◌++◌, replicate}
use Rattle.db_base.specs.Limits.{most_items}

-- the least number of pieces, at least one, of at most 64 items each
pub record IsLeastCount (len count : ℕ) : Type 0 where
  pub some : 1 ≤ count
  pub enough : len ≤ most_items * count
  pub least : (other : ℕ) → 1 ≤ other → len ≤ most_items * other → count ≤ other

-- how many pieces so many items are cut into
abbrev pub count_of : ℕ → ℕ
count_of len = (len - 1) / most_items + 1

-- so many items in so many pieces, as even as may be: the first pieces have one more where the items do not divide evenly
abbrev pub sizes_in : ℕ → ℕ → List ℕ
sizes_in count len = replicate (len % count) (len / count + 1) ++ replicate (count - len % count) (len / count)

abbrev pub sizes_of : ℕ → List ℕ
sizes_of len = sizes_in (count_of len) len

-- the same without the last piece, which has what is left
abbrev pub cuts_in : ℕ → ℕ → List ℕ
cuts_in count len = replicate (len % count) (len / count + 1) ++ replicate (count - 1 - len % count) (len / count)

abbrev pub cuts_of : ℕ → List ℕ
cuts_of len = cuts_in (count_of len) len

-- so many items can be cut into pieces of these sizes and a last one of `last` items, and no piece is empty
abbrev pub CanCut : List ℕ → ℕ → ℕ → Type 0
CanCut [] last len = len ≡ last
CanCut (n ∷ sizes) last len = (0 < n) × (n < len) × CanCut sizes last (len - n)
