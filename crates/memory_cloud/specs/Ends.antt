-- What two texts have in common, counted from their ends.
use Rattle.std.specs.Prelude.{ℕ, ◌≡◌, ◌+◌, ◌-◌, List, length, drop}
use Rattle.std.specs.List.{slice_range}

-- the last bytes, so many, are the same
abbrev pub SameEnd : List ℕ → List ℕ → ℕ → Type 0
SameEnd first second size = drop (length first - size) first ≡ drop (length second - size) second

-- so many bytes before the last ones are the same
abbrev pub SameBefore : List ℕ → List ℕ → ℕ → ℕ → Type 0
SameBefore first second back size =
    slice_range first (length first - (back + size)) (length first - back)
    ≡ slice_range second (length second - (back + size)) (length second - back)
