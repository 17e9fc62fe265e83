-- The order of bytes, as std's: the first byte that differs decides, and a front of a list stands before the list.
use Rattle.std.specs.Prelude.{ℕ, Bool, true, List, Option, Some, None}
use Rattle.std.specs.declared.cmp.Ordering.{Ordering}
use Rattle.std.specs.Ordering.{nat_cmp, is_lt, is_eq}
use Rattle.std.specs.Cmp.Lexicographic.{slice_cmp}

abbrev pub bytes_cmp : List ℕ → List ℕ → Ordering
bytes_cmp a b = slice_cmp nat_cmp a b

abbrev pub bytes_below : List ℕ → List ℕ → Bool
bytes_below a b = is_lt (bytes_cmp a b)

abbrev pub bytes_same : List ℕ → List ℕ → Bool
bytes_same a b = is_eq (bytes_cmp a b)

-- below a bound, where there is one
abbrev pub below_bound : List ℕ → Option (List ℕ) → Bool
below_bound a None = true
below_bound a (Some bound) = bytes_below a bound
