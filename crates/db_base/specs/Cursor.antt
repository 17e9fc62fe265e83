-- Numbers by client.
use Rattle.std.specs.Prelude.{◌≡◌, ℕ, List, ◌==◌, unwrap_or, if◌then◌else◌}
use Rattle.std.specs.Ordering.{nat_cmp}
use Rattle.std.specs.BTreeMap.{is_at}
use Rattle.std.specs.Map.{lookup}

-- a client's number in a list of pairs of client and number, 0 where there is none
abbrev pub number_of : List (ℕ × ℕ) → ℕ → ℕ
number_of pairs client = unwrap_or (lookup (is_at (nat_cmp client)) pairs) 0

-- the client's number is set, and those of the others stay
abbrev pub SetsNumber : List (ℕ × ℕ) → List (ℕ × ℕ) → ℕ → ℕ → Type 0
SetsNumber old new client number = (q : ℕ) → number_of new q ≡ (if q == client then number else number_of old q)
