-- What a sink tells that keeps each write by itself.
use Rattle.std.specs.Prelude.{ℕ, List, Some}
use Rattle.db_io.specs.Writes.{Written}

-- its writes; none of its calls fails
abbrev pub told_of : List (List ℕ) → Written
told_of writes = record { writes = Some writes; faults = 0 }
