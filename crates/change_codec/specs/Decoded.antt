-- The value that bytes spell, as a total function.
use Rattle.std.specs.Prelude.{ℕ, ◌&&◌, List, Option, Some, None, Result, Ok, Err, if◌then◌else◌}
use Rattle.std.specs.Str.{bytes_eq}
use Rattle.byte_format.specs.Format.{Format}
use Rattle.byte_format.specs.Whole.{whole}

-- the value that was read, where the bytes are its spelling
abbrev pub if_spelled : {A : Type 0} → Format A → List ℕ → Result A ℕ → Option A
if_spelled f bytes (Ok v) = if f.fits v && bytes_eq (f.spelling v) bytes then Some v else None
if_spelled f bytes (Err left) = None

-- the value that all of the bytes spell, where there is one
abbrev pub decoded : {A : Type 0} → Format A → List ℕ → Option A
decoded f bytes = if_spelled f bytes (whole f bytes)
