-- The high key of a page, behind its low key and the number of its right page, which is 0 where there is none.
use Rattle.std.specs.Prelude.{ℕ, not, List, Option, ◌==◌}
use Rattle.std.specs.Int.{w8}
use Rattle.byte_format.specs.Format.{Format, text, ruled, only_where}
use Rattle.byte_format.specs.Order.{bytes_below}

-- the longest high key, in bytes
abbrev pub longest_high : ℕ
longest_high = 64

-- a key above the low key
abbrev pub key_above : List ℕ → Format (List ℕ)
key_above low = ruled (bytes_below low) (text w8 1 longest_high)

-- it is there exactly where there is a right page
abbrev pub high_key : List ℕ → ℕ → Format (Option (List ℕ))
high_key low right = only_where (not (right == 0)) (key_above low)
