-- The slot of a key: most keys that differ have different ones.
use Rattle.std.specs.Prelude.{ℕ, ◌+◌, ◌*◌, ◌%◌, List, [], ◌∷◌}

-- the remainder of the bytes as the digits of a number, the most significant one first
abbrev pub slot_from : ℕ → List ℕ → ℕ
slot_from slot [] = slot
slot_from slot (byte ∷ bytes) = slot_from ((slot * 31 + byte) % 4096) bytes

unfoldable pub slot_of : List ℕ → ℕ
slot_of key = slot_from 0 key
