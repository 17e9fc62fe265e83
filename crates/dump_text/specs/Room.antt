-- How many keys there are, and how many stand above one.
use Rattle.std.specs.Prelude.{ℕ, zero, suc, ◌+◌, ◌-◌, ◌*◌, List, [], ◌∷◌, Option, Some, None}
use Rattle.db_base.specs.Limits.{longest_key}
use Rattle.report_types.specs.declared.stored.Stored.{Stored}

-- how many keys have at most so many bytes: none has no byte, and behind each first byte a key may end or go on
unfoldable pub keys_within : ℕ → ℕ
keys_within zero = 0
keys_within (suc len) = 256 * (keys_within len + 1)

-- how many of them stand above a key: those that go on behind it, and those with a greater byte at one of its places
unfoldable pub keys_above : ℕ → List ℕ → ℕ
keys_above len [] = keys_within len
keys_above zero (b ∷ key) = 0
keys_above (suc len) (b ∷ key) = (255 - b) * (keys_within len + 1) + keys_above len key

-- how many keys stand behind a record, or behind none
abbrev pub room : Option Stored → ℕ
room None = keys_within longest_key
room (Some s) = keys_above longest_key s.key
