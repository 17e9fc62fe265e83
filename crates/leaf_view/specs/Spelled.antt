-- The bytes of records.
use Rattle.std.specs.Prelude.{◌≡◌, ℕ, List, None}
use Rattle.byte_format.specs.Format.{list_spelling}
use Rattle.byte_format.specs.Plain.{items_in}
use Rattle.leaf_view.specs.Leaf.{Entry, plain_entry}

-- records as a list in a format: a byte 1 before each, a byte 0 at the end
abbrev pub records_spelling : ℕ → List Entry → List ℕ
records_spelling format es = list_spelling (λ _. plain_entry format) None es

-- the bytes spell the records in them, and nothing stands behind
abbrev pub IsAll : ℕ → List ℕ → Type 0
IsAll format bytes = bytes ≡ records_spelling format (items_in (plain_entry format) bytes)
