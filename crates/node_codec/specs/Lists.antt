-- The lists that stand in a node: its entries, and the numbers by client of a root.
use Rattle.std.specs.Prelude.{ℕ, true, false, List, Option, None}
use Rattle.byte_format.specs.Format.{Reading, Format, list_at, list_of, list_spelling}
use Rattle.node_codec.specs.Node.{Entry, plain_entry, plain_number, client_number, entry}
use Rattle.node_codec.specs.Plain.{items_of}

-- the entries at the front of bytes
abbrev pub entries_in : List ℕ → List Entry
entries_in bytes = items_of plain_entry bytes

-- entries as bytes
abbrev pub spelled : List Entry → List ℕ
spelled es = list_spelling (λ _. plain_entry) None es

-- the entries by their rules, in a node from low on and below high whose children are numbered up to last
abbrev pub entries_at : List ℕ → Option (List ℕ) → ℕ → List ℕ → Reading (List Entry)
entries_at low high last bytes = list_at false (entry low high last) None bytes

abbrev pub entries_of : List ℕ → Option (List ℕ) → ℕ → Format (List Entry)
entries_of low high last = list_of false (entry low high last) None

-- the numbers at the front of bytes
abbrev pub numbers_in : List ℕ → List (ℕ × ℕ)
numbers_in bytes = items_of plain_number bytes

-- the numbers by their rules
abbrev pub numbers_at : List ℕ → Reading (List (ℕ × ℕ))
numbers_at bytes = list_at true client_number None bytes
