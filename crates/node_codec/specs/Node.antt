-- The entries of roots and inner nodes, and the numbers by client of a root.
use Rattle.std.specs.Prelude.{◌≡◌, ℕ, zero, suc, max, ◌==◌, ◌+◌, Bool, false, List, [], ◌∷◌, ◌++◌, length, Option, Some, None, nat_le, if◌then◌else◌}
use Rattle.std.specs.List.{AllByRecursion}
use Rattle.std.specs.Int.{w8, w64, to_be_bytes}
use Rattle.byte_format.specs.Format.{Format, greatest, number, text, ruled, ◌then◌}
use Rattle.db_base.specs.Cursor.{number_of}
use Rattle.db_base.specs.Limits.{longest_key, last_client}
use Rattle.byte_format.specs.Order.{bytes_below, bytes_same, below_bound}

-- a low key, and the page that holds the keys from it on
abbrev pub Entry : Type 0
Entry = List ℕ × ℕ

-- an entry as it stands in the bytes
abbrev pub plain_entry : Format Entry
plain_entry = text w8 0 longest_key then λ _. number w64 1 greatest

-- the first low key is that of the node, and low keys ascend strictly
abbrev pub follows : List ℕ → Option Entry → List ℕ → Bool
follows low None key = bytes_same key low
follows low (Some before) key = bytes_below before.0 key

-- whether a low key may stand in a node from low on and below high, behind an entry
abbrev pub may_stand : List ℕ → Option (List ℕ) → Option Entry → List ℕ → Bool
may_stand low high before key = if follows low before key then below_bound key high else false

-- an entry by its rules, in a node from low on and below high whose children are numbered up to last
abbrev pub entry : List ℕ → Option (List ℕ) → ℕ → Option Entry → Format Entry
entry low high last before = ruled (may_stand low high before) (text w8 0 longest_key) then λ _. ruled (λ page. nat_le page last) (number w64 1 greatest)

-- the later one, where there is one
abbrev pub later_of : Option Entry → Option Entry → Option Entry
later_of first (Some entry) = Some entry
later_of first None = first

-- the last entry whose low key is at most the key; since low keys ascend, the one with the greatest
abbrev pub child_of : List ℕ → List Entry → Option Entry
child_of key [] = None
child_of key (e ∷ es) = later_of (if bytes_below key e.0 then None else Some e) (child_of key es)

-- a client from `least` on and its number
abbrev pub number_from : ℕ → Format (ℕ × ℕ)
number_from least = number w8 least last_client then λ _. number w64 1 greatest

-- as they stand in the bytes
abbrev pub plain_number : Format (ℕ × ℕ)
plain_number = number_from 1

-- clients ascend strictly
abbrev pub least_client : Option (ℕ × ℕ) → ℕ
least_client None = 1
least_client (Some before) = before.0 + 1

-- a client and its number by their rules
abbrev pub client_number : Option (ℕ × ℕ) → Format (ℕ × ℕ)
client_number before = number_from (least_client before)

-- the clients from c on, as many as count, each with its number where that is above 0
unfoldable pub pairs_from : (ℕ → ℕ) → ℕ → ℕ → List (ℕ × ℕ)
pairs_from number c zero = []
pairs_from number c (suc count) = if number c == 0 then pairs_from number (suc c) count else (c, number c) ∷ pairs_from number (suc c) count

-- each client with its number where that is above 0, ascending by client
unfoldable pub pairs_of : (ℕ → ℕ) → List (ℕ × ℕ)
pairs_of number = pairs_from number 1 last_client

-- for each client the greater of two numbers
unfoldable pub raised : List (ℕ × ℕ) → List (ℕ × ℕ) → List (ℕ × ℕ)
raised numbers others = pairs_of (λ c. max (number_of numbers c) (number_of others c))

-- what a client's number adds to the bytes of a list
abbrev pub number_bytes : ℕ → ℕ → List ℕ
number_bytes c n = if n == 0 then [] else 1 ∷ to_be_bytes w8 c ++ to_be_bytes w64 n

-- the page that a number names, 0 for none
abbrev pub page_at : ℕ → Option ℕ
page_at n = if n == 0 then None else Some n

-- part stands somewhere in the bytes
abbrev pub LiesIn : List ℕ → List ℕ → Type 0
LiesIn part bytes = (front : List ℕ) × (back : List ℕ) × (bytes ≡ front ++ part ++ back)

-- the entries with one more in its place; as they are where its low key is there
abbrev pub with_entry : List ℕ → ℕ → List Entry → List Entry
with_entry low page [] = (low, page) ∷ []
with_entry low page (e ∷ es) = if bytes_below low e.0 then (low, page) ∷ e ∷ es else (if bytes_same low e.0 then e ∷ es else e ∷ with_entry low page es)

-- what an entry adds to the bytes of a list
abbrev pub entry_bytes : List ℕ → ℕ → List ℕ
entry_bytes low page = 1 ∷ (to_be_bytes w8 (length low) ++ low) ++ to_be_bytes w64 page

-- each low key stands somewhere in the bytes
abbrev pub LowKeysLieIn : List ℕ → List Entry → Type 0
LowKeysLieIn bytes entries = AllByRecursion (λ (e : Entry). LiesIn e.0 bytes) entries
