-- How many bytes the parts of a leaf's spelling have.
use Rattle.std.specs.Prelude.{◌≡◌, ◌≤◌, ℕ, ◌+◌, ◌^◌, List, [], ◌∷◌, length, Option, Some, None, MatchOption}
use Rattle.db_base.specs.Change.{key_of, payload_set_by, attr_of}
use Rattle.db_base.specs.declared.change.Change.{Change}
use Rattle.leaf_view.specs.declared.done.Done.{Done}
use Rattle.leaf_view.specs.Leaf.{Entry, Leaf}
use Rattle.log_codec.specs.declared.record.PuItem.{PuItem}

abbrev pub high_size : Option (List ℕ) → ℕ
high_size None = 0
high_size (Some key) = 1 + length key

-- mark, format, version, low key, right page, high key
abbrev pub fields_size : List ℕ → Option (List ℕ) → ℕ
fields_size low high = 19 + length low + high_size high

-- entries of the table: the byte that says that one is there, queue, client, number
abbrev pub dones_size : List Done → ℕ
dones_size [] = 0
dones_size (d ∷ ds) = 18 + dones_size ds

-- an attribute with its length before it, where there is one
abbrev pub attr_size : Option (List ℕ) → ℕ
attr_size None = 0
attr_size (Some attr) = 1 + length attr

-- a record: the byte that says that it is there, key, payload, the byte that says whether there is an attribute, and that
abbrev pub entry_size : Entry → ℕ
entry_size e = 5 + length e.key + length e.value.payload + attr_size e.value.attr

abbrev pub entry_size_of : Option Entry → ℕ
entry_size_of None = 0
entry_size_of (Some e) = entry_size e

-- records, and the byte that says that there is none behind them
abbrev pub entries_size : List Entry → ℕ
entries_size [] = 1
entries_size (e ∷ es) = entry_size e + entries_size es

abbrev pub leaf_size : Leaf → ℕ
leaf_size l = fields_size l.low l.high + dones_size l.done + 1 + entries_size l.records

-- ---- how many they have at most behind changes

-- by so much a change lengthens records at most
abbrev pub brought_size : Change → ℕ
brought_size c = 5 + length (key_of c) + length (payload_set_by c) + attr_size (attr_of c)

abbrev pub brought_by : List PuItem → ℕ
brought_by [] = 0
brought_by (x ∷ xs) = brought_size x.rec.change + brought_by xs

-- all that is there, an entry of the table for each of the 64 clients, and what the changes bring
abbrev pub most_size : Leaf → List Entry → List PuItem → ℕ
most_size l es xs = fields_size l.low l.high + (dones_size l.done + 1152) + 1 + (entries_size es + brought_by xs)

-- a number of bytes; none where it is above the greatest usize
abbrev pub IsSize : Option ℕ → ℕ → Type 0
IsSize size n = MatchOption size (2 ^ 64 ≤ n) (λ m. m ≡ n)
