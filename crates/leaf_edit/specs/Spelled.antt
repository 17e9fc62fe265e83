-- The parts of a leaf's spelling.
use Rattle.std.specs.Prelude.{ℕ, Bool, nat_lt, List, [], ◌∷◌, ◌++◌, length, Option, Some, None, if◌then◌else◌}
use Rattle.std.specs.Int.{w8, w16, w64, to_be_bytes}
use Rattle.leaf_view.specs.declared.done.Done.{Done}
use Rattle.leaf_view.specs.Leaf.{Entry, Leaf}

-- a key with its length before it, where there is one
abbrev pub high_bytes : Option (List ℕ) → List ℕ
high_bytes None = []
high_bytes (Some key) = to_be_bytes w8 (length key) ++ key

-- version, low key, right page and high key, behind the mark and the format, which is 2
abbrev pub fields_bytes : ℕ → List ℕ → ℕ → Option (List ℕ) → List ℕ
fields_bytes version low right high = 76 ∷ 2 ∷ (to_be_bytes w64 version ++ ((to_be_bytes w8 (length low) ++ low) ++ (to_be_bytes w64 right ++ high_bytes high)))

-- all that stands before the two lists of a leaf, under this version
abbrev pub head_bytes : Leaf → ℕ → List ℕ
head_bytes l version = fields_bytes version l.low l.right l.high

-- an entry of the table, with the byte that says that it is there
abbrev pub done_bytes : Done → List ℕ
done_bytes d = 1 ∷ (to_be_bytes w64 d.queue ++ (to_be_bytes w8 d.client ++ to_be_bytes w64 d.number))

-- entries of the table, before `rest`
abbrev pub dones_before : List Done → List ℕ → List ℕ
dones_before [] rest = rest
dones_before (d ∷ ds) rest = done_bytes d ++ dones_before ds rest

-- whether a queue is on this side of another, above it or below it
abbrev pub is_beside : Bool → ℕ → Done → Bool
is_beside above queue d = if above then nat_lt queue d.queue else nat_lt d.queue queue

-- an attribute with its length before it, behind the byte that says whether there is one
abbrev pub attr_bytes : Option (List ℕ) → List ℕ
attr_bytes None = 0 ∷ []
attr_bytes (Some attr) = 1 ∷ (to_be_bytes w8 (length attr) ++ attr)

-- a record, with the byte that says that it is there
abbrev pub entry_bytes : Entry → List ℕ
entry_bytes e = 1 ∷ ((to_be_bytes w8 (length e.key) ++ e.key)
    ++ ((to_be_bytes w16 (length e.value.payload) ++ e.value.payload) ++ attr_bytes e.value.attr))

-- nothing, where there is no record
abbrev pub entry_bytes_of : Option Entry → List ℕ
entry_bytes_of None = []
entry_bytes_of (Some e) = entry_bytes e

-- records, and the byte that says that there is none behind them
abbrev pub entries_bytes : List Entry → List ℕ
entries_bytes [] = 0 ∷ []
entries_bytes (e ∷ es) = entry_bytes e ++ entries_bytes es

-- records one behind another
abbrev pub run_bytes : List Entry → List ℕ
run_bytes [] = []
run_bytes (e ∷ es) = entry_bytes e ++ run_bytes es
