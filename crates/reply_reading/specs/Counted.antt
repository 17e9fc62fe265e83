-- How lists behind their length are read: the records of a scan, and the lists of a report, line by line.
use Rattle.std.specs.Prelude.{ℕ, suc, zero, ◌&&◌, nat_le, List, [], ◌∷◌, length, codes, Option, Some, None, option_map, if◌then◌else◌}
use Rattle.std.specs.Str.{bytes_eq}
use Rattle.db_base.specs.Limits.{longest_key, longest_payload, longest_attr}
use Rattle.db_base.specs.declared.change.Change.{Change}
use Rattle.db_base.specs.declared.change.Change.TheVariants.{Insert, Update, Delete, Add}
use Rattle.db_base.specs.declared.pair.Pair.{Pair}
use Rattle.report_types.specs.declared.entry.Entry.{Entry}
use Rattle.report_types.specs.declared.report.Report.{Report}
use Rattle.report_types.specs.declared.stored.Stored.{Stored}
use Rattle.words.specs.Word.{space}
use Rattle.words.specs.Line.{◌>>=◌, parts_of, word_at, number_at, bytes_at, end_at, last_of, one_of, two_of}
use Rattle.reply_reading.specs.Naming.{client_of, tree_alone}

-- so many texts, each read as an item, and the texts behind them
unfoldable pub counted : {A : Type 0} → (List ℕ → Option A) → ℕ → List (List ℕ) → Option (List A × List (List ℕ))
counted item zero texts = Some ([], texts)
counted item (suc n) [] = None
counted item (suc n) (text ∷ texts) = do
  first ← item text
  rest ← counted item n texts
  Some (first ∷ rest.0, rest.1)

-- ---- records

-- a key, a payload and nothing else
unfoldable pub pair_of : List (List ℕ) → Option Pair
pair_of parts = do
  key ← bytes_at parts
  payload ← bytes_at key.1
  end ← end_at payload.1
  Some (record { key = key.0; payload = payload.0 })

-- a record of a text with a separator between key and payload
abbrev pub pair_by : ℕ → List ℕ → Option Pair
pair_by separator text = pair_of (parts_of separator text)

-- a key, a payload, an attribute or none, and nothing else
unfoldable pub stored_of : List (List ℕ) → Option Stored
stored_of words = do
  key ← bytes_at words
  payload ← bytes_at key.1
  attr ← last_of payload.1
  Some (record { key = key.0; payload = payload.0; attr = attr })

-- a record of a leaf of a line
abbrev pub stored_by : List ℕ → Option Stored
stored_by line = stored_of (parts_of space line)

-- a number, so many records as words, and nothing else
unfoldable pub scan_of : List (List ℕ) → Option (List Pair)
scan_of words = do
  count ← number_at words
  pairs ← counted (pair_by 61) count.0 count.1
  end ← end_at pairs.1
  Some pairs.0

-- ---- entries

-- 1 to 64 bytes
unfoldable pub key_of : List ℕ → Option (List ℕ)
key_of bytes = if nat_le 1 (length bytes) && nat_le (length bytes) longest_key then Some bytes else None

-- at most 1,024 bytes
unfoldable pub payload_of : List ℕ → Option (List ℕ)
payload_of bytes = if nat_le (length bytes) longest_payload then Some bytes else None

-- 1 to 32 bytes, or none
unfoldable pub attr_of : Option (List ℕ) → Option (Option (List ℕ))
attr_of None = Some None
attr_of (Some bytes) = if nat_le 1 (length bytes) && nat_le (length bytes) longest_attr then Some (Some bytes) else None

-- a key and nothing else
unfoldable pub key_alone : List (List ℕ) → Option (List ℕ)
key_alone words = do
  bytes ← bytes_at words
  end ← end_at bytes.1
  key_of bytes.0

-- a key, a payload and nothing else
unfoldable pub record_alone : List (List ℕ) → Option (List ℕ × List ℕ)
record_alone words = do
  first ← bytes_at words
  second ← bytes_at first.1
  end ← end_at second.1
  key ← key_of first.0
  payload ← payload_of second.0
  Some (key, payload)

-- a key, a payload, an attribute or none, and nothing else
unfoldable pub insert_alone : List (List ℕ) → Option (List ℕ × List ℕ × Option (List ℕ))
insert_alone words = do
  first ← bytes_at words
  second ← bytes_at first.1
  last ← last_of second.1
  key ← key_of first.0
  payload ← payload_of second.0
  attr ← attr_of last
  Some (key, payload, attr)

-- a key, an amount and nothing else
unfoldable pub sum_alone : List (List ℕ) → Option (List ℕ × ℕ)
sum_alone words = do
  bytes ← bytes_at words
  amount ← number_at bytes.1
  end ← end_at amount.1
  key ← key_of bytes.0
  Some (key, amount.0)

-- the change that a word begins
unfoldable pub change_by : List ℕ → List (List ℕ) → Option Change
change_by kind words =
    if bytes_eq kind (codes "insert") then option_map (λ x. Insert x.0 x.1 x.2) (insert_alone words)
    else if bytes_eq kind (codes "update") then option_map (λ x. Update x.0 x.1) (record_alone words)
    else if bytes_eq kind (codes "delete") then option_map Delete (key_alone words)
    else if bytes_eq kind (codes "add") then option_map (λ x. Add x.0 x.1) (sum_alone words)
    else None

unfoldable pub change_of : List (List ℕ) → Option Change
change_of words = do
  kind ← word_at words
  change_by kind.0 kind.1

-- an entry of a tree
unfoldable pub entry_of : ℕ → List (List ℕ) → Option Entry
entry_of tree words = do
  number ← number_at words
  client ← client_of number.0
  epoch ← number_at number.1
  txn ← number_at epoch.1
  change ← change_of txn.1
  Some (record { client = client; epoch = epoch.0; txn = txn.0; tree = tree; change = change })

-- an entry of a line
abbrev pub entry_by : ℕ → List ℕ → Option Entry
entry_by tree line = entry_of tree (parts_of space line)

-- ---- reports

-- the words behind a name
unfoldable pub named : List ℕ → List (List ℕ) → Option (List (List ℕ))
named name words = do
  word ← word_at words
  if bytes_eq word.0 name then Some word.1 else None

-- the number of a line with a name, and the lines behind it
unfoldable pub count_at : List ℕ → List (List ℕ) → Option (ℕ × List (List ℕ))
count_at name lines = do
  line ← word_at lines
  words ← named name (parts_of space line.0)
  count ← one_of words
  Some (count, line.1)

-- a list behind the line of its name and length, and the lines behind it
unfoldable pub section_at : {A : Type 0} → (List ℕ → Option A) → List ℕ → List (List ℕ) → Option (List A × List (List ℕ))
section_at item name lines = do
  count ← count_at name lines
  counted item count.0 count.1

-- what is left of a tree: the last line of a report
unfoldable pub left_of : List (List ℕ) → Option (ℕ × ℕ)
left_of lines = do
  line ← word_at lines
  end ← end_at line.1
  words ← named (codes "left") (parts_of space line.0)
  two_of words

-- the report of the words behind its first one, and of its other lines
unfoldable pub report_of : List (List ℕ) → List (List ℕ) → Option Report
report_of words lines = do
  tree ← tree_alone words
  committed ← section_at (entry_by tree) (codes "committed") lines
  order ← section_at (entry_by tree) (codes "order") committed.1
  contents ← section_at stored_by (codes "contents") order.1
  left ← left_of contents.1
  Some (record { tree = tree; committed = committed.0; order = order.0; contents = contents.0; heads = left.0; messages = left.1 })
