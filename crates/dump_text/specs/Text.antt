-- The text of a dump: for each tree a line with its number and how many records it has, and a line for each of these.
use Rattle.std.specs.Prelude.{ℕ, ◌≡◌, ◌<◌, ◌^◌, List, [], ◌∷◌, ◌++◌, length, codes, IfSome}
use Rattle.std.specs.Fmt.{decimal}
use Rattle.std.specs.List.{AllByRecursion, flat_map}
use Rattle.words.specs.Word.{hexadecimal, AreBytes, space, newline}
use Rattle.words.specs.Line.{text_of, last_words}
use Rattle.report_types.specs.declared.stored.Stored.{Stored}
use Rattle.dump_text.specs.declared.dump.DumpedTree.{DumpedTree}
use Rattle.dump_text.specs.Dump.{IsDumpable}

-- words as a line
abbrev pub line_of : List (List ℕ) → List ℕ
line_of words = text_of space words ++ newline ∷ []

-- the line of a tree: its number, and how many records it has
abbrev pub tree_line : ℕ → ℕ → List ℕ
tree_line tree count = line_of (codes "tree" ∷ decimal tree ∷ decimal count ∷ [])

-- the line of a record: its key, its payload, and its attribute where it has one
abbrev pub record_line : Stored → List ℕ
record_line s = line_of (hexadecimal s.key ∷ hexadecimal s.payload ∷ last_words s.attr)

abbrev pub record_lines : List Stored → List ℕ
record_lines records = flat_map record_line records

abbrev pub tree_text : DumpedTree → List ℕ
tree_text t = tree_line t.tree (length t.records) ++ record_lines t.records

abbrev pub dump_text : List DumpedTree → List ℕ
dump_text trees = flat_map tree_text trees

-- bytes are below 256
pub record HasBytes (s : Stored) : Type 0 where
  pub key : AreBytes s.key
  pub payload : AreBytes s.payload
  pub attr : IfSome s.attr AreBytes

-- bytes are below 256, and there are fewer than 2 ^ 64 records: all that a value of the program is
pub record IsInRange (t : DumpedTree) : Type 0 where
  pub count : length t.records < 2 ^ 64
  pub bytes : AllByRecursion HasBytes t.records

-- the text of a dump
pub record IsDump (text : List ℕ) (trees : List DumpedTree) : Type 0 where
  pub in_range : AllByRecursion IsInRange trees
  pub dumpable : IsDumpable trees
  pub is : text ≡ dump_text trees

-- a text with which the text of a dump begins
pub record Begins (text : List ℕ) : Type 0 where
  pub more : List ℕ
  pub trees : List DumpedTree
  pub whole : IsDump (text ++ more) trees
