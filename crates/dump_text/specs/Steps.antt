-- What was read of a text, one line further.
use Rattle.std.specs.Prelude.{ℕ, ◌-◌, Bool, true, nat_le, nat_lt, ◌&&◌, List, [], ◌∷◌, ◌++◌, length, Option, Some, None, if◌then◌else◌}
use Rattle.db_base.specs.Limits.{longest_key, longest_payload, longest_attr, last_tree}
use Rattle.words.specs.Word.{space}
use Rattle.words.specs.Line.{◌>>=◌, parts_of}
use Rattle.report_types.specs.declared.stored.Stored.{Stored}
use Rattle.dump_text.specs.declared.dump.DumpedTree.{DumpedTree}
use Rattle.dump_text.specs.declared.reading.PartialTree.{PartialTree}
use Rattle.dump_text.specs.declared.reading.Reading.{Reading}
use Rattle.dump_text.specs.Dump.{stored_below, tree_below}
use Rattle.dump_text.specs.Room.{room}
use Rattle.dump_text.specs.Words.{tree_of_words, stored_of_words}

-- the last item, or one that stands before all
abbrev pub last_behind : {A : Type 0} → Option A → List A → Option A
last_behind before [] = before
last_behind before (x ∷ xs) = last_behind (Some x) xs

abbrev pub is_behind : {A : Type 0} → (A → A → Bool) → Option A → A → Bool
is_behind below None x = true
is_behind below (Some before) x = below before x

-- the length of an attribute is allowed
abbrev pub is_attr : Option (List ℕ) → Bool
is_attr None = true
is_attr (Some bytes) = nat_lt 0 (length bytes) && nat_le (length bytes) longest_attr

-- the lengths of a record are allowed
abbrev pub is_record : Stored → Bool
is_record s = nat_lt 0 (length s.key) && nat_le (length s.key) longest_key && nat_le (length s.payload) longest_payload && is_attr s.attr

-- a record may be the next one of a tree: it stands behind the others, and those that its tree still promises can stand behind it
abbrev pub continues : PartialTree → Stored → Bool
continues o s = is_record s && is_behind stored_below (last_behind None o.records) s && nat_le (o.left - 1) (room (Some s))

-- a tree with one record more, which may be its last one
abbrev pub with_record : List DumpedTree → PartialTree → Stored → Reading
with_record trees o s =
    if nat_le o.left 1
    then record { trees = trees ++ (record { tree = o.tree; records = o.records ++ s ∷ [] }) ∷ []; partial = None }
    else record { trees = trees; partial = Some (record { tree = o.tree; records = o.records ++ s ∷ []; left = o.left - 1 }) }

-- a tree may be the next one: it stands behind the others, and has a record
abbrev pub may_open : List DumpedTree → ℕ → ℕ → Bool
may_open trees tree count = nat_le 1 tree && nat_le tree last_tree && nat_le 1 count && is_behind tree_below (last_behind None trees) (record { tree = tree; records = [] })

-- behind whole trees
unfoldable pub with_tree_line : List DumpedTree → List ℕ → Option Reading
with_tree_line trees line = do
  t ← tree_of_words (parts_of space line)
  if may_open trees t.0 t.1 then Some (record { trees = trees; partial = Some (record { tree = t.0; records = []; left = t.1 }) }) else None

-- within a tree
unfoldable pub with_record_line : List DumpedTree → PartialTree → List ℕ → Option Reading
with_record_line trees o line = do
  s ← stored_of_words (parts_of space line)
  if continues o s then Some (with_record trees o s) else None

-- one line further, where the line may stand there
abbrev pub step : List DumpedTree → Option PartialTree → List ℕ → Option Reading
step trees None line = with_tree_line trees line
step trees (Some o) line = with_record_line trees o line
