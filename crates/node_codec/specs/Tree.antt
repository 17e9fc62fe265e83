-- Roots.
use Rattle.std.specs.Prelude.{ℕ, ◌-◌, ◌≤◌, true, false, IsTrue, List, [], ◌∷◌, Option, None, Result, Ok, ◌+◌, nat_lt, if◌then◌else◌}
use Rattle.std.specs.Result.{result_ok}
use Rattle.std.specs.Int.{w8, w64}
use Rattle.byte_format.specs.Format.{greatest, ◌>>=◌, Format, number, behind, ◌then◌, list_of, seen_as}
use Rattle.byte_format.specs.Whole.{IsSpelling, whole}
use Rattle.node_codec.specs.Node.{Entry, entry, plain_entry, client_number, plain_number, raised, with_entry}
use Rattle.node_codec.specs.Plain.{items_of, IsWholeList}

-- the root of a tree: the next free page, the level above the leaves, for each client the number up to which the records
-- of the tree's queue are applied, and the entries of the level below
pub record Tree : Type 0 where
  pub version : ℕ
  pub next : ℕ
  pub level : ℕ
  pub cursor : List (ℕ × ℕ)
  pub entries : List Entry

-- the tree of a root that was never put
abbrev pub empty_tree : Tree
empty_tree = record { version = 0; next = 2; level = 1; cursor = []; entries = ([], 1) ∷ [] }

abbrev pub TreeFields : Type 0
TreeFields = ℕ × (ℕ × (ℕ × (List (ℕ × ℕ) × List Entry)))

abbrev pub tree_of_fields : TreeFields → Tree
tree_of_fields x = record { version = x.0; next = x.1.0; level = x.1.1.0; cursor = x.1.1.1.0; entries = x.1.1.1.1 }

abbrev pub fields_of_tree : Tree → TreeFields
fields_of_tree t = (t.version, (t.next, (t.level, (t.cursor, t.entries))))

-- the fields in their order, behind the mark 54 and the format's number 01
abbrev pub tree_fields : Format TreeFields
tree_fields = behind 0x54 (behind 1 (number w64 1 greatest then λ version. number w64 2 greatest then λ next. number w8 1 255 then λ level.
    list_of true client_number None then λ cursor. list_of false (entry [] None (next - 1)) None))

abbrev pub tree_format : Format Tree
tree_format = seen_as tree_of_fields fields_of_tree tree_fields

-- the bytes are the spelling of the tree
abbrev pub IsTree : List ℕ → Tree → Type 0
IsTree bytes t = IsSpelling tree_format bytes t

-- the tree has a spelling
abbrev pub HasTreeSpelling : Tree → Type 0
HasTreeSpelling t = IsTrue (tree_format.fits t)

-- the tree has a spelling once its version is above 0
abbrev pub IsSoundTree : Tree → Type 0
IsSoundTree t = HasTreeSpelling (record t { version = 1 })

-- the spelling of a tree
unfoldable pub tree_bytes : Tree → List ℕ
tree_bytes t = tree_format.spelling t

-- the tree that the bytes spell
unfoldable pub tree_of : List ℕ → Option Tree
tree_of bytes = result_ok (whole tree_format bytes)

-- the tree whose lists stand at the front of these bytes
abbrev pub tree_in : ℕ → ℕ → ℕ → List ℕ → List ℕ → Tree
tree_in version next level cursor entries = record { version = version; next = next; level = level; cursor = items_of plain_number cursor; entries = items_of plain_entry entries }

-- the tree that is read where its other fields were and the bytes of its entries are these
abbrev pub tree_read : ℕ → ℕ → ℕ → List ℕ → List ℕ → Result Tree ℕ
tree_read version next level cursor entries = whole (list_of false (entry [] None (next - 1)) None) entries >>= λ es. Ok (record { version = version; next = next; level = level; cursor = items_of plain_number cursor; entries = es })

-- the parts are those of a tree that has a spelling at every version above 0
pub record AreTreeParts (next level : ℕ) (cursor entries : List ℕ) : Type 0 where
  pub cursor_list : IsWholeList plain_number cursor
  pub entry_list : IsWholeList plain_entry entries
  pub fits : HasTreeSpelling (tree_in 1 next level cursor entries)

-- the parts are those of a tree that has a spelling
pub record AreWrittenParts (version next level : ℕ) (cursor entries : List ℕ) : Type 0 where
  pub some : 1 ≤ version
  pub most : version ≤ greatest
  pub parts : AreTreeParts next level cursor entries

-- a root that names one page, one level higher
abbrev pub raised_root : ℕ → Tree → Tree
raised_root page t = record t { level = t.level + 1; entries = ([], page) ∷ [] }

-- the root with one more entry; as it is where the page is not reserved or the low key is there
abbrev pub with_child : List ℕ → ℕ → Tree → Tree
with_child low page t = if nat_lt page t.next then record t { entries = with_entry low page t.entries } else t

-- the root, where the bytes of its numbers and of its entries are these
abbrev pub with_lists : Tree → List ℕ → List ℕ → Tree
with_lists t cursor entries = tree_in t.version t.next t.level cursor entries

-- the root with its numbers raised to these
abbrev pub with_raised : Tree → List (ℕ × ℕ) → Tree
with_raised t cursor = record t { cursor = raised t.cursor cursor }
