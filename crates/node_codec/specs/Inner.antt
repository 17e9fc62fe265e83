-- Inner nodes.
use Rattle.std.specs.Prelude.{ℕ, false, IsTrue, List, [], ◌∷◌, Option, Some, None, Result, Ok, take, drop, unwrap_or}
use Rattle.std.specs.Result.{result_ok}
use Rattle.std.specs.Int.{w8, w64}
use Rattle.db_base.specs.Limits.{longest_key}
use Rattle.byte_format.specs.Format.{greatest, ◌>>=◌, Format, number, text, behind, ◌then◌, list_of, seen_as}
use Rattle.byte_format.specs.Whole.{IsSpelling, whole}
use Rattle.byte_format.specs.HighKey.{high_key}
use Rattle.node_codec.specs.Node.{Entry, entry, plain_entry, with_entry}
use Rattle.node_codec.specs.Tree.{Tree}
use Rattle.node_codec.specs.Plain.{items_of, IsWholeList}

-- a node above the leaves: it has the keys from low on and below high, where there is one, and then a right page, else 0
pub record Inner : Type 0 where
  pub version : ℕ
  pub level : ℕ
  pub low : List ℕ
  pub right : ℕ
  pub high : Option (List ℕ)
  pub entries : List Entry

abbrev pub InnerFields : Type 0
InnerFields = ℕ × (ℕ × (List ℕ × (ℕ × (Option (List ℕ) × List Entry))))

abbrev pub inner_of_fields : InnerFields → Inner
inner_of_fields x = record { version = x.0; level = x.1.0; low = x.1.1.0; right = x.1.1.1.0; high = x.1.1.1.1.0; entries = x.1.1.1.1.1 }

abbrev pub fields_of_inner : Inner → InnerFields
fields_of_inner n = (n.version, (n.level, (n.low, (n.right, (n.high, n.entries)))))

-- the fields in their order, behind the mark 49 and the format's number 01
abbrev pub inner_fields : Format InnerFields
inner_fields = behind 0x49 (behind 1 (number w64 1 greatest then λ version. number w8 1 255 then λ level. text w8 0 longest_key then λ low.
    number w64 0 greatest then λ right. high_key low right then λ high. list_of false (entry low high greatest) None))

abbrev pub inner_format : Format Inner
inner_format = seen_as inner_of_fields fields_of_inner inner_fields

-- the bytes are the spelling of the node
abbrev pub IsInner : List ℕ → Inner → Type 0
IsInner bytes n = IsSpelling inner_format bytes n

-- the node has a spelling
abbrev pub HasInnerSpelling : Inner → Type 0
HasInnerSpelling n = IsTrue (inner_format.fits n)

-- the spelling of a node
unfoldable pub inner_bytes : Inner → List ℕ
inner_bytes n = inner_format.spelling n

-- the node that the bytes spell
unfoldable pub inner_of : List ℕ → Option Inner
inner_of bytes = result_ok (whole inner_format bytes)

-- the node whose entries stand in these bytes
abbrev pub inner_in : ℕ → ℕ → List ℕ → ℕ → Option (List ℕ) → List ℕ → Inner
inner_in version level low right high entries = record { version = version; level = level; low = low; right = right; high = high; entries = items_of plain_entry entries }

-- the node that is read where its other fields were and the bytes of its entries are these
abbrev pub inner_read : ℕ → ℕ → List ℕ → ℕ → Option (List ℕ) → List ℕ → Result Inner ℕ
inner_read version level low right high entries = whole (list_of false (entry low high greatest) None) entries >>= λ es. Ok (record { version = version; level = level; low = low; right = right; high = high; entries = es })

-- the parts are those of a node that has a spelling
pub record AreInnerParts (version level : ℕ) (low : List ℕ) (right : ℕ) (high : Option (List ℕ)) (entries : List ℕ) : Type 0 where
  pub entry_list : IsWholeList plain_entry entries
  pub fits : HasInnerSpelling (inner_in version level low right high entries)

-- the low key of the first entry
abbrev pub first_low_of : List Entry → Option (List ℕ)
first_low_of [] = None
first_low_of (e ∷ es) = Some e.0

-- the first n entries of a node whose right page is now another
abbrev pub left_node : ℕ → ℕ → Inner → Inner
left_node n page node = record node { right = page; high = first_low_of (drop n node.entries); entries = take n node.entries }

-- the other entries, as a node of its own that was never put before
abbrev pub right_node : ℕ → Inner → Inner
right_node n node = record node { version = 1; low = unwrap_or (first_low_of (drop n node.entries)) []; entries = drop n node.entries }

-- the entries of a root as a node without a right page that was never put before
abbrev pub node_of_root : Tree → Inner
node_of_root t = record { version = 1; level = t.level; low = []; right = 0; high = None; entries = t.entries }

-- the node, where the bytes of its entries are these
abbrev pub with_list : Inner → List ℕ → Inner
with_list n entries = inner_in n.version n.level n.low n.right n.high entries

-- these are the bytes of the entries of such a node
abbrev pub IsListOf : Inner → List ℕ → Type 0
IsListOf n entries = AreInnerParts n.version n.level n.low n.right n.high entries

-- the node with one more entry in its place
abbrev pub with_link : Inner → List ℕ → ℕ → Inner
with_link n low page = record n { entries = with_entry low page n.entries }
