-- What the bytes of an object are read as: a page as a leaf or as an inner node, all else as a root.
use Rattle.std.specs.Prelude.{◌≡◌, ℕ, Bool, true, false, if◌then◌else◌, List, Option, Some, None, Result, Ok, Err, ◌⊎◌}
use Rattle.byte_format.specs.Format.{mark_at}
use Rattle.byte_format.specs.Whole.{whole, offset}
use Rattle.db_base.specs.declared.names.ObjName.{ObjName}
use Rattle.db_base.specs.declared.names.ObjName.TheVariants.{Head, Tree, Page}
use Rattle.leaf_view.specs.Leaf.{Leaf, IsLeaf, leaf}
use Rattle.node_codec.specs.Tree.{Tree as Root, IsTree, tree_format}
use Rattle.node_codec.specs.Inner.{Inner, IsInner, inner_format}

-- the version of what was read, or the offset of the first fault
abbrev pub version_or : {A : Type 0} → (A → ℕ) → ℕ → Result A ℕ → Result ℕ ℕ
version_or version offset (Ok v) = Ok (version v)
version_or version offset (Err left) = Err offset

unfoldable pub leaf_version : List ℕ → Result ℕ ℕ
leaf_version bytes = version_or (λ (l : Leaf). l.version) (offset leaf bytes) (whole leaf bytes)

unfoldable pub inner_version : List ℕ → Result ℕ ℕ
inner_version bytes = version_or (λ (n : Inner). n.version) (offset inner_format bytes) (whole inner_format bytes)

unfoldable pub root_version : List ℕ → Result ℕ ℕ
root_version bytes = version_or (λ (t : Root). t.version) (offset tree_format bytes) (whole tree_format bytes)

-- the version in the bytes of an object, or the offset of their first fault
abbrev pub version_read : ObjName → Bool → List ℕ → Result ℕ ℕ
version_read (Head client) as_leaf bytes = root_version bytes
version_read (Tree tree) as_leaf bytes = root_version bytes
version_read (Page tree page) as_leaf bytes = if as_leaf then leaf_version bytes else inner_version bytes

-- bytes of a page spell a leaf or an inner node
abbrev pub IsPageSpelled : List ℕ → Type 0
IsPageSpelled bytes = ((l : Leaf) × IsLeaf bytes l) ⊎ ((n : Inner) × IsInner bytes n)

abbrev pub is_found : {A E : Type 0} → Result A E → Bool
is_found (Ok x) = true
is_found (Err e) = false

-- bytes begin as those of a leaf do
abbrev pub is_marked : List ℕ → Bool
is_marked bytes = is_found (mark_at 76 bytes)

-- what is kept of an object is in a spelling of its kind; of the pages, page 1 alone may be kept as absent
abbrev pub IsSpelled : ObjName → Option (List ℕ) → Type 0
IsSpelled (Head client) None = Unit {0}
IsSpelled (Tree tree) None = Unit {0}
IsSpelled (Page tree page) None = page ≡ 1
IsSpelled (Head client) (Some bytes) = (t : Root) × IsTree bytes t
IsSpelled (Tree tree) (Some bytes) = (t : Root) × IsTree bytes t
IsSpelled (Page tree page) (Some bytes) = IsPageSpelled bytes
