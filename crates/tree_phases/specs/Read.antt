-- Objects as they are read from their bytes.
use Rattle.std.specs.Prelude.{ℕ, List, Option, Some, None, Result, Ok, Err, unwrap_or}
use Rattle.db_base.specs.declared.names.ObjName.TheVariants as object
use Rattle.db_base.specs.declared.names.Place.TheVariants as place
use Rattle.db_base.specs.declared.trouble.Trouble.{Trouble}
use Rattle.db_base.specs.declared.trouble.Trouble.TheVariants as trouble
use Rattle.byte_format.specs.Whole.{whole, offset}
use Rattle.leaf_view.specs.Leaf.{Leaf, leaf}
use Rattle.node_codec.specs.Inner.{Inner, inner_of, inner_format}
use Rattle.node_codec.specs.Tree.{Tree, tree_of, empty_tree}

-- the tree object that a held get answered; an absent one is the empty tree's
abbrev pub tree_held : Option (List ℕ) → Tree
tree_held None = empty_tree
tree_held (Some bytes) = unwrap_or (tree_of bytes) empty_tree

-- bytes of a page that are in no spelling of its kind
abbrev pub damaged : ℕ → ℕ → ℕ → Trouble
damaged tree page at = trouble.Damaged (place.Object (object.Page tree page)) at

-- the inner node of a page
abbrev pub inner_or : ℕ → ℕ → ℕ → Option Inner → Result Inner Trouble
inner_or tree page at (Some n) = Ok n
inner_or tree page at None = Err (damaged tree page at)

abbrev pub inner_read : ℕ → ℕ → List ℕ → Result Inner Trouble
inner_read tree page bytes = inner_or tree page (offset inner_format bytes) (inner_of bytes)

-- the leaf of a page
abbrev pub leaf_or : ℕ → ℕ → ℕ → Result Leaf ℕ → Result Leaf Trouble
leaf_or tree page at (Ok l) = Ok l
leaf_or tree page at (Err left) = Err (damaged tree page at)

abbrev pub leaf_read : ℕ → ℕ → List ℕ → Result Leaf Trouble
leaf_read tree page bytes = leaf_or tree page (offset leaf bytes) (whole leaf bytes)
