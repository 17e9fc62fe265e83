-- What a cache hands out: views of the kept bytes.
use Rattle.std.specs.Prelude.{ℕ, List, Option, Some, None}
use Rattle.std.specs.Result.{result_ok}
use Rattle.byte_format.specs.Whole.{whole}
use Rattle.db_base.specs.declared.names.ObjName.{ObjName}
use Rattle.db_base.specs.declared.names.ObjName.TheVariants.{Head, Tree, Page}
use Rattle.leaf_view.specs.Leaf.{Leaf, leaf}
use Rattle.leaf_view.specs.Lookup.{empty_leaf}
use Rattle.node_codec.specs.Inner.{Inner, inner_of}
use Rattle.node_codec.specs.Tree.{Tree as Root, empty_tree, tree_of}
use Rattle.page_cache.specs.Cache.{Cache, kept_at}

-- the leaf that bytes spell
unfoldable pub leaf_in : List ℕ → Option Leaf
leaf_in bytes = result_ok (whole leaf bytes)

-- what is kept, as a leaf
abbrev pub as_leaf : Option (Option (List ℕ)) → Option Leaf
as_leaf None = None
as_leaf (Some None) = Some empty_leaf
as_leaf (Some (Some bytes)) = leaf_in bytes

-- as an inner node
abbrev pub as_inner : Option (Option (List ℕ)) → Option Inner
as_inner None = None
as_inner (Some None) = None
as_inner (Some (Some bytes)) = inner_of bytes

-- as a root
abbrev pub as_root : Option (Option (List ℕ)) → Option Root
as_root None = None
as_root (Some None) = Some empty_tree
as_root (Some (Some bytes)) = tree_of bytes

-- the leaf that a cache keeps at a page
abbrev pub leaf_at : Cache → ObjName → Option Leaf
leaf_at c (Head client) = None
leaf_at c (Tree tree) = None
leaf_at c (Page tree page) = as_leaf (kept_at c (Page tree page))

-- the inner node that it keeps at a page
abbrev pub inner_at : Cache → ObjName → Option Inner
inner_at c (Head client) = None
inner_at c (Tree tree) = None
inner_at c (Page tree page) = as_inner (kept_at c (Page tree page))

-- the root that it keeps of a tree
abbrev pub root_at : Cache → ObjName → Option Root
root_at c (Head client) = None
root_at c (Tree tree) = as_root (kept_at c (Tree tree))
root_at c (Page tree page) = None
