-- What is put for the pieces of a page, and the entries that the level above gets for them.
use Rattle.std.specs.Prelude.{ℕ, ◌+◌, IsTrue, List, [], ◌∷◌, map}
use Rattle.leaf_view.specs.Leaf.{Leaf, leaf}
use Rattle.node_codec.specs.Node.{Entry}
use Rattle.node_codec.specs.Inner.{Inner, HasInnerSpelling, inner_bytes, node_of_root}
use Rattle.node_codec.specs.Tree.{Tree, with_child}
use Rattle.split_plan.specs.declared.entry_list.NewEntry.{NewEntry}
use Rattle.split_plan.specs.declared.put_list.PagePut.{PagePut}
use Rattle.split_plan.specs.Cut.{IsCut, pieces_of}
use Rattle.split_plan.specs.Part.{Part, LeafPart, NodePart, leaf_of_part, node_of_part, part_of_leaf, part_of_node, entry_key, record_key}

-- pieces from left to right on their pages: the first has `page`, the others the numbers from `free` on
abbrev pub on_pages : {A X : Type 0} → ℕ → ℕ → List (Part A X) → List (ℕ × Part A X)
on_pages page free [] = []
on_pages page free (p ∷ ps) = (page, p) ∷ on_pages free (free + 1) ps

-- the put of a piece on its page
abbrev pub put_of : {A X : Type 0} → (Part A X → List ℕ) → ℕ × Part A X → PagePut
put_of bytes x = record { page = x.0; bytes = bytes x.1 }

-- the entry of a piece
abbrev pub entry_of : {A X : Type 0} → ℕ × Part A X → NewEntry
entry_of x = record { low = x.1.low; page = x.0 }

-- ---- leaves

abbrev pub leaf_bytes : LeafPart → List ℕ
leaf_bytes p = leaf.spelling (leaf_of_part p)

-- it has a spelling as a leaf
pub record IsLeafPart (p : LeafPart) : Type 0 where
  pub fits : IsTrue (leaf.fits (leaf_of_part p))

-- the pieces of a leaf
abbrev pub leaf_pieces : ℕ → Leaf → List LeafPart
leaf_pieces free l = pieces_of record_key free (part_of_leaf l)

-- ---- inner nodes

abbrev pub node_bytes : NodePart → List ℕ
node_bytes p = inner_bytes (node_of_part p)

-- it has a spelling as an inner node
pub record IsNodePart (p : NodePart) : Type 0 where
  pub fits : HasInnerSpelling (node_of_part p)

-- the pieces of an inner node
abbrev pub node_pieces : ℕ → Inner → List NodePart
node_pieces free n = pieces_of entry_key free (part_of_node n)

-- ---- roots

-- the pieces of a root: inner nodes of its level, all of them new, the first on the page `first`
abbrev pub root_pieces : ℕ → Tree → List NodePart
root_pieces first t = node_pieces (first + 1) (node_of_root t)

-- an entry as it stands in a root
abbrev pub child_of : NewEntry → Entry
child_of e = (e.low, e.page)

-- the root with more entries, added one after another
abbrev pub with_children : List NewEntry → Tree → Tree
with_children [] t = t
with_children (e ∷ es) t = with_children es (with_child e.low e.page t)

-- the root that names new pages, one level higher
abbrev pub root_above : List NewEntry → Tree → Tree
root_above es t = record t { level = t.level + 1; entries = map child_of es }

-- ---- the puts and the entries

-- of a leaf on a page
abbrev pub leaf_put : ℕ → Leaf → PagePut
leaf_put page l = put_of leaf_bytes (page, part_of_leaf l)

abbrev pub leaf_entry : ℕ → Leaf → NewEntry
leaf_entry page l = entry_of (page, part_of_leaf l)

-- of all pieces of a leaf, from left to right
abbrev pub leaf_puts : ℕ → ℕ → Leaf → List PagePut
leaf_puts page free l = map (put_of leaf_bytes) (on_pages page free (leaf_pieces free l))

abbrev pub leaf_entries : ℕ → ℕ → Leaf → List NewEntry
leaf_entries page free l = map entry_of (on_pages page free (leaf_pieces free l))

-- of an inner node on a page
abbrev pub node_put : ℕ → Inner → PagePut
node_put page n = put_of node_bytes (page, part_of_node n)

abbrev pub node_entry : ℕ → Inner → NewEntry
node_entry page n = entry_of (page, part_of_node n)

-- of all pieces of an inner node, from left to right
abbrev pub node_puts : ℕ → ℕ → Inner → List PagePut
node_puts page free n = map (put_of node_bytes) (on_pages page free (node_pieces free n))

abbrev pub node_entries : ℕ → ℕ → Inner → List NewEntry
node_entries page free n = map entry_of (on_pages page free (node_pieces free n))

-- of all nodes that a root is cut into, from left to right
abbrev pub root_puts : ℕ → Tree → List PagePut
root_puts free t = map (put_of node_bytes) (on_pages free (free + 1) (root_pieces free t))

abbrev pub root_entries : ℕ → Tree → List NewEntry
root_entries free t = map entry_of (on_pages free (free + 1) (root_pieces free t))

-- ---- the pieces are cuts

abbrev pub IsLeafCut : ℕ → Leaf → Type 0
IsLeafCut free l = IsCut record_key free (part_of_leaf l) (leaf_pieces free l)

abbrev pub IsNodeCut : ℕ → Inner → Type 0
IsNodeCut free n = IsCut entry_key free (part_of_node n) (node_pieces free n)

abbrev pub IsRootCut : ℕ → Tree → Type 0
IsRootCut free t = IsCut entry_key (free + 1) (part_of_node (node_of_root t)) (root_pieces free t)
