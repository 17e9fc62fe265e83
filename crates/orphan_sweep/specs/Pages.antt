-- What is read of a tree object and of a page, and where it leads.
use Rattle.std.specs.Prelude.{ℕ, ◌-◌, ◌==◌, List, [], ◌∷◌, Option, Some, None, Result, Ok, Err, if◌then◌else◌}
use Rattle.db_base.specs.declared.names.ObjName.TheVariants as object
use Rattle.db_base.specs.declared.names.Place.TheVariants as place
use Rattle.db_base.specs.declared.trouble.Trouble.{Trouble}
use Rattle.db_base.specs.declared.trouble.Trouble.TheVariants as trouble
use Rattle.byte_format.specs.Order.{bytes_same}
use Rattle.byte_format.specs.Whole.{offset}
use Rattle.leaf_view.specs.Leaf.{Leaf}
use Rattle.leaf_view.specs.Lookup.{page_at}
use Rattle.node_codec.specs.Node.{Entry}
use Rattle.node_codec.specs.Node as node
use Rattle.node_codec.specs.Inner.{Inner}
use Rattle.node_codec.specs.Tree.{Tree, tree_of, tree_format, empty_tree}
use Rattle.ckpt_parts.specs.Leaves.{absent_leaf}
use Rattle.tree_phases.specs.Read.{damaged, inner_read, leaf_read}
use Rattle.orphan_sweep.specs.declared.paths.Link.{Link}
use Rattle.orphan_sweep.specs.declared.paths.Paths.{Paths}
use Rattle.orphan_sweep.specs.declared.spot.Spot.{Spot}

-- ---- the tree object

-- bytes that spell no tree object
abbrev pub root_damage : ℕ → List ℕ → Trouble
root_damage tree bytes = trouble.Damaged (place.Object (object.Tree tree)) (offset tree_format bytes)

abbrev pub root_or : ℕ → List ℕ → Option Tree → Result Tree Trouble
root_or tree bytes (Some t) = Ok t
root_or tree bytes None = Err (root_damage tree bytes)

abbrev pub root_read : ℕ → List ℕ → Result Tree Trouble
root_read tree bytes = root_or tree bytes (tree_of bytes)

-- the tree object that a held get brought; an absent one is the empty tree's
abbrev pub root_held : ℕ → Option (List ℕ) → Result Tree Trouble
root_held tree None = Ok empty_tree
root_held tree (Some bytes) = root_read tree bytes

-- the first page that entries name
abbrev pub first_page : List Entry → ℕ
first_page [] = 1
first_page (e ∷ es) = e.1

-- the first page of a level: the empty low key leads there
abbrev pub leftmost : ℕ → ℕ → Spot
leftmost level page = record { level = level; page = page; low = []; below = None }

-- the first page of the level below the tree object
abbrev pub top_spot : Tree → Spot
top_spot t = leftmost (t.level - 1) (first_page t.entries)

-- ---- where a page leads

-- to its right page, with its high key as the low key there
abbrev pub link_by : Option ℕ → Option (List ℕ) → Option Link
link_by (Some page) (Some high) = Some (record { page = page; low = high })
link_by page high = None

abbrev pub leaf_paths : Leaf → Paths
leaf_paths l = record { right = link_by (page_at l.right) l.high; down = None }

-- .. and to the first page below it
abbrev pub inner_paths : Inner → Paths
inner_paths n = record { right = link_by (node.page_at n.right) n.high; down = Some (first_page n.entries) }

-- ---- what a held get of a page brought

-- an absent page 1 is the empty leaf, and no other leaf is absent
abbrev pub leaf_held : ℕ → ℕ → Option (List ℕ) → Result Leaf Trouble
leaf_held tree page None = absent_leaf page
leaf_held tree page (Some bytes) = leaf_read tree page bytes

-- no inner node is absent; page 1 is a leaf
abbrev pub absent_inner : ℕ → ℕ → Trouble
absent_inner tree page = if page == 1 then damaged tree page 0 else trouble.Absent page

abbrev pub inner_held : ℕ → ℕ → Option (List ℕ) → Result Inner Trouble
inner_held tree page None = Err (absent_inner tree page)
inner_held tree page (Some bytes) = inner_read tree page bytes

-- a page's low key is the one that led to it
abbrev pub fenced : Spot → List ℕ → Paths → Result Paths Trouble
fenced s low paths = if bytes_same s.low low then Ok paths else Err (trouble.BadFence s.page s.low low)

abbrev pub leaf_at : Spot → Result Leaf Trouble → Result Paths Trouble
leaf_at s (Ok l) = fenced s l.low (leaf_paths l)
leaf_at s (Err t) = Err t

-- the level of an inner node is the one that was promised; it stands at offset 10
abbrev pub levelled : ℕ → Spot → Inner → Result Paths Trouble
levelled tree s n = if n.level == s.level then fenced s n.low (inner_paths n) else Err (damaged tree s.page 10)

abbrev pub inner_at : ℕ → Spot → Result Inner Trouble → Result Paths Trouble
inner_at tree s (Ok n) = levelled tree s n
inner_at tree s (Err t) = Err t

-- where the page at hand leads, by what a held get brought of it: a leaf, of level 0, or an inner node
abbrev pub paths_of : ℕ → Spot → Option (List ℕ) → Result Paths Trouble
paths_of tree s got = if s.level == 0 then leaf_at s (leaf_held tree s.page got) else inner_at tree s (inner_held tree s.page got)

-- ---- where the reading goes on

-- the page that begins the level below: the first one below the leftmost page of a level
abbrev pub below_by : Option ℕ → Option ℕ → Option ℕ
below_by (Some page) down = Some page
below_by None down = down

abbrev pub down_to : ℕ → Option ℕ → Option Spot
down_to level (Some page) = Some (leftmost (level - 1) page)
down_to level None = None

abbrev pub onward_by : ℕ → Option ℕ → Option Link → Option Spot
onward_by level below (Some link) = Some (record { level = level; page = link.page; low = link.low; below = below })
onward_by level below None = down_to level below

-- to the right page; from the last page of a level to the first one of the level below; from the last leaf nowhere
abbrev pub onward : Spot → Paths → Option Spot
onward s paths = onward_by s.level (below_by s.below paths.down) paths.right
