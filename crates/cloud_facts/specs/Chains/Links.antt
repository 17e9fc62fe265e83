-- Links of a level of a tree, and how nodes and entries speak of them.
use Rattle.std.specs.Prelude.{ℕ, ◌≡◌, ◌<◌, ◌-◌, Bool, List, [], Option, Some, None}
use Rattle.byte_format.specs.Order.{bytes_below}
use Rattle.leaf_view.specs.Fits.{Ascend}
use Rattle.leaf_view.specs.Lookup.{empty_leaf}
use Rattle.node_codec.specs.Node.{Entry}
use Rattle.node_codec.specs.Inner.{first_low_of}
use Rattle.node_codec.specs.Tree.{Tree, empty_tree}
use Rattle.cloud_facts.specs.Book.Book.{Link}
use Rattle.cloud_facts.specs.Book.Records.{IsIn}
use Rattle.cloud_facts.specs.Book.Tally.{Node, Leafy, Branch, right_of, high_of}
use Rattle.cloud_facts.specs.Book.Telling.{last_or}

-- ---- links

-- a low key is below another
abbrev pub link_below : Link → Link → Bool
link_below a b = bytes_below a.low b.low

-- low keys ascend strictly
abbrev pub Ascends : List Link → Type 0
Ascends links = Ascend link_below None links

-- the first leaf of every tree
abbrev pub first_link : Link
first_link = record { low = []; page = 1 }

-- the link that an entry names
abbrev pub link_of : Entry → Link
link_of e = record { low = e.0; page = e.1 }

-- ---- the newest versions

abbrev pub newest_node : (ℕ → List Node) → ℕ → Node
newest_node nodes page = last_or (Leafy empty_leaf) (nodes page)

abbrev pub top_of : List Tree → Tree
top_of roots = last_or empty_tree roots

-- ---- nodes

-- leaves are of level 0, and inner nodes of their own level above it
abbrev pub IsOfLevel : ℕ → Node → Type 0
IsOfLevel level (Leafy l) = level ≡ 0
IsOfLevel level (Branch n) = (n.level ≡ level) × (0 < level)

-- the right page and the high key of a page, by the next link: 0 and none where there is no next one
abbrev pub page_after : Option Link → ℕ
page_after None = 0
page_after (Some next) = next.page

abbrev pub low_after : Option Link → Option (List ℕ)
low_after None = None
low_after (Some next) = Some next.low

-- a node ends where the next link begins
pub record EndsBefore (node : Node) (next : Option Link) : Type 0 where
  pub right : right_of node ≡ page_after next
  pub high : high_of node ≡ low_after next

-- entries name links of a level, the first of them the one with this low key
pub record NamesLinks (links : List Link) (low : List ℕ) (entries : List Entry) : Type 0 where
  pub names : (e : Entry) → IsIn entries e → IsIn links (link_of e)
  pub first : first_low_of entries ≡ Some low

-- entries of a level above the leaves name links of the level below
pub record NamesBelow (chain : ℕ → List Link) (level : ℕ) (low : List ℕ) (entries : List Entry) : Type 0 where
  pub height : 0 < level
  pub links : NamesLinks (chain (level - 1)) low entries

-- the entries of a node do; a leaf has none
abbrev pub NodeNames : (ℕ → List Link) → Node → Type 0
NodeNames chain (Leafy l) = Unit {0}
NodeNames chain (Branch n) = NamesBelow chain n.level n.low n.entries
