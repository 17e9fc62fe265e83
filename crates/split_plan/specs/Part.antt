-- What leaves and inner nodes have alike: fences, and items in the order of their keys.
use Rattle.std.specs.Prelude.{ℕ, List, Option}
use Rattle.leaf_view.specs.declared.done.Done.{Done}
use Rattle.leaf_view.specs.Leaf.{Leaf}
use Rattle.leaf_view.specs.Leaf.{Entry as Rec}
use Rattle.node_codec.specs.Node.{Entry}
use Rattle.node_codec.specs.Inner.{Inner}

-- a page seen as its items; `common` is what all pieces of it have: the table of a leaf, the level of a node
pub record Part (A X : Type 0) : Type 0 where
  pub version : ℕ
  pub low : List ℕ
  pub right : ℕ
  pub high : Option (List ℕ)
  pub common : X
  pub items : List A

abbrev pub LeafPart : Type 0
LeafPart = Part Rec (List Done)

abbrev pub NodePart : Type 0
NodePart = Part Entry ℕ

abbrev pub part_of_leaf : Leaf → LeafPart
part_of_leaf l = record { version = l.version; low = l.low; right = l.right; high = l.high; common = l.done; items = l.records }

-- in the format in which leaves are written
abbrev pub leaf_of_part : LeafPart → Leaf
leaf_of_part p = record { format = 2; version = p.version; low = p.low; right = p.right; high = p.high; done = p.common; records = p.items }

abbrev pub part_of_node : Inner → NodePart
part_of_node n = record { version = n.version; low = n.low; right = n.right; high = n.high; common = n.level; items = n.entries }

abbrev pub node_of_part : NodePart → Inner
node_of_part p = record { version = p.version; level = p.common; low = p.low; right = p.right; high = p.high; entries = p.items }

-- the key of a record, and the low key of an entry
abbrev pub record_key : Rec → List ℕ
record_key e = e.key

abbrev pub entry_key : Entry → List ℕ
entry_key e = e.0
