-- What is found through the index of a tree, from its root down and to the right.
use Rattle.std.specs.Prelude.{ℕ, suc, ◌≡◌, List, Option, Some, None, IsTrue, not}
use Rattle.byte_format.specs.Order.{bytes_below}
use Rattle.db_base.specs.Value.{Value}
use Rattle.db_base.specs.declared.names.ObjName.TheVariants as object
use Rattle.cloud_trait.specs.State.{CloudState, newest}
use Rattle.leaf_view.specs.Leaf.{Leaf}
use Rattle.leaf_view.specs.Lookup.{value_of}
use Rattle.node_codec.specs.Node.{child_of}
use Rattle.node_codec.specs.Tree.{Tree, IsTree, empty_tree}
use Rattle.node_codec.specs.Inner.{Inner, IsInner}
use Rattle.replay_meaning.specs.Chain.{IsNewestLeaf}

-- the key is not below the high key, so that it is looked for at the right page
abbrev pub IsRightOf : List ℕ → Option (List ℕ) → Type 0
IsRightOf key (Some high) = IsTrue (not (bytes_below key high))
IsRightOf key None = ⊥

-- the key is below the high key, where there is one
abbrev pub IsWithin : List ℕ → Option (List ℕ) → Type 0
IsWithin key (Some high) = IsTrue (bytes_below key high)
IsWithin key None = Unit {0}

-- the newest version of a page is this inner node
abbrev pub IsNewestInner : CloudState → ℕ → ℕ → Inner → Type 0
IsNewestInner t tree page node = (bytes : List ℕ) × (newest t (object.Page tree page) ≡ Some bytes) × IsInner bytes node

-- a walk for the key, so many levels above the leaves, ends from a page at a leaf: to the right as the key demands, and down by the
-- greatest entry at most the key
pub data Reaches (t : CloudState) (tree : ℕ) (key : List ℕ) : ℕ → ℕ → Leaf → Type 0 where
  ends : (page : ℕ) (leaf : Leaf) → IsNewestLeaf t tree page leaf → IsWithin key leaf.high → Reaches t tree key 0 page leaf
  right_leaf : (page : ℕ) (from leaf : Leaf) → IsNewestLeaf t tree page from → IsRightOf key from.high → Reaches t tree key 0 from.right leaf → Reaches t tree key 0 page leaf
  right_inner : (level page : ℕ) (node : Inner) (leaf : Leaf) → IsNewestInner t tree page node → IsRightOf key node.high
      → Reaches t tree key (suc level) node.right leaf → Reaches t tree key (suc level) page leaf
  down : (level page : ℕ) (node : Inner) (leaf : Leaf) (low : List ℕ) (child : ℕ) → IsNewestInner t tree page node → IsWithin key node.high
      → child_of key node.entries ≡ Some (low, child) → Reaches t tree key level child leaf → Reaches t tree key (suc level) page leaf

-- the newest root of a tree; an absent one is the empty tree's
abbrev pub IsRootIn : Option (List ℕ) → Tree → Type 0
IsRootIn None root = root ≡ empty_tree
IsRootIn (Some bytes) root = IsTree bytes root

-- what the index leads to for the key: the value of the record with it in the leaf where its walk ends, or none
pub record Finds (t : CloudState) (tree : ℕ) (key : List ℕ) (value : Option Value) : Type 0 where
  pub root : Tree
  pub is_root : IsRootIn (newest t (object.Tree tree)) root
  pub low : List ℕ
  pub child : ℕ
  pub entry : child_of key root.entries ≡ Some (low, child)
  pub above : ℕ
  pub level : root.level ≡ suc above
  pub leaf : Leaf
  pub reaches : Reaches t tree key above child leaf
  pub value_is : value ≡ value_of key leaf.records
