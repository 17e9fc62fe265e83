-- What the bytes of a get at a place of a walk spell.
use Rattle.std.specs.Prelude.{ℕ, ◌≡◌, List}
use Rattle.cloud_facts.specs.Words.{Leaf, Inner, Tree, CloudState, Leafy, Branch, IsIn, nodes_of, roots_of}
use Rattle.leaf_view.specs.Leaf.{IsLeaf}
use Rattle.node_codec.specs.Inner.{IsInner}
use Rattle.node_codec.specs.Tree.{IsTree}

-- the bytes spell a leaf of the tree's page with this low key
pub record IsGotLeaf (s : CloudState) (tree page : ℕ) (low bytes : List ℕ) : Type 0 where
  pub leaf : Leaf
  pub spells : IsLeaf bytes leaf
  pub landed : IsIn (nodes_of s tree page) (Leafy leaf)
  pub low_is : leaf.low ≡ low

-- the bytes spell an inner node of this level and low key
pub record IsGotInner (s : CloudState) (tree level page : ℕ) (low bytes : List ℕ) : Type 0 where
  pub inner : Inner
  pub spells : IsInner bytes inner
  pub landed : IsIn (nodes_of s tree page) (Branch inner)
  pub level_is : inner.level ≡ level
  pub low_is : inner.low ≡ low

-- the bytes spell a root of the tree
pub record IsGotRoot (s : CloudState) (tree : ℕ) (bytes : List ℕ) : Type 0 where
  pub root : Tree
  pub spells : IsTree bytes root
  pub landed : IsIn (roots_of s tree) root
