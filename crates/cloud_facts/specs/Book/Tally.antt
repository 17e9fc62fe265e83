-- The tally: what a cloud tells, as functions of names and never by the bytes. Each call that lands changes one function at one name.
use Rattle.std.specs.Prelude.{ℕ, ◌==◌, ◌&&◌, Bool, if◌then◌else◌, List, Option}
use Rattle.cloud_trait.specs.declared.state.Posted.{Posted}
use Rattle.db_base.specs.Value.{Value}
use Rattle.head_codec.specs.declared.head.Head.{Head}
use Rattle.leaf_view.specs.Leaf.{Leaf}
use Rattle.node_codec.specs.Inner.{Inner}
use Rattle.node_codec.specs.Tree.{Tree}
use Rattle.report_types.specs.declared.entry.Entry.{Entry as Change}
use Rattle.cloud_facts.specs.Book.Book.{Book}

-- ---- a page's version

-- a leaf, or a node above the leaves
pub data Node : Type 0 where
  Leafy : (leaf : Leaf) → Node
  Branch : (inner : Inner) → Node

abbrev pub version_of : Node → ℕ
version_of (Leafy l) = l.version
version_of (Branch n) = n.version

abbrev pub low_of : Node → List ℕ
low_of (Leafy l) = l.low
low_of (Branch n) = n.low

-- the right page, 0 where there is none
abbrev pub right_of : Node → ℕ
right_of (Leafy l) = l.right
right_of (Branch n) = n.right

abbrev pub high_of : Node → Option (List ℕ)
high_of (Leafy l) = l.high
high_of (Branch n) = n.high

-- ---- the tally

pub record Tally : Type 0 where
  -- of a client, the newest head
  pub head : ℕ → Head
  -- of a client, all messages ever sent to its ATOMIC queue
  pub logged : ℕ → List Posted
  -- of a tree and page (0 for the tree's own queue), all messages ever sent to its pending update queue
  pub posts : ℕ → ℕ → List Posted
  -- of a tree, page and client, the number up to which all records of the queue are applied: the newest root's for page 0, else the
  -- entry of the newest leaf of the page for its own queue
  pub cursor : ℕ → ℕ → ℕ → ℕ
  -- of a tree, key, page and client: the number of the page's queue in the table of the leaf that holds the key
  pub done : ℕ → List ℕ → ℕ → ℕ → ℕ
  -- of a tree and key, the value in the leaf that holds the key
  pub value : ℕ → List ℕ → Option Value
  -- of a tree and page, all landed versions
  pub nodes : ℕ → ℕ → List Node
  -- of a tree and page, whether it was removed
  pub gone : ℕ → ℕ → Bool
  -- of a tree, all landed versions of its root
  pub roots : ℕ → List Tree

-- what a cloud tells, the book, and the entries in the order in which leaves took them
pub record Store : Type 0 where
  pub tally : Tally
  pub book : Book
  pub order : List Change

-- ---- functions of names

-- the function with another value at one name
abbrev pub at : {V : Type 0} → ℕ → V → (ℕ → V) → ℕ → V
at name value f n = if n == name then value else f n

-- the same at two names
abbrev pub at2 : {V : Type 0} → ℕ → ℕ → V → (ℕ → ℕ → V) → ℕ → ℕ → V
at2 a b value f m n = if (m == a) && (n == b) then value else f m n
