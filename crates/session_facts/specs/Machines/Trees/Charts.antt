-- What a checkpoint of a tree knows of the objects that it read under the tree's lease, and of the links that it found.
use Rattle.std.specs.Prelude.{ℕ, ◌≡◌, ◌<◌, ◌≤◌, ◌-◌, ◌⊎◌, List}
use Rattle.cloud_facts.specs.Chains.Links.{newest_node, top_of}
use Rattle.cloud_facts.specs.Words.{IsClient, IsTree, Inner, Tree, Claim, Lasts, Link, Store, Branch, IsIn}
use Rattle.db_base.specs.Cursor.{number_of}
use Rattle.node_codec.specs.Inner.{IsInner}
use Rattle.node_codec.specs.Tree.{HasTreeSpelling, empty_tree}
use Rattle.tree_phases.specs.declared.chart.Chart.{Chart}
use Rattle.tree_phases.specs.declared.kept.KeptNode.{KeptNode}
use Rattle.tree_phases.specs.declared.link.Link.{Link as Found}
use Rattle.tree_phases.specs.Read.{tree_held}

-- a root landed, or it is that of a tree that was never put
abbrev pub IsRootOf : List Tree → Tree → Type 0
IsRootOf roots root = (root ≡ empty_tree) ⊎ IsIn roots root

-- a root was read or put: it is the newest while the tree's lease lasts, and its cursor covers no more than the tree's
pub record KnowsRoot (st : Store) (now : ℕ) (lease : Claim) (tree : ℕ) (root : Tree) : Type 0 where
  pub landed : IsRootOf (st.tally.roots tree) root
  pub spelled : (root ≡ empty_tree) ⊎ HasTreeSpelling root
  pub newest : Lasts now lease → top_of (st.tally.roots tree) ≡ root
  pub covered : (client : ℕ) → IsClient client → number_of root.cursor client ≤ st.tally.cursor tree 0 client

-- an inner node was got: its page is that of a link of its level, and it is the newest there while the tree's lease lasts
pub record KnowsNode (st : Store) (now : ℕ) (lease : Claim) (tree : ℕ) (k : KeptNode) : Type 0 where
  pub inner : Inner
  pub spells : IsInner k.bytes inner
  pub linked : IsIn (st.book.chain tree k.level) (record { low = k.low; page = k.page })
  pub landed : IsIn (st.tally.nodes tree k.page) (Branch inner)
  pub newest : Lasts now lease → newest_node (st.tally.nodes tree) k.page ≡ Branch inner

-- each of them
abbrev pub KnowsNodes : Store → ℕ → Claim → ℕ → List KeptNode → Type 0
KnowsNodes st now lease tree nodes = (k : KeptNode) → IsIn nodes k → KnowsNode st now lease tree k

-- a page that goes up is that of a link of the level below the one that is to name it
pub record IsFound (chain : ℕ → List Link) (l : Found) : Type 0 where
  pub above : 0 < l.level
  pub linked : IsIn (chain (l.level - 1)) (record { low = l.low; page = l.page })

abbrev pub AreFound : (ℕ → List Link) → List Found → Type 0
AreFound chain links = (l : Found) → IsIn links l → IsFound chain l

-- the chart of a tree
pub record KnowsChart (st : Store) (now : ℕ) (lease : Claim) (c : Chart) : Type 0 where
  pub tree : IsTree c.tree
  pub root : KnowsRoot st now lease c.tree (tree_held c.root)
  pub nodes : KnowsNodes st now lease c.tree c.nodes
  pub links : AreFound (st.book.chain c.tree) c.links
