-- The chains of a tree: what its links, the versions of its pages and its roots have to do with one another.
use Rattle.std.specs.Prelude.{ℕ, ◌≡◌, ◌≢◌, ◌+◌, ◌<◌, ◌≤◌, true, List, [], ◌∷◌, length, slice_get, Some, None}
use Rattle.byte_format.specs.Order.{bytes_below}
use Rattle.db_base.specs.Cursor.{number_of}
use Rattle.db_base.specs.Ids.{IsClient, IsTree}
use Rattle.leaf_view.specs.Lookup.{holds, number_of as done_number}
use Rattle.node_codec.specs.Tree.{Tree}
use Rattle.cloud_facts.specs.Book.Book.{Link}
use Rattle.cloud_facts.specs.Book.Records.{StandsAt, IsIn}
use Rattle.cloud_facts.specs.Book.Tally.{Node, Leafy, Branch, Store, low_of, right_of, high_of}
use Rattle.cloud_facts.specs.Chains.Links.{Ascends, first_link, newest_node, top_of, IsOfLevel, EndsBefore, NamesBelow, NodeNames}

-- ---- links

-- a page is in no chain
abbrev pub IsUnlinked : (ℕ → List Link) → ℕ → Type 0
IsUnlinked chain page = (level : ℕ) (link : Link) → IsIn (chain level) link → link.page ≢ page

-- the levels of a tree whose newest root has this level
pub record AreLevels (chain : ℕ → List Link) (height : ℕ) : Type 0 where
  -- the leaves begin with the empty low key and page 1
  pub leaves : (rest : List Link) × (chain 0 ≡ first_link ∷ rest)
  -- each level below the root begins with the empty low key
  pub begins : (level : ℕ) → level < height → (link : Link) × StandsAt (chain level) 0 link × (link.low ≡ [])
  -- the others are empty
  pub above : (level : ℕ) → height ≤ level → chain level ≡ []
  pub ascends : (level : ℕ) → Ascends (chain level)
  -- no page comes twice: two links of one page are of one level and low key
  pub once : (l m : ℕ) (a b : Link) → IsIn (chain l) a → IsIn (chain m) b → a.page ≡ b.page → (l ≡ m) × (a.low ≡ b.low)

-- ---- versions

-- the right page of a version is a link of the level, further right, whose low key is the version's high key
pub record NamesRight (links : List Link) (link : Link) (node : Node) : Type 0 where
  pub next : Link
  pub linked : IsIn links next
  pub page_is : next.page ≡ right_of node
  pub high_is : high_of node ≡ Some next.low
  pub beyond : bytes_below link.low next.low ≡ true

-- a version of a link's page has the link's level and low key, and a right page that is a link, or none
pub record IsVersionOf (links : List Link) (level : ℕ) (link : Link) (node : Node) : Type 0 where
  pub level_is : IsOfLevel level node
  pub low : low_of node ≡ link.low
  pub right : right_of node ≢ 0 → NamesRight links link node
  pub last : right_of node ≡ 0 → high_of node ≡ None

-- every landed version of a link's page
abbrev pub AreVersions : (ℕ → List Link) → (ℕ → List Node) → Type 0
AreVersions chain nodes =
    (level : ℕ) (link : Link) (node : Node) → IsIn (chain level) link → IsIn (nodes link.page) node → IsVersionOf (chain level) level link node

-- every entry of every landed root and inner node names a link of the level below
pub record AreEntries (chain : ℕ → List Link) (nodes : ℕ → List Node) (roots : List Tree) : Type 0 where
  pub of_roots : (root : Tree) → IsIn roots root → NamesBelow chain root.level [] root.entries
  pub of_nodes : (page : ℕ) (node : Node) → IsIn (nodes page) node → NodeNames chain node

-- the newest version of a link's page ends where the next link begins; page 1 alone may be absent, and then is the empty leaf
pub record AreNewest (chain : ℕ → List Link) (nodes : ℕ → List Node) : Type 0 where
  pub ends : (level place : ℕ) (link : Link) → StandsAt (chain level) place link
      → EndsBefore (newest_node nodes link.page) (slice_get (chain level) (place + 1))
  pub absent : (level : ℕ) (link : Link) → IsIn (chain level) link → nodes link.page ≡ [] → (level ≡ 0) × (link.page ≡ 1)

-- ---- numbers of pages

-- pages are below the next free one, and a page in no chain has at most one version
pub record ArePages (chain : ℕ → List Link) (nodes : ℕ → List Node) (next : ℕ) : Type 0 where
  pub linked : (level : ℕ) (link : Link) → IsIn (chain level) link → (1 ≤ link.page) × (link.page < next)
  pub landed : (page : ℕ) → nodes page ≢ [] → (1 ≤ page) × (page < next)
  pub unlinked : (page : ℕ) → IsUnlinked chain page → length (nodes page) ≤ 1

-- ---- old versions

-- the table of a leaf says no more than what is done, for the keys of its range
abbrev pub IsCovered : (List ℕ → ℕ → ℕ → ℕ) → Node → Type 0
IsCovered done (Leafy l) = (key : List ℕ) → holds l key ≡ true → (page client : ℕ) → IsClient client → done_number l.done page client ≤ done key page client
IsCovered done (Branch n) = Unit {0}

-- that of every landed version of a page of the leaf chain, and the cursor of every landed root
pub record AreCovered (chain : ℕ → List Link) (nodes : ℕ → List Node) (roots : List Tree) (done : List ℕ → ℕ → ℕ → ℕ) (cursor : ℕ → ℕ) : Type 0 where
  pub leaves : (link : Link) (node : Node) → IsIn (chain 0) link → IsIn (nodes link.page) node → IsCovered done node
  pub cursors : (root : Tree) → IsIn roots root → (client : ℕ) → IsClient client → number_of root.cursor client ≤ cursor client

-- ---- the whole

-- a tree, by its links, the versions of its pages and of its root, what is done of its records, and its cursor
pub record IsChained (chain : ℕ → List Link) (nodes : ℕ → List Node) (roots : List Tree) (done : List ℕ → ℕ → ℕ → ℕ) (cursor : ℕ → ℕ) : Type 0 where
  pub levels : AreLevels chain (top_of roots).level
  pub versions : AreVersions chain nodes
  pub entries : AreEntries chain nodes roots
  pub newest : AreNewest chain nodes
  pub pages : ArePages chain nodes (top_of roots).next
  pub covered : AreCovered chain nodes roots done cursor

-- every tree
abbrev pub ChainHolds : Store → Type 0
ChainHolds st = (tree : ℕ) → IsTree tree
    → IsChained (st.book.chain tree) (st.tally.nodes tree) (st.tally.roots tree) (st.tally.done tree) (st.tally.cursor tree 0)
