-- Which pages of a tree something reaches: from its first page and its newest tree object on, along what the newest versions of pages name.
use Rattle.std.specs.Prelude.{ℕ, ◌≡◌, ◌<◌, ◌⊎◌, List, Some}
use Rattle.cloud_facts.specs.Words.{Tree, CloudState, newest, Node, Leafy, Branch, IsIn}
use Rattle.cloud_facts.specs.Book.Tally.{right_of}
use Rattle.cloud_facts.specs.Decoding.Kinds.{IsNode}
use Rattle.db_base.specs.declared.names.ObjName.TheVariants as object
use Rattle.node_codec.specs.Node.{Entry}
use Rattle.node_codec.specs.Tree.{IsTree}

-- the newest version of a page has bytes
abbrev pub HasBytes : CloudState → ℕ → ℕ → Type 0
HasBytes s tree page = (bytes : List ℕ) × (newest s (object.Page tree page) ≡ Some bytes)

-- one of these entries names a page
abbrev pub IsNamedIn : List Entry → ℕ → Type 0
IsNamedIn entries page = (e : Entry) × IsIn entries e × (e.1 ≡ page)

-- a node names a page as a child; a leaf has none
abbrev pub IsChildOf : Node → ℕ → Type 0
IsChildOf (Leafy l) page = ⊥
IsChildOf (Branch n) page = IsNamedIn n.entries page

-- .. or as its right page, where it has one
abbrev pub NamesPage : Node → ℕ → Type 0
NamesPage node page = IsChildOf node page ⊎ ((right_of node ≡ page) × (0 < page))

-- an entry of the newest tree object names a page
pub record RootNames (s : CloudState) (tree page : ℕ) : Type 0 where
  pub bytes : List ℕ
  pub newest_is : newest s (object.Tree tree) ≡ Some bytes
  pub root : Tree
  pub spells : IsTree bytes root
  pub names : IsNamedIn root.entries page

-- the newest version of a page names another page
pub record PageNames (s : CloudState) (tree from page : ℕ) : Type 0 where
  pub bytes : List ℕ
  pub newest_is : newest s (object.Page tree from) ≡ Some bytes
  pub node : Node
  pub spells : IsNode bytes node
  pub names : NamesPage node page

-- The least set of pages with bytes that holds page 1, those that an entry of the newest tree object names, and, with each page in it, those that its
-- newest version names as a child or as its right page.
pub data IsReached (s : CloudState) (tree : ℕ) : ℕ → Type 0 where
  first_page : HasBytes s tree 1 → IsReached s tree 1
  from_root : (page : ℕ) → RootNames s tree page → HasBytes s tree page → IsReached s tree page
  from_page : (from page : ℕ) → IsReached s tree from → PageNames s tree from page → HasBytes s tree page → IsReached s tree page
