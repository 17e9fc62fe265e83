-- What a session's cache knows of a cloud: each object that it keeps landed, however old that version is, and so did each version that was served.
use Rattle.std.specs.Prelude.{ℕ, ◌≡◌, ◌⊎◌, List, Option, Some, None}
use Rattle.std.specs.List.{AllByRecursion}
use Rattle.cloud_facts.specs.Words.{ObjName, Leaf, Tree, Store, Node, Leafy, IsIn}
use Rattle.db_base.specs.declared.names.ObjName.TheVariants as object
use Rattle.cloud_facts.specs.Decoding.Kinds.{IsNode}
use Rattle.leaf_view.specs.Lookup.{empty_leaf}
use Rattle.node_codec.specs.Tree.{IsTree as IsRootSpelled, empty_tree}
use Rattle.page_cache.specs.Cache.{Cache}
use Rattle.cloud_facts.specs.Book.Tally.{version_of}

-- what is kept of an object spells a version of it that landed; a root may be kept as absent, and of the pages page 1 alone
abbrev pub HasLanded : Store → ObjName → Option (List ℕ) → Type 0
HasLanded st (object.Head client) got = Unit {0}
HasLanded st (object.Tree tree) None = Unit {0}
HasLanded st (object.Tree tree) (Some bytes) = (root : Tree) × IsRootSpelled bytes root × IsIn (st.tally.roots tree) root
HasLanded st (object.Page tree page) None = page ≡ 1
HasLanded st (object.Page tree page) (Some bytes) = (node : Node) × IsNode bytes node × IsIn (st.tally.nodes tree page) node

-- a version that was served of a page is the number of a node of it that landed
abbrev pub WasServed : Store → ObjName → ℕ → Type 0
WasServed st (object.Head client) version = Unit {0}
WasServed st (object.Tree tree) version = Unit {0}
WasServed st (object.Page tree page) version = (node : Node) × IsIn (st.tally.nodes tree page) node × (version_of node ≡ version)

-- so of each object that is kept, and of each version that was served
pub record KnowsCache (st : Store) (c : Cache) : Type 0 where
  pub objects : AllByRecursion (λ (o : ObjName × Option (List ℕ)). HasLanded st o.0 o.1) c.objects
  pub versions : AllByRecursion (λ (v : ObjName × ℕ). WasServed st v.0 v.1) c.versions

-- ---- what is seen in it

-- a root landed, or it is that of a tree that was never put
abbrev pub IsSeenRoot : List Tree → Tree → Type 0
IsSeenRoot roots root = (root ≡ empty_tree) ⊎ IsIn roots root

-- a leaf is a version of its page that landed, or it is that of a page 1 that was never put
abbrev pub IsSeenLeaf : List Node → ℕ → Leaf → Type 0
IsSeenLeaf nodes page leaf = ((page ≡ 1) × (leaf ≡ empty_leaf)) ⊎ IsIn nodes (Leafy leaf)
