-- Counters that stand at their last value, by what a cloud tells.
use Rattle.std.specs.Prelude.{ℕ, ◌≡◌, ◌<◌, ◌≤◌, ◌⊎◌, ◌+◌, ◌-◌, ◌*◌, ◌^◌, length, Some}
use Rattle.std.specs.Option.{option_and_then}
use Rattle.cloud_facts.specs.Words.{Head, Leaf, Tree, Version, CloudState, Node, Leafy, IsIn, nodes_of, roots_of}
use Rattle.cloud_facts.specs.Book.Tally.{version_of}
use Rattle.db_base.specs.Limits.{most_changes}
use Rattle.db_base.specs.declared.names.ObjName.TheVariants as object
use Rattle.db_base.specs.declared.names.QueueName.TheVariants.{TreePu}
use Rattle.db_base.specs.declared.trouble.Counter.{Counter}
use Rattle.db_base.specs.declared.trouble.Counter.TheVariants as counter
use Rattle.head_codec.specs.Spelling.{head_of}
use Rattle.leaf_view.specs.Lookup.{empty_leaf}
use Rattle.node_codec.specs.Tree.{empty_tree}
use Rattle.route_plan.specs.Queue.{number_of_queue}
use Rattle.split_plan.specs.Sizes.{count_of}

-- a head has landed in the last epoch
pub record HasLastEpoch (t : CloudState) : Type 0 where
  pub client : ℕ
  pub version : Version
  pub head : Head
  pub landed : IsIn (t.versions (object.Head client)) version
  pub reads : option_and_then head_of version.bytes ≡ Some head
  pub last : head.epoch ≡ 2 ^ 64 - 1

-- a page of a tree has landed, as a leaf or a node, in its last version
pub record HasLastPage (t : CloudState) (tree : ℕ) : Type 0 where
  pub page : ℕ
  pub node : Node
  pub landed : IsIn (nodes_of t tree page) node
  pub last : version_of node ≡ 2 ^ 64 - 1

-- a tree object has landed in its last version
pub record HasLastRoot (t : CloudState) (tree : ℕ) : Type 0 where
  pub root : Tree
  pub landed : IsIn (roots_of t tree) root
  pub last : root.version ≡ 2 ^ 64 - 1

-- a head has landed in which the counter of a queue is so near the end that the numbers of the records of a transaction, at most 200, may not fit behind it
pub record HasLastNumber (t : CloudState) : Type 0 where
  pub client : ℕ
  pub version : Version
  pub head : Head
  pub landed : IsIn (t.versions (object.Head client)) version
  pub reads : option_and_then head_of version.bytes ≡ Some head
  pub tree : ℕ
  pub page : ℕ
  pub last : 2 ^ 64 - 1 < number_of_queue head.counters tree page + most_changes

-- ---- numbers of pages

-- a leaf of a tree has landed, or it is the empty one
abbrev pub IsLeafOf : CloudState → ℕ → Leaf → Type 0
IsLeafOf t tree l = (l ≡ empty_leaf) ⊎ ((page : ℕ) × IsIn (nodes_of t tree page) (Leafy l))

-- so many pages may be needed at once: at most a 32nd of all page numbers, or as many as a leaf is cut into that takes each record that was ever sent
-- to the tree's queue; and at most four for each put and send that landed, and one more
pub record MayNeed (t : CloudState) (tree pages : ℕ) : Type 0 where
  pub cut : (pages ≤ 2 ^ 59) ⊎ ((l : Leaf) × IsLeafOf t tree l × (pages ≤ count_of (length l.records + length (t.messages (TreePu tree)))))
  pub few : pages ≤ 4 * length t.trace + 1

-- a tree object has landed, or is that of a tree that was never put, whose next page is so near the end that so many pages do not fit
pub record HasLastPages (t : CloudState) (tree : ℕ) : Type 0 where
  pub root : Tree
  pub landed : (root ≡ empty_tree) ⊎ IsIn (roots_of t tree) root
  pub pages : ℕ
  pub needed : MayNeed t tree pages
  pub last : 2 ^ 64 - 1 < root.next + pages

-- ---- what is told where an operation finds a counter spent

-- an opening finds it where a head has landed in the last epoch
abbrev pub IsSpentToOpen : CloudState → Counter → Type 0
IsSpentToOpen t counter.Epoch = HasLastEpoch t
IsSpentToOpen t what = ⊥

-- a page checkpoint where a page of its tree has landed in the last version
abbrev pub IsSpentInPages : ℕ → CloudState → Counter → Type 0
IsSpentInPages tree t counter.Version = HasLastPage t tree
IsSpentInPages tree t what = ⊥

-- a tree checkpoint where a page of its tree, or the tree object, has landed in the last version, or few numbers of pages are left
abbrev pub IsSpentInTree : ℕ → CloudState → Counter → Type 0
IsSpentInTree tree t counter.Version = HasLastRoot t tree ⊎ HasLastPage t tree
IsSpentInTree tree t counter.Pages = HasLastPages t tree
IsSpentInTree tree t what = ⊥

-- a commit where numbers of a queue may not fit; of the attempts that a session made no cloud tells
abbrev pub IsSpentToCommit : CloudState → Counter → Type 0
IsSpentToCommit t counter.Txn = Unit {0}
IsSpentToCommit t counter.Number = HasLastNumber t
IsSpentToCommit t what = ⊥

-- a settling where an opening or a checkpoint of some tree does
abbrev pub IsSpentToSettle : CloudState → Counter → Type 0
IsSpentToSettle t what = IsSpentToOpen t what ⊎ ((tree : ℕ) × IsSpentInTree tree t what)

-- ---- the counters of each operation

-- an opening raises an epoch
abbrev pub IsOfOpening : Counter → Type 0
IsOfOpening counter.Epoch = Unit {0}
IsOfOpening what = ⊥

-- a commit takes an attempt and numbers its records
abbrev pub IsOfCommit : Counter → Type 0
IsOfCommit counter.Txn = Unit {0}
IsOfCommit counter.Number = Unit {0}
IsOfCommit what = ⊥

-- a page checkpoint raises versions
abbrev pub IsOfPaging : Counter → Type 0
IsOfPaging counter.Version = Unit {0}
IsOfPaging what = ⊥

-- and a tree checkpoint takes pages too
abbrev pub IsOfFolding : Counter → Type 0
IsOfFolding counter.Version = Unit {0}
IsOfFolding counter.Pages = Unit {0}
IsOfFolding what = ⊥

-- a settling does what openings and checkpoints do
abbrev pub IsOfSettling : Counter → Type 0
IsOfSettling counter.Epoch = Unit {0}
IsOfSettling counter.Version = Unit {0}
IsOfSettling counter.Pages = Unit {0}
IsOfSettling what = ⊥
