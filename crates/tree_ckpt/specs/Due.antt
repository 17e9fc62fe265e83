-- What a step of a tree checkpoint comes to put, where a version or numbers of new pages may be spent.
use Rattle.std.specs.Prelude.{ℕ, ◌≡◌, ◌≢◌, ◌<◌, ◌≤◌, ◌+◌, ◌-◌, ◌/◌, ◌&&◌, nat_lt, is_some, true, false, List, length, Some, None, Ok, ◌⊎◌, if◌then◌else◌}
use Rattle.byte_format.specs.Format.{greatest}
use Rattle.byte_format.specs.Order.{below_bound, bytes_same}
use Rattle.byte_format.specs.Whole.{whole}
use Rattle.db_base.specs.Limits.{most_items}
use Rattle.db_base.specs.declared.trouble.Trouble.{Trouble}
use Rattle.db_base.specs.declared.trouble.Trouble.TheVariants as trouble
use Rattle.db_base.specs.declared.trouble.Counter.TheVariants as counter
use Rattle.leaf_view.specs.Leaf.{Leaf, leaf}
use Rattle.leaf_view.specs.Lookup.{empty_leaf}
use Rattle.leaf_edit.specs.Applied.{applied}
use Rattle.leaf_edit.specs.Lacked.{lacked}
use Rattle.log_codec.specs.declared.record.PuItem.{PuItem}
use Rattle.node_codec.specs.Inner.{Inner, inner_of}
use Rattle.node_codec.specs.Tree.{Tree}
use Rattle.cloud_trait.specs.declared.answer.Answer.{Answer}
use Rattle.cloud_trait.specs.declared.answer.Answer.TheVariants as call
use Rattle.cloud_trait.specs.Claim.{Claim}
use Rattle.split_plan.specs.Sizes.{count_of}
use Rattle.ckpt_parts.specs.Intakes.{has_items}
use Rattle.tree_phases.specs.declared.chart.Chart.{Chart}
use Rattle.tree_phases.specs.declared.kept.KeptNode.{KeptNode}
use Rattle.tree_phases.specs.declared.link.Link.{Link}
use Rattle.tree_phases.specs.Placing.{has_nothing}
use Rattle.tree_phases.specs.Read.{tree_held}
use Rattle.tree_phases.specs.declared.folding.Folding.{Folding}
use Rattle.tree_phases.specs.declared.rising.Rising.{Rising}
use Rattle.tree_phases.specs.Nodes.{with_links}
use Rattle.tree_phases.specs.Rising.{begun, touched_node, landed}
use Rattle.tree_phases.specs.Root.{risen}
use Rattle.tree_ckpt.specs.declared.work.Held.{Held}
use Rattle.tree_ckpt.specs.declared.work.Onward.TheVariants as onward
use Rattle.tree_ckpt.specs.declared.work.Work.{Work}
use Rattle.tree_ckpt.specs.declared.work.Work.TheVariants as work
use Rattle.tree_ckpt.specs.Moves.{next_key}
use Rattle.tree_ckpt.specs.Causes.{Calls, WasRoot, WasNode, WasLeaf}

-- What is to be put while a tree object stands: a leaf with a run applied, an inner node with links, or the tree object itself with links and a
-- cursor raised to a top.
pub data Due : Type 0 where
  LeafDue : (root : Tree) (l : Leaf) (run : List PuItem) → Due
  NodeDue : (root : Tree) (n : Inner) (links : List Link) → Due
  RootDue : (root : Tree) (links : List Link) (top : List (ℕ × ℕ)) → Due

abbrev pub root_of : Due → Tree
root_of (LeafDue root l run) = root
root_of (NodeDue root n links) = root
root_of (RootDue root links top) = root

-- the version that is raised
abbrev pub version_of : Due → ℕ
version_of (LeafDue root l run) = l.version
version_of (NodeDue root n links) = n.version
version_of (RootDue root links top) = root.version

-- ---- numbers of new pages

-- the tree object as it is to be put
abbrev pub raised : Tree → List Link → List (ℕ × ℕ) → Tree
raised root links top = risen root.level links top (record root { version = root.version + 1 })

-- it is cut where it has more than 64 entries, unless its level is 255
abbrev pub pages_of_root : Tree → Tree → ℕ
pages_of_root root t = if nat_lt most_items (length t.entries) && nat_lt root.level 255 then count_of (length t.entries) else 0

-- how many new pages it needs; the first piece keeps its page, but for a tree object, whose pieces are all new
abbrev pub pages_of : Due → ℕ
pages_of (LeafDue root l run) = count_of (length (applied l 0 run).records) - 1
pages_of (NodeDue root n links) = count_of (length (with_links n links n.entries)) - 1
pages_of (RootDue root links top) = pages_of_root root (raised root links top)

-- how many items it had: the records of a leaf, the entries of a node or of the tree object
abbrev pub size_of : Due → ℕ
size_of (LeafDue root l run) = length l.records
size_of (NodeDue root n links) = length n.entries
size_of (RootDue root links top) = length root.entries

-- it needs at most one new page for each 64 items that it had, and one for each of these calls
abbrev pub NeedsFew : Due → Calls → Type 0
NeedsFew due cs = pages_of due ≤ size_of due / most_items + length cs

-- ---- what is spent

-- new pages are reserved by a put of the tree object that stands
abbrev pub Reserves : Due → Type 0
Reserves due = (version_of due ≢ greatest) × (pages_of due ≢ 0)

-- the version to raise is the greatest one: its own, or that of the tree object which reserves
abbrev pub IsSpent : Due → Type 0
IsSpent due = (version_of due ≡ greatest) ⊎ (Reserves due × ((root_of due).version ≡ greatest))

-- the numbers of its new pages pass the greatest one
abbrev pub HasNoPages : Due → Type 0
HasNoPages due = Reserves due × ((root_of due).version ≢ greatest) × (greatest < (root_of due).next + pages_of due)

-- ---- when it is due

-- a leaf is got; an absent page 1 is the empty leaf
abbrev pub GetsLeaf : ℕ → Answer → Leaf → Type 0
GetsLeaf page a l =
    ((bytes : List ℕ) × (a ≡ call.Got (Some bytes)) × (whole leaf bytes ≡ Ok l)) ⊎ ((page ≡ 1) × (a ≡ call.Got None) × (l ≡ empty_leaf))

-- the leaf that the answer brought: it is what the link to it promised, the key in hand is below its high key, and it lacks an item of the run
pub record IsLeafDue (w : Work) (a : Answer) (root : Tree) (l : Leaf) (run : List PuItem) : Type 0 where
  pub held : Held
  pub from : Folding
  pub stands : w ≡ work.Folding held from
  pub nothing : has_nothing from.placing ≡ true
  pub gets : GetsLeaf from.page a l
  pub promised : bytes_same l.low from.low ≡ true
  pub stays : below_bound from.chart.key l.high ≡ true
  pub lacks : has_items (lacked l 0 from.chart.run.items) ≡ true
  pub root_is : root ≡ tree_held from.chart.root
  pub run_is : run ≡ from.chart.run.items

-- the way up begins behind the last leaf
pub record BeginsUp (w : Work) (up : Rising) : Type 0 where
  pub held : Held
  pub lease : Claim
  pub chart : Chart
  pub stands : w ≡ work.ReleasingPage held lease (onward.Handled chart)
  pub none : next_key chart ≡ None
  pub is : up ≡ begun chart

-- or it goes on behind the last put of a node
pub record GoesUp (w : Work) (a : Answer) (up : Rising) : Type 0 where
  pub held : Held
  pub from : Rising
  pub stands : w ≡ work.Rising held from
  pub put : a ≡ call.Done
  pub some : has_nothing from.placing ≡ false
  pub nothing : has_nothing (landed from).placing ≡ true
  pub between : from.last ≡ None
  pub is : up ≡ landed from

abbrev pub IsUp : Work → Answer → Rising → Type 0
IsUp w a up = BeginsUp w up ⊎ GoesUp w a up

-- the next node that a link goes to
pub record IsNodeDue (w : Work) (a : Answer) (root : Tree) (n : Inner) (links : List Link) : Type 0 where
  pub up : Rising
  pub is_up : IsUp w a up
  pub kept : KeptNode
  pub next : touched_node up ≡ Some kept
  pub reads : inner_of kept.bytes ≡ Some n
  pub root_is : root ≡ tree_held up.chart.root
  pub links_are : links ≡ up.chart.links

-- the tree object, where there is none
pub record IsRootDue (w : Work) (a : Answer) (root : Tree) (links : List Link) (top : List (ℕ × ℕ)) : Type 0 where
  pub up : Rising
  pub is_up : IsUp w a up
  pub none : touched_node up ≡ None
  pub root_is : root ≡ tree_held up.chart.root
  pub links_are : links ≡ up.chart.links
  pub top_is : top ≡ up.chart.run.top

abbrev pub IsDue : Work → Answer → Due → Type 0
IsDue w a (LeafDue root l run) = IsLeafDue w a root l run
IsDue w a (NodeDue root n links) = IsNodeDue w a root n links
IsDue w a (RootDue root links top) = IsRootDue w a root links top

-- The last piece of a tree object is put for which the reservation took the last version: that which names the pieces has none.
pub record IsCutShort (w : Work) (a : Answer) : Type 0 where
  pub held : Held
  pub from : Rising
  pub stands : w ≡ work.Rising held from
  pub put : a ≡ call.Done
  pub some : has_nothing from.placing ≡ false
  pub nothing : has_nothing (landed from).placing ≡ true
  pub behind : is_some from.last ≡ true
  pub spent : from.is_spent ≡ true

-- what is due has no version left, or no numbers for its new pages
abbrev pub Spends : Work → Answer → Trouble → Type 0
Spends w a (trouble.Exhausted counter.Version) = ((due : Due) × IsDue w a due × IsSpent due) ⊎ IsCutShort w a
Spends w a (trouble.Exhausted counter.Pages) = (due : Due) × IsDue w a due × HasNoPages due
Spends w a t = ⊥

-- it was got, or put by the checkpoint
abbrev pub WasBrought : ℕ → Due → Calls → Type 0
WasBrought tree (LeafDue root l run) cs = WasRoot tree root cs × ((page : ℕ) × WasLeaf tree page l cs)
WasBrought tree (NodeDue root n links) cs = WasRoot tree root cs × ((page : ℕ) × WasNode tree page n cs)
WasBrought tree (RootDue root links top) cs = WasRoot tree root cs

-- a tree object at the last version but one was
abbrev pub WasLastButOne : ℕ → Calls → Type 0
WasLastButOne tree cs = (root : Tree) × WasRoot tree root cs × (root.version + 1 ≡ greatest)
