-- What the answer of a call demands of a tree checkpoint: for which trouble it is to stop.
use Rattle.std.specs.Prelude.{ℕ, ◌≡◌, ◌≢◌, true, false, List, Option, Some, None, Err, ◌⊎◌}
use Rattle.db_base.specs.declared.names.ObjName.TheVariants as object
use Rattle.db_base.specs.declared.names.Place.TheVariants as place
use Rattle.db_base.specs.declared.trouble.Trouble.{Trouble}
use Rattle.db_base.specs.declared.trouble.Trouble.TheVariants as trouble
use Rattle.byte_format.specs.Order.{bytes_below, bytes_same}
use Rattle.byte_format.specs.Whole.{whole, offset}
use Rattle.leaf_view.specs.Leaf.{Leaf, leaf}
use Rattle.leaf_view.specs.Lookup.{page_at}
use Rattle.node_codec.specs.Inner.{Inner, inner_of, inner_format}
use Rattle.node_codec.specs.Tree.{tree_of, tree_format}
use Rattle.cloud_trait.specs.declared.answer.Answer.{Answer}
use Rattle.cloud_trait.specs.declared.answer.Answer.TheVariants as call
use Rattle.cloud_trait.specs.Ask.{Ask, Delete, Take, Release}
use Rattle.cloud_trait.specs.Claim.{Claim}
use Rattle.run_cursor.specs.Covered.{is_seen}
use Rattle.tree_phases.specs.Placing.{has_nothing}
use Rattle.tree_phases.specs.declared.descent.Descent.{Descent}
use Rattle.tree_phases.specs.declared.folding.Folding.{Folding}
use Rattle.tree_ckpt.specs.declared.work.Held.{Held}
use Rattle.tree_ckpt.specs.declared.work.Work.{Work}
use Rattle.tree_ckpt.specs.declared.work.Work.TheVariants as work
use Rattle.tree_ckpt.specs.Work.{work_ask}
use Rattle.tree_ckpt.specs.Causes.{GoesRight, BreaksMessage, ticks_of}
use Rattle.tree_ckpt.specs.Way.{BreaksWay}
use Rattle.tree_ckpt.specs.Due.{GetsLeaf, Spends}

-- a call whose failure stops the checkpoint: each but a deletion and a release
abbrev pub Matters : Ask → Type 0
Matters (Delete queue id) = ⊥
Matters (Release l) = ⊥
Matters ask = Unit {0}

-- what an answer demands whatever was got: such a call failed, a lease was over, or a lock was held
abbrev pub Refuses : Ask → Answer → Trouble → Type 0
Refuses ask a trouble.Failed = (a ≡ call.Failed) × Matters ask
Refuses ask a (trouble.Late end now) = a ≡ call.Late end now
Refuses ask a (trouble.Busy lock until) = (ask ≡ Take lock (ticks_of lock)) × (a ≡ call.Held until)
Refuses ask a t = ⊥

-- ---- the tree object and the messages

-- the tree object is got next, and the bytes spell none
abbrev pub BreaksRoot : ℕ → Work → Answer → Trouble → Type 0
BreaksRoot tree w a (trouble.Damaged where_it_is at) =
    (where_it_is ≡ place.Object (object.Tree tree))
    × ((l : Claim) × (w ≡ work.GettingTree l) × ((bytes : List ℕ) × (a ≡ call.Got (Some bytes)) × (tree_of bytes ≡ None) × (at ≡ offset tree_format bytes)))
BreaksRoot tree w a t = ⊥

-- a received message is no record
abbrev pub BreaksRecord : ℕ → Work → Answer → Trouble → Type 0
BreaksRecord tree w a (trouble.Damaged where_it_is at) =
    ((l : Claim) × ((root : Option (List ℕ)) × (w ≡ work.Receiving l root))) × BreaksMessage tree a where_it_is at
BreaksRecord tree w a t = ⊥

-- ---- inner nodes: the page, the level and the low key are those of the link to where the way down has come

-- page 1, which is no inner node, is absent, or the bytes spell no inner node
abbrev pub IsNoNode : ℕ → Answer → ℕ → Type 0
IsNoNode page a at =
    ((page ≡ 1) × (at ≡ 0) × (a ≡ call.Got None))
    ⊎ ((bytes : List ℕ) × (a ≡ call.Got (Some bytes)) × (inner_of bytes ≡ None) × (at ≡ offset inner_format bytes))

-- the node is got
abbrev pub GetsNode : Answer → Inner → Type 0
GetsNode a n = (bytes : List ℕ) × (a ≡ call.Got (Some bytes)) × (inner_of bytes ≡ Some n)

-- a level stands at offset 10
abbrev pub IsOfLevel : ℕ → Answer → ℕ → Type 0
IsOfLevel level a at = (at ≡ 10) × ((n : Inner) × GetsNode a n × (n.level ≢ level))

abbrev pub BreaksNode : ℕ → Descent → Answer → Trouble → Type 0
BreaksNode tree d a (trouble.Absent page) = (page ≡ d.page) × (page ≢ 1) × (a ≡ call.Got None)
BreaksNode tree d a (trouble.Damaged where_it_is at) =
    (where_it_is ≡ place.Object (object.Page tree d.page)) × (IsNoNode d.page a at ⊎ IsOfLevel d.level a at)
BreaksNode tree d a (trouble.BadFence page expected found) =
    (page ≡ d.page) × (expected ≡ d.low) × ((n : Inner) × GetsNode a n × (n.level ≡ d.level) × (found ≡ n.low) × (bytes_same n.low d.low ≡ false))
BreaksNode tree d a t = ⊥

-- ---- leaves: the page and the low key are those of the link to the leaf in hand

abbrev pub BreaksLeaf : ℕ → Folding → Answer → Trouble → Type 0
BreaksLeaf tree f a (trouble.Absent page) = (page ≡ f.page) × (page ≢ 1) × (a ≡ call.Got None)
BreaksLeaf tree f a (trouble.Damaged where_it_is at) =
    (where_it_is ≡ place.Object (object.Page tree f.page))
    × ((bytes : List ℕ) × ((left : ℕ) × (a ≡ call.Got (Some bytes)) × (whole leaf bytes ≡ Err left) × (at ≡ offset leaf bytes)))
BreaksLeaf tree f a (trouble.BadFence page expected found) =
    (page ≡ f.page) × (expected ≡ f.low) × ((l : Leaf) × GetsLeaf f.page a l × (found ≡ l.low) × (bytes_same l.low f.low ≡ false))
BreaksLeaf tree f a (trouble.Loop page) =
    (l : Leaf) × (high : List ℕ) × GetsLeaf f.page a l × (bytes_same l.low f.low ≡ true) × GoesRight l.high (page_at l.right) high page
    × (bytes_below f.chart.key high ≡ false) × ((page ≡ f.page) ⊎ (is_seen f.visited page ≡ true))
BreaksLeaf tree f a t = ⊥

-- ---- all

-- What the answer of the call in hand demands where the checkpoint stands: the call was refused, the answer breaks what it is to bring, the way that
-- goes on over nodes that were got before is stopped, or what is due has no version or no pages left.
abbrev pub Demands : ℕ → Work → Answer → Trouble → Type 0
Demands tree w a t =
    Refuses (work_ask tree w) a t
    ⊎ (BreaksRoot tree w a t
    ⊎ (BreaksRecord tree w a t
    ⊎ (((h : Held) × ((d : Descent) × (w ≡ work.Descending h d) × BreaksNode tree d a t))
    ⊎ (((h : Held) × ((f : Folding) × (w ≡ work.Folding h f) × (has_nothing f.placing ≡ true) × BreaksLeaf tree f a t))
    ⊎ (BreaksWay tree w a t ⊎ Spends w a t)))))
