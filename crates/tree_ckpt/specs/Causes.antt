-- What the calls of a tree checkpoint brought where it stops for a trouble.
use Rattle.std.specs.Prelude.{ℕ, ◌≡◌, ◌≢◌, ◌-◌, false, List, [], ◌∷◌, Option, Some, None, Ok, Err, ◌⊎◌}
use Rattle.db_base.specs.Limits.{page_ticks, tree_ticks}
use Rattle.db_base.specs.declared.names.Lock.{Lock}
use Rattle.db_base.specs.declared.names.Lock.TheVariants as lock
use Rattle.db_base.specs.declared.names.ObjName.{ObjName}
use Rattle.db_base.specs.declared.names.ObjName.TheVariants as object
use Rattle.db_base.specs.declared.names.Place.{Place}
use Rattle.db_base.specs.declared.names.Place.TheVariants as place
use Rattle.db_base.specs.declared.names.QueueName.TheVariants as queue
use Rattle.db_base.specs.declared.trouble.Trouble.{Trouble}
use Rattle.db_base.specs.declared.trouble.Trouble.TheVariants as trouble
use Rattle.db_base.specs.declared.trouble.Counter.TheVariants as counter
use Rattle.byte_format.specs.Order.{bytes_same}
use Rattle.byte_format.specs.Whole.{whole, offset}
use Rattle.leaf_view.specs.Leaf.{Leaf, leaf}
use Rattle.leaf_view.specs.Lookup.{empty_leaf, page_at}
use Rattle.node_codec.specs.Inner.{Inner, inner_of, inner_format}
use Rattle.node_codec.specs.Node.{Entry, child_of}
use Rattle.node_codec.specs.Node as node
use Rattle.node_codec.specs.Tree.{Tree, tree_of, tree_format}
use Rattle.log_codec.specs.Pu.{pu_offset}
use Rattle.cloud_trait.specs.declared.answer.Answer.{Answer}
use Rattle.cloud_trait.specs.declared.answer.Answer.TheVariants as call
use Rattle.cloud_trait.specs.declared.message.Message.{Message}
use Rattle.cloud_trait.specs.Ask.{Ask, GetHeld, PutHeld, Take}
use Rattle.cloud_trait.specs.Claim.{Claim}
use Rattle.ckpt_parts.specs.Intakes.{items_of}
use Rattle.tree_phases.specs.Read.{tree_held}
use Rattle.tree_ckpt.specs.declared.work.Work.{Work}
use Rattle.tree_ckpt.specs.declared.work.Work.TheVariants.{Releasing}
use Rattle.tree_ckpt.specs.Moves.{entry_or}

-- calls with their answers, the newest first
abbrev pub Calls : Type 0
Calls = List (Ask × Answer)

-- ---- what the calls brought

-- a held get of the object brought this; None where it is absent
abbrev pub Brings : ObjName → Option (List ℕ) → Ask × Answer → Type 0
Brings name got c = (l : Claim) × (c ≡ (GetHeld name l, call.Got got))

abbrev pub WasGot : ObjName → Option (List ℕ) → Calls → Type 0
WasGot name got [] = ⊥
WasGot name got (c ∷ cs) = Brings name got c ⊎ WasGot name got cs

-- a put of the object with these bytes answered Done
abbrev pub Puts : ObjName → List ℕ → Ask × Answer → Type 0
Puts name bytes c = (l : Claim) × (c ≡ (PutHeld name bytes l None, call.Done))

abbrev pub WasPut : ObjName → List ℕ → Calls → Type 0
WasPut name bytes [] = ⊥
WasPut name bytes (c ∷ cs) = Puts name bytes c ⊎ WasPut name bytes cs

-- a tree object that was got, or put by the checkpoint
abbrev pub WasRoot : ℕ → Tree → Calls → Type 0
WasRoot tree t cs =
    ((got : Option (List ℕ)) × (t ≡ tree_held got) × WasGot (object.Tree tree) got cs)
    ⊎ ((bytes : List ℕ) × (t ≡ tree_held (Some bytes)) × WasPut (object.Tree tree) bytes cs)

-- an inner node that was got
abbrev pub WasNode : ℕ → ℕ → Inner → Calls → Type 0
WasNode tree page n cs = (bytes : List ℕ) × (inner_of bytes ≡ Some n) × WasGot (object.Page tree page) (Some bytes) cs

-- a leaf that was got; an absent page 1 is the empty leaf
abbrev pub WasLeaf : ℕ → ℕ → Leaf → Calls → Type 0
WasLeaf tree page l cs =
    ((bytes : List ℕ) × (whole leaf bytes ≡ Ok l) × WasGot (object.Page tree page) (Some bytes) cs)
    ⊎ ((page ≡ 1) × (l ≡ empty_leaf) × WasGot (object.Page tree page) None cs)

-- a page of the tree was read
abbrev pub WasRead : ℕ → ℕ → Calls → Type 0
WasRead tree page cs = (bytes : List ℕ) × WasGot (object.Page tree page) (Some bytes) cs

-- ---- links

-- the entry for some key names this page with this low key
abbrev pub NamesPage : List Entry → List ℕ → ℕ → Type 0
NamesPage entries low page = (key : List ℕ) × (entry_or (child_of key entries) ≡ (low, page))

-- the high key and the right page lead to this page with this low key
abbrev pub GoesRight : Option (List ℕ) → Option ℕ → List ℕ → ℕ → Type 0
GoesRight high right low page = (high ≡ Some low) × (right ≡ Some page)

-- a link to a page, with the level and the low key that it promises: an entry of the tree object, an entry or the right page of an inner node,
-- or the right page of a leaf
abbrev pub IsLink : ℕ → ℕ → List ℕ → ℕ → Calls → Type 0
IsLink tree level low page cs =
    ((t : Tree) × WasRoot tree t cs × (level ≡ t.level - 1) × NamesPage t.entries low page)
    ⊎ (((from : ℕ) × (n : Inner) × WasNode tree from n cs
    × (((level ≡ n.level - 1) × NamesPage n.entries low page) ⊎ ((level ≡ n.level) × GoesRight n.high (node.page_at n.right) low page)))
    ⊎ ((from : ℕ) × (l : Leaf) × WasLeaf tree from l cs × (level ≡ 0) × GoesRight l.high (page_at l.right) low page))

-- ---- troubles

-- a fence that was found is another one than the link promised
abbrev pub BreaksFence : ℕ → Calls → ℕ → List ℕ → List ℕ → Type 0
BreaksFence tree cs page expected found =
    (bytes_same found expected ≡ false)
    × ((level : ℕ) × IsLink tree level expected page cs
    × (((n : Inner) × WasNode tree page n cs × (found ≡ n.low)) ⊎ ((l : Leaf) × WasLeaf tree page l cs × (found ≡ l.low))))

-- the newest call, a held get of a page, brought bytes that spell none of its kind: the first fault of the grammar is shown
abbrev pub BreaksPage : List ℕ → ℕ → Type 0
BreaksPage bytes at = ((left : ℕ) × (whole leaf bytes ≡ Err left) × (at ≡ offset leaf bytes)) ⊎ ((inner_of bytes ≡ None) × (at ≡ offset inner_format bytes))

-- page 1, or a page of another level, was come to where an inner node of a level was promised; a level stands at offset 10
abbrev pub BreaksLevel : ℕ → Calls → Ask → Answer → ℕ → ℕ → Type 0
BreaksLevel tree cs ask a page at =
    ((page ≡ 1) × (at ≡ 0) × Brings (object.Page tree page) None (ask, a))
    ⊎ ((at ≡ 10) × ((level : ℕ) × (low : List ℕ) × (n : Inner) × IsLink tree level low page cs × WasNode tree page n cs × (n.level ≢ level)))

abbrev pub BreaksObject : ℕ → Calls → Ask → Answer → ObjName → ℕ → Type 0
BreaksObject tree cs ask a (object.Tree t) at =
    (t ≡ tree) × ((bytes : List ℕ) × Brings (object.Tree tree) (Some bytes) (ask, a) × (tree_of bytes ≡ None) × (at ≡ offset tree_format bytes))
BreaksObject tree cs ask a (object.Page t page) at =
    (t ≡ tree) × (((bytes : List ℕ) × Brings (object.Page tree page) (Some bytes) (ask, a) × BreaksPage bytes at) ⊎ BreaksLevel tree cs ask a page at)
BreaksObject tree cs ask a name at = ⊥

-- a received message that is no record, the first such
abbrev pub BreaksMessage : ℕ → Answer → Place → ℕ → Type 0
BreaksMessage tree a where_it_is at =
    (ms : List Message) × ((m : Message) × (a ≡ call.Received ms) × (items_of ms ≡ Err m) × (where_it_is ≡ place.Message (queue.TreePu tree) m.id)
    × (at ≡ pu_offset m.bytes))

abbrev pub Breaks : ℕ → Calls → Ask → Answer → Place → ℕ → Type 0
Breaks tree cs ask a where_it_is at = ((name : ObjName) × (where_it_is ≡ place.Object name) × BreaksObject tree cs ask a name at) ⊎ BreaksMessage tree a where_it_is at

-- how long leases of a checkpoint are taken for
abbrev pub ticks_of : Lock → ℕ
ticks_of (lock.Tree tree) = tree_ticks
ticks_of (lock.Page tree page) = page_ticks
ticks_of (lock.Client client) = 0

-- What these calls brought where this trouble comes of the newest one: a page that is absent was got by it; a loop leads to a page that was read
-- before. What is spent is that of what is due. Want of memory is free.
abbrev pub Shows : ℕ → Calls → Ask → Answer → Trouble → Type 0
Shows tree cs ask a trouble.Failed = a ≡ call.Failed
Shows tree cs ask a (trouble.Late e n) = a ≡ call.Late e n
Shows tree cs ask a (trouble.Busy lock until) = (ask ≡ Take lock (ticks_of lock)) × (a ≡ call.Held until)
Shows tree cs ask a (trouble.Absent page) =
    (page ≢ 1) × Brings (object.Page tree page) None (ask, a) × ((level : ℕ) × (low : List ℕ) × IsLink tree level low page cs)
Shows tree cs ask a (trouble.NotALeaf page) = ⊥
Shows tree cs ask a (trouble.Damaged where_it_is at) = Breaks tree cs ask a where_it_is at
Shows tree cs ask a (trouble.BadFence page expected found) = BreaksFence tree cs page expected found
Shows tree cs ask a (trouble.Loop page) = WasRead tree page cs × ((level : ℕ) × (low : List ℕ) × IsLink tree level low page cs)
Shows tree cs ask a (trouble.Exhausted counter.Version) = Unit {0}
Shows tree cs ask a (trouble.Exhausted counter.Pages) = Unit {0}
Shows tree cs ask a (trouble.Exhausted what) = ⊥
Shows tree cs ask a (trouble.Waiting have need) = ⊥
Shows tree cs ask a (trouble.Stale page least got) = ⊥
Shows tree cs ask a trouble.Memory = Unit {0}

-- the trouble with which it stops once its leases are given back
abbrev pub kept_trouble : Work → Option Trouble
kept_trouble (Releasing held (Err t)) = Some t
kept_trouble w = None
