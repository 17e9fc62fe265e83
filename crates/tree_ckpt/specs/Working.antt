-- The work of a tree checkpoint, as its calls tell it: from leaf to leaf, and then up.
use Rattle.std.specs.Prelude.{ℕ, ◌≡◌, ◌≢◌, ◌<◌, ◌≤◌, ◌+◌, ◌-◌, true, false, List, [], ◌∷◌, ◌++◌, map, reverse, drop, length, Option, Some, None, Ok, ◌⊎◌}
use Rattle.std.specs.List.{AllByRecursion}
use Rattle.db_base.specs.Change.{key_of}
use Rattle.db_base.specs.Limits.{longest_key, most_items, page_ticks}
use Rattle.db_base.specs.declared.names.Lock.TheVariants as lock
use Rattle.db_base.specs.declared.names.ObjName.TheVariants as object
use Rattle.byte_format.specs.Format.{greatest}
use Rattle.byte_format.specs.Order.{bytes_below, below_bound}
use Rattle.byte_format.specs.Whole.{whole}
use Rattle.leaf_view.specs.Leaf.{Leaf, leaf}
use Rattle.leaf_view.specs.Lookup.{empty_leaf, page_at, holds}
use Rattle.node_codec.specs.Inner.{Inner, inner_of, node_of_root}
use Rattle.node_codec.specs.Node.{Entry, child_of}
use Rattle.node_codec.specs.Node as node
use Rattle.node_codec.specs.Tree.{Tree, tree_bytes}
use Rattle.log_codec.specs.declared.record.PuItem.{PuItem}
use Rattle.leaf_edit.specs.Applied.{applied}
use Rattle.leaf_edit.specs.Lacked.{lacked}
use Rattle.run_cursor.specs.Run.{Taken}
use Rattle.split_plan.specs.declared.entry_list.NewEntry.{NewEntry}
use Rattle.split_plan.specs.declared.put_list.PagePut.{PagePut}
use Rattle.split_plan.specs.Cut.{IsCut}
use Rattle.split_plan.specs.Part.{Part, NodePart, record_key, entry_key, part_of_leaf, part_of_node}
use Rattle.split_plan.specs.Plan.{put_of, entry_of, on_pages, leaf_bytes, node_bytes}
use Rattle.split_plan.specs.Plan.{root_above as root_with}
use Rattle.cloud_trait.specs.declared.answer.Answer.{Answer}
use Rattle.cloud_trait.specs.declared.answer.Answer.TheVariants.{Got, Done, Given}
use Rattle.cloud_trait.specs.Ask.{Ask, GetHeld, PutHeld, Take, Release}
use Rattle.cloud_trait.specs.Claim.{Claim}
use Rattle.ckpt_parts.specs.Intakes.{has_items}
use Rattle.tree_phases.specs.declared.kept.KeptNode.{KeptNode}
use Rattle.tree_phases.specs.declared.link.Link.{Link}
use Rattle.tree_phases.specs.declared.placing.Placing.{Placing}
use Rattle.tree_phases.specs.Kept.{links_at}
use Rattle.tree_phases.specs.Placing.{landed_root}
use Rattle.tree_phases.specs.Read.{tree_held}
use Rattle.tree_phases.specs.declared.page_plan.PagePlan.{PagePlan}
use Rattle.tree_phases.specs.Folding.{no_placing}
use Rattle.tree_phases.specs.declared.root.RootPlan.{RootPlan}
use Rattle.tree_phases.specs.Nodes.{with_links, is_touched}
use Rattle.tree_phases.specs.Root.{risen}
use Rattle.tree_ckpt.specs.Moves.{entry_or}
use Rattle.tree_ckpt.specs.Causes.{Calls, WasGot, WasNode, GoesRight}

-- ---- lists

abbrev pub IsAmong : {A : Type 0} → A → List A → Type 0
IsAmong x [] = ⊥
IsAmong x (y ∷ ys) = (y ≡ x) ⊎ IsAmong x ys

-- ---- puts

-- these calls answered Done one after another, the newest first, over the calls before them
abbrev pub done_over : List Ask → Calls → Calls
done_over [] rest = rest
done_over (ask ∷ asks) rest = done_over asks ((ask, Done) ∷ rest)

-- pages are put under the tree's lease, a leaf's also under the leaf's
abbrev pub page_puts : ℕ → Claim → Option Claim → List PagePut → List Ask
page_puts tree one two [] = []
page_puts tree one two (x ∷ xs) = PutHeld (object.Page tree x.page) x.bytes one two ∷ page_puts tree one two xs

-- a tree object with the numbers of new pages is put before them, where there is one
abbrev pub reserved_before : ℕ → Claim → Option (List ℕ) → List Ask → List Ask
reserved_before tree one (Some bytes) asks = PutHeld (object.Tree tree) bytes one None ∷ asks
reserved_before tree one None asks = asks

abbrev pub puts_of : ℕ → Claim → Option Claim → Placing → List Ask
puts_of tree one two p = reserved_before tree one p.reserved (page_puts tree one two p.puts)

-- ---- pieces

-- So many numbers of new pages are those from the tree object's next number on, where it has so many left. Its next version, with that number raised by so
-- many and nothing else changed, is put before them.
abbrev pub Reserves : Tree → ℕ → ℕ → Option (List ℕ) → Type 0
Reserves root first count None = count ≡ 0
Reserves root first count (Some bytes) =
    (first ≡ root.next) × (root.version ≢ greatest) × (root.next + count ≤ greatest)
    × (bytes ≡ tree_bytes (record root { version = root.version + 1; next = root.next + count }))

-- how pieces are spelled: the key of an item, and the bytes of a piece
pub record PieceForm (A X : Type 0) : Type 0 where
  pub key : A → List ℕ
  pub bytes : Part A X → List ℕ

abbrev pub form_of : {A X : Type 0} → (A → List ℕ) → (Part A X → List ℕ) → PieceForm A X
form_of key bytes = record { key = key; bytes = bytes }

-- What is put for a page, and named above it: the pieces that it is cut into, of at most 64 items each, the rightmost first and that on its own page
-- last, the new ones on the numbers that are reserved for them.
pub record PutsPieces {A X : Type 0} (form : PieceForm A X) (root : Tree) (page : ℕ) (whole : Part A X) (placing : Placing)
    (named : List NewEntry) : Type 0 where
  pub first : ℕ
  pub pieces : List (Part A X)
  pub cut : IsCut form.key first whole pieces
  pub small : AllByRecursion (λ q. length q.items ≤ most_items) pieces
  pub numbers : Reserves root first (length pieces - 1) placing.reserved
  pub puts : placing.puts ≡ reverse (map (put_of form.bytes) (on_pages page first pieces))
  pub entries : named ≡ drop 1 (map entry_of (on_pages page first pieces))

-- the leaf with the run applied is put
abbrev pub PutsLeaf : Tree → ℕ → Leaf → List PuItem → PagePlan → Type 0
PutsLeaf root page l run p = PutsPieces (form_of record_key leaf_bytes) root page (part_of_leaf (applied l 0 run)) p.placing p.entries

-- the next version of an inner node, with the links that go to it
abbrev pub linked_node : Inner → List Link → Inner
linked_node n ls = record n { version = n.version + 1; entries = with_links n ls n.entries }

-- it is put
abbrev pub PutsNode : Tree → KeptNode → List Link → PagePlan → Type 0
PutsNode root k ls p =
    (n : Inner) × (inner_of k.bytes ≡ Some n) × PutsPieces (form_of entry_key node_bytes) root k.page (part_of_node (linked_node n ls)) p.placing p.entries

-- ---- a way down

-- a page that was come to, with the level and the low key that the link to it promises
pub record Place : Type 0 where
  pub level : ℕ
  pub low : List ℕ
  pub page : ℕ

-- the child for a key, at this level
abbrev pub child_place : List ℕ → List Entry → ℕ → Place
child_place key entries level = record { level = level; low = (entry_or (child_of key entries)).0; page = (entry_or (child_of key entries)).1 }

-- the child of the tree object
abbrev pub below_root : List ℕ → Option (List ℕ) → Place
below_root key root = child_place key (tree_held root).entries ((tree_held root).level - 1)

-- a leaf
abbrev pub leaf_place : List ℕ → ℕ → Place
leaf_place low page = record { level = 0; low = low; page = page }

-- an inner node
abbrev pub node_place : ℕ → Inner → Place
node_place page n = record { level = n.level; low = n.low; page = page }

-- the link to a page that was come to by a right link, for the level above
abbrev pub link_to : Place → Link
link_to p = record { level = p.level + 1; low = p.low; page = p.page }

-- An inner node leads on for a key: to its right page where the key is not below its high key, which is a turn, and else to its child.
abbrev pub LeadsOn : List ℕ → Inner → ℕ → List Link → Place → List Link → Type 0
LeadsOn key n level turns q more =
    (GoesRight n.high (node.page_at n.right) q.low q.page × (bytes_below key q.low ≡ false) × (q.level ≡ level) × (more ≡ turns ++ link_to q ∷ []))
    ⊎ ((below_bound key n.high ≡ true) × (q ≡ child_place key n.entries (level - 1)) × (more ≡ turns))

-- a key that is sought in a tree, with the calls that got what was seen
pub record Seeking : Type 0 where
  pub tree : ℕ
  pub key : List ℕ
  pub calls : Calls

abbrev pub seeking : ℕ → List ℕ → Calls → Seeking
seeking tree key cs = record { tree = tree; key = key; calls = cs }

-- A way for a key leads from one page to another over inner nodes that were got, the newest first. Each has the level and the low key that the link to it
-- promised. Its turns are all right links that it followed.
abbrev pub IsWay : Seeking → Place → List Inner → Place → List Link → Type 0
IsWay s start [] q turns = (q ≡ start) × (turns ≡ [])
IsWay s start (n ∷ ns) q turns =
    (p : Place) × (before : List Link) × IsWay s start ns p before × WasNode s.tree p.page n s.calls × (n.level ≡ p.level) × (n.low ≡ p.low)
    × LeadsOn s.key n p.level before q turns

-- ---- a leaf

-- how a leaf was left: put as planned, as it was since it lacks nothing, or for the page on its right
pub data Outcome : Type 0 where
  Planned : (plan : PagePlan) → Outcome
  Spared : Outcome
  Passed : (link : Link) → Outcome

-- A leaf that was come to for a key: what was got on the way down to it, the right links that were followed there, its page and lease, what its get
-- brought, the leaf that this is, how it was left, and what its release answered.
pub record Visit : Type 0 where
  pub key : List ℕ
  pub looks : Calls
  pub turns : List Link
  pub page : ℕ
  pub lease : Claim
  pub got : Option (List ℕ)
  pub leaf : Leaf
  pub outcome : Outcome
  pub freed : Answer

abbrev pub placing_of : Outcome → Placing
placing_of (Planned p) = p.placing
placing_of Spared = no_placing
placing_of (Passed link) = no_placing

-- the leaf is taken and got under its lease, and what was planned is put under the tree's lease and its own
abbrev pub held_over : ℕ → Claim → Visit → Calls → Calls
held_over tree one v rest =
    done_over (puts_of tree one (Some v.lease) (placing_of v.outcome))
    ((GetHeld (object.Page tree v.page) v.lease, Got v.got) ∷ (Take (lock.Page tree v.page) page_ticks, Given v.lease) ∷ v.looks ++ rest)

-- and then it is given back
abbrev pub visit_over : ℕ → Claim → Visit → Calls → Calls
visit_over tree one v rest = (Release v.lease, v.freed) ∷ held_over tree one v rest

abbrev pub visits_over : ℕ → Claim → List Visit → Calls → Calls
visits_over tree one [] rest = rest
visits_over tree one (v ∷ vs) rest = visit_over tree one v (visits_over tree one vs rest)

-- on the way down pages are got under the tree's lease
abbrev pub AreLooks : ℕ → Claim → Calls → Type 0
AreLooks tree one [] = Unit {0}
AreLooks tree one (c ∷ cs) = ((page : ℕ) × (bytes : List ℕ) × (c ≡ (GetHeld (object.Page tree page) one, Got (Some bytes)))) × AreLooks tree one cs

-- the page is this leaf; an absent page 1 is the empty leaf
abbrev pub HoldsLeaf : ℕ → Leaf → Option (List ℕ) → Type 0
HoldsLeaf page l (Some bytes) = whole leaf bytes ≡ Ok l
HoldsLeaf page l None = (page ≡ 1) × (l ≡ empty_leaf)

-- a right link of an inner node that was got among these calls
abbrev pub IsTurn : ℕ → Calls → Link → Type 0
IsTurn tree cs l =
    (page : ℕ) × (n : Inner) × WasNode tree page n cs × (l.level ≡ n.level + 1) × GoesRight n.high (node.page_at n.right) l.low l.page

abbrev pub AreTurns : ℕ → Calls → List Link → Type 0
AreTurns tree cs links = AllByRecursion (IsTurn tree cs) links

-- What is planned is the leaf with the run applied, with the tree object that stands. A leaf that lacks no item of the run stays as it is. One is left by
-- its right link.
abbrev pub IsLeft : Taken → Option (List ℕ) → ℕ → Leaf → Outcome → Type 0
IsLeft run root page l (Planned plan) = (has_items (lacked l 0 run.items) ≡ true) × PutsLeaf (tree_held root) page l run.items plan
IsLeft run root page l Spared = has_items (lacked l 0 run.items) ≡ false
IsLeft run root page l (Passed link) = (link.level ≡ 1) × GoesRight l.high (page_at l.right) link.low link.page

-- A leaf that is put, or that lacks nothing, has the key in its range; one that is left for the page on its right has only keys below it.
abbrev pub IsFor : List ℕ → Leaf → Outcome → Type 0
IsFor key l (Planned plan) = holds l key ≡ true
IsFor key l Spared = holds l key ≡ true
IsFor key l (Passed link) = bytes_below key link.low ≡ false

-- ---- leaf by leaf

-- what was got on all ways down
abbrev pub looks_of : List Visit → Calls
looks_of [] = []
looks_of (v ∷ vs) = v.looks ++ looks_of vs

-- the tree object that stands behind visits, the newest first: the newest reservation, or that which was got
abbrev pub root_behind : Option (List ℕ) → List Visit → Option (List ℕ)
root_behind got [] = got
root_behind got (v ∷ vs) = landed_root (placing_of v.outcome) (root_behind got vs)

-- the newest leaf was left for this page on its right, which has the key too
abbrev pub IsLeftTo : Place → Outcome → Type 0
IsLeftTo p (Planned plan) = ⊥
IsLeftTo p Spared = ⊥
IsLeftTo p (Passed link) = p ≡ leaf_place link.low link.page

abbrev pub IsLeftFor : List ℕ → Place → List Visit → Type 0
IsLeftFor key p [] = ⊥
IsLeftFor key p (v ∷ vs) = (v.key ≡ key) × IsLeftTo p v.outcome

-- a way for a key begins at the tree object's child, or at the page for which the newest leaf was left
abbrev pub IsStart : Option (List ℕ) → List ℕ → List Visit → Place → Type 0
IsStart root key vs p = (p ≡ below_root key root) ⊎ IsLeftFor key p vs

abbrev pub IsCome : Option (List ℕ) → Seeking → List Visit → List Link → Place → Type 0
IsCome root s vs turns q = (start : Place) × IsStart root s.key vs start × ((ns : List Inner) × IsWay s start ns q turns)

-- these bytes are those of one of the nodes
abbrev pub IsOver : List ℕ → List Inner → Type 0
IsOver bytes ns = (n : Inner) × (inner_of bytes ≡ Some n) × IsAmong n ns

-- a visit behind others; each node that was got on the way down is one that it led over
pub record IsVisit (tree : ℕ) (one : Claim) (run : Taken) (got : Option (List ℕ)) (vs : List Visit) (v : Visit) : Type 0 where
  pub looks : AreLooks tree one v.looks
  pub turns : AreTurns tree (v.looks ++ visits_over tree one vs []) v.turns
  pub come : IsCome (root_behind got vs) (seeking tree v.key (v.looks ++ visits_over tree one vs [])) vs v.turns (leaf_place v.leaf.low v.page)
  pub over : (page : ℕ) (bytes : List ℕ) → WasGot (object.Page tree page) (Some bytes) v.looks → IsOver bytes come.2.0
  pub holds : HoldsLeaf v.page v.leaf v.got
  pub is_for : IsFor v.key v.leaf v.outcome
  pub left : IsLeft run (root_behind got vs) v.page v.leaf v.outcome

abbrev pub AreVisits : ℕ → Claim → Taken → Option (List ℕ) → List Visit → Type 0
AreVisits tree one run got [] = Unit {0}
AreVisits tree one run got (v ∷ vs) = IsVisit tree one run got vs v × AreVisits tree one run got vs

-- the links that are known then, for the levels above: right links that were followed, and new pieces
abbrev pub links_from : Outcome → List Link → List Link
links_from (Planned p) links = links ++ links_at 1 p.entries
links_from Spared links = links
links_from (Passed link) links = links ++ link ∷ []

abbrev pub links_behind : List Visit → List Link
links_behind [] = []
links_behind (v ∷ vs) = links_from v.outcome (links_behind vs ++ v.turns)

-- how many items the leaf lacked, where it was put
abbrev pub lacked_where : Taken → Leaf → Outcome → ℕ
lacked_where run l (Planned plan) = length (lacked l 0 run.items)
lacked_where run l Spared = 0
lacked_where run l (Passed link) = 0

abbrev pub lacked_on : Taken → List Visit → ℕ
lacked_on run [] = 0
lacked_on run (v ∷ vs) = lacked_on run vs + lacked_where run v.leaf v.outcome

-- a leaf was put, or it lacked nothing
abbrev pub IsSettled : Outcome → Type 0
IsSettled (Planned plan) = Unit {0}
IsSettled Spared = Unit {0}
IsSettled (Passed link) = ⊥

-- a key lies in the range of such a leaf
abbrev pub IsHandled : List ℕ → List Visit → Type 0
IsHandled key [] = ⊥
IsHandled key (v ∷ vs) = ((holds v.leaf key ≡ true) × IsSettled v.outcome) ⊎ IsHandled key vs

-- ---- up

-- an inner node that was got, and what was planned for it
pub record Climb : Type 0 where
  pub node : KeptNode
  pub plan : PagePlan

-- all that is put is put under the tree's lease
abbrev pub climbs_over : ℕ → Claim → List Climb → Calls → Calls
climbs_over tree one [] rest = rest
climbs_over tree one (u ∷ us) rest = done_over (puts_of tree one None u.plan.placing) (climbs_over tree one us rest)

-- the tree object that stands behind them, and the links that are known then: those of below, and the new pieces
abbrev pub root_above : Option (List ℕ) → List Climb → Option (List ℕ)
root_above root [] = root
root_above root (u ∷ us) = landed_root u.plan.placing (root_above root us)

abbrev pub links_above : List Link → List Climb → List Link
links_above links [] = links
links_above links (u ∷ us) = links_above links us ++ links_at (u.node.level + 1) u.plan.entries

-- a node is kept at the level that its bytes have
abbrev pub HasLevel : KeptNode → Type 0
HasLevel k = (n : Inner) × (inner_of k.bytes ≡ Some n) × (n.level ≡ k.level)

-- what is planned is a node that was got among these calls, with the links that go to it, with the tree object that stands; no node is put behind one
-- of a higher level
abbrev pub AreClimbs : ℕ → Calls → Option (List ℕ) → List Link → List Climb → Type 0
AreClimbs tree cs root links [] = Unit {0}
AreClimbs tree cs root links (u ∷ us) =
    WasGot (object.Page tree u.node.page) (Some u.node.bytes) cs × HasLevel u.node × AllByRecursion (λ v. v.node.level ≤ u.node.level) us
    × PutsNode (tree_held (root_above root us)) u.node (links_above links us) u.plan × AreClimbs tree cs root links us

-- the tree object's next version, with its cursor raised to the run's top and with the links of its level
abbrev pub raised_root : Tree → List Link → List (ℕ × ℕ) → Tree
raised_root root links top = risen root.level links top (record root { version = root.version + 1 })

-- it is put as it is
abbrev pub PutsWhole : Tree → RootPlan → Type 0
PutsWhole t last = (last.placing ≡ no_placing) × (last.last ≡ tree_bytes t)

-- It is cut into inner nodes of its level, of at most 64 entries each and all of them new. These are put, the rightmost first, and then its next version,
-- which names them, one level higher.
pub record PutsBelow (root t : Tree) (p : RootPlan) : Type 0 where
  pub pieces : List NodePart
  pub cut : IsCut entry_key (t.next + 1) (part_of_node (node_of_root t)) pieces
  pub small : AllByRecursion (λ q. length q.items ≤ most_items) pieces
  pub numbers : Reserves root t.next (length pieces) p.placing.reserved
  pub puts : p.placing.puts ≡ reverse (map (put_of node_bytes) (on_pages t.next (t.next + 1) pieces))
  pub last : p.last
      ≡ tree_bytes (root_with (map entry_of (on_pages t.next (t.next + 1) pieces)) (record t { version = t.version + 1; next = t.next + length pieces }))

-- one of more than 64 entries is cut, unless its level is the greatest
abbrev pub PutsRoot : Tree → Tree → RootPlan → Type 0
PutsRoot root t last =
    (((length t.entries ≤ most_items) ⊎ (255 ≤ root.level)) × PutsWhole t last) ⊎ ((most_items < length t.entries) × (root.level < 255) × PutsBelow root t last)

-- such a node is among those that are put
abbrev pub IsPut : ℕ → List ℕ → List Climb → Type 0
IsPut page bytes [] = ⊥
IsPut page bytes (u ∷ us) = ((u.node.page ≡ page) × (u.node.bytes ≡ bytes)) ⊎ IsPut page bytes us

-- ---- what the level above names

-- one of these puts is that of an inner node of this level with this entry
abbrev pub PutsEntry : ℕ → Entry → List PagePut → Type 0
PutsEntry level e [] = ⊥
PutsEntry level e (x ∷ xs) = ((q : NodePart) × (x.bytes ≡ node_bytes q) × (q.common ≡ level) × IsAmong e q.items) ⊎ PutsEntry level e xs

-- what was put for this page on the way up has the entry
abbrev pub HasClimbed : ℕ → ℕ → List Climb → Entry → Type 0
HasClimbed page level [] e = ⊥
HasClimbed page level (u ∷ us) e = ((u.node.page ≡ page) × PutsEntry level e u.plan.placing.puts) ⊎ HasClimbed page level us e

-- the tree object that was put last has the entry, or else a node of its level into which it was cut
abbrev pub HasRisen : ℕ → RootPlan → Entry → Type 0
HasRisen level p e = ((t : Tree) × (p.last ≡ tree_bytes t) × (t.level ≡ level) × IsAmong e t.entries) ⊎ PutsEntry level e p.placing.puts

-- A link's page is named with its low key by what was put. A low key is named once: where it stood there before, or two links have it, the page is that
-- which it had there, or that of one of these links.
abbrev pub IsNamed : (Entry → Type 0) → List Entry → List Link → Link → Type 0
IsNamed Has old links l = (page : ℕ) × Has (l.low, page) × (IsAmong (l.low, page) old ⊎ IsAmong (record l { page = page }) links)

-- a low key lies in the node's range
pub record HoldsLow (n : Inner) (low : List ℕ) : Type 0 where
  pub short : length low ≤ longest_key
  pub from : bytes_below low n.low ≡ false
  pub to : below_bound low n.high ≡ true

-- a link is one of the node's level, and its low key lies in the node's range
pub record IsInRange (n : Inner) (l : Link) : Type 0 where
  pub level : l.level ≡ n.level
  pub short : length l.low ≤ longest_key
  pub from : bytes_below l.low n.low ≡ false
  pub to : below_bound l.low n.high ≡ true

-- A page that was come to lies under the level above it: its link is of the tree object's level, or its low key lies in the range of a node of the link's
-- level that was got among these calls.
abbrev pub IsUnder : ℕ → Tree → Calls → Link → Type 0
IsUnder tree root cs l = ((l.level ≡ root.level) × (length l.low ≤ longest_key)) ⊎ ((page : ℕ) × (n : Inner) × WasNode tree page n cs × IsInRange n l)

-- a right link that was followed, on a way down or from a leaf
abbrev pub IsFollowed : Link → List Visit → Type 0
IsFollowed l [] = ⊥
IsFollowed l (v ∷ vs) = (IsAmong l v.turns ⊎ (v.outcome ≡ Passed l)) ⊎ IsFollowed l vs

-- a link to a new piece of a leaf, or of a node on the way up
abbrev pub IsPieceOf : Link → Outcome → Type 0
IsPieceOf l (Planned p) = IsAmong l (links_at 1 p.entries)
IsPieceOf l Spared = ⊥
IsPieceOf l (Passed link) = ⊥

abbrev pub IsLeafPiece : Link → List Visit → Type 0
IsLeafPiece l [] = ⊥
IsLeafPiece l (v ∷ vs) = IsPieceOf l v.outcome ⊎ IsLeafPiece l vs

abbrev pub IsNodePiece : Link → List Climb → Type 0
IsNodePiece l [] = ⊥
IsNodePiece l (u ∷ us) = IsAmong l (links_at (u.node.level + 1) u.plan.entries) ⊎ IsNodePiece l us

-- a link is one of the tree object's level, to a page that was reserved
pub record IsOfRoot (t : Tree) (l : Link) : Type 0 where
  pub level : l.level ≡ t.level
  pub short : length l.low ≤ longest_key
  pub page : l.page < t.next

-- ---- the whole work

-- the visits, the nodes that were put on the way up, and the tree object that was put last; the newest first
pub record Worked : Type 0 where
  pub visits : List Visit
  pub climbs : List Climb
  pub last : RootPlan

abbrev pub fold_calls : ℕ → Claim → Worked → Calls
fold_calls tree one w = visits_over tree one w.visits []

abbrev pub worked_calls : ℕ → Claim → Worked → Calls
worked_calls tree one w =
    (PutHeld (object.Tree tree) w.last.last one None, Done) ∷ done_over (puts_of tree one None w.last.placing) (climbs_over tree one w.climbs (fold_calls tree one w))

-- the tree object that stands before the last put, and the links that are known then
abbrev pub last_root : Option (List ℕ) → Worked → Tree
last_root got w = tree_held (root_above (root_behind got w.visits) w.climbs)

abbrev pub last_links : Worked → List Link
last_links w = links_above (links_behind w.visits) w.climbs

-- What the level above has of a link: what was put for a node that was got there, in whose range its low key lies, names it; or it is of the tree object's
-- level, and what was put for that names it, where its page was reserved.
abbrev pub IsNamedAbove : ℕ → Option (List ℕ) → Worked → Link → Type 0
IsNamedAbove tree got w l =
    ((page : ℕ) × (n : Inner) × WasNode tree page n (looks_of w.visits) × IsInRange n l × IsNamed (HasClimbed page l.level w.climbs) n.entries (last_links w) l)
    ⊎ ((l.level ≡ (last_root got w).level) × (l.page < (last_root got w).next → IsNamed (HasRisen l.level w.last) (last_root got w).entries (last_links w) l))

-- What it has of the link to a new piece: the same, where the low key is below the high key of the node that was got there. Its other bound is known.
abbrev pub IsNewNamed : ℕ → Option (List ℕ) → Worked → Link → Type 0
IsNewNamed tree got w l =
    ((l.level ≡ (last_root got w).level) × (length l.low ≤ longest_key → IsNamed (HasRisen l.level w.last) (last_root got w).entries (last_links w) l))
    ⊎ ((page : ℕ) × (n : Inner) × WasNode tree page n (looks_of w.visits) × (l.level ≡ n.level) × (bytes_below l.low n.low ≡ false)
    × (length l.low ≤ longest_key → below_bound l.low n.high ≡ true → IsNamed (HasClimbed page l.level w.climbs) n.entries (last_links w) l))

-- Each put is as planned from what was got before it; the first tree object is what the get brought. Each item of the run lies in the range of a leaf
-- that was put, or lacked nothing. An inner node that was got is put where a link that is known goes to it. So each link that is known, to a new piece or
-- to a page on the right, is named by what was put for a node of its level that was got and has its low key in its range (`named`), or by the tree object
-- where it is of its level (`named_last`). Each page that was come to by a right link has one of the two (`rights`), and so has each new piece of a leaf
-- or of an inner node (`news`). The page of a new piece was reserved (`reserved`), its low key lies in the range of the leaf or node that it is cut from
-- (`inside_leaf`, `inside`), and that lies itself under such a node or the tree object (`under`, `under_nodes`).
pub record IsWorked (tree : ℕ) (one : Claim) (run : Taken) (got : Option (List ℕ)) (w : Worked) : Type 0 where
  pub visits : AreVisits tree one run got w.visits
  pub covers : AllByRecursion (λ x. IsHandled (key_of x.rec.change) w.visits) run.items
  pub climbs : AreClimbs tree (fold_calls tree one w) (root_behind got w.visits) (links_behind w.visits) w.climbs
  pub raises : (page : ℕ) (bytes : List ℕ) (n : Inner) → WasGot (object.Page tree page) (Some bytes) (looks_of w.visits) → inner_of bytes ≡ Some n
      → is_touched n (last_links w) ≡ true → IsPut page bytes w.climbs
  pub named : (l : Link) → IsAmong l (last_links w) → (page : ℕ) (bytes : List ℕ) (n : Inner) → WasGot (object.Page tree page) (Some bytes) (looks_of w.visits)
      → inner_of bytes ≡ Some n → IsInRange n l → IsNamed (HasClimbed page l.level w.climbs) n.entries (last_links w) l
  pub named_last : (l : Link) → IsAmong l (last_links w) → IsOfRoot (last_root got w) l
      → IsNamed (HasRisen l.level w.last) (last_root got w).entries (last_links w) l
  pub rights : (l : Link) → IsFollowed l w.visits → IsNamedAbove tree got w l
  pub news : (l : Link) → IsLeafPiece l w.visits ⊎ IsNodePiece l w.climbs → IsNewNamed tree got w l
  pub reserved : (l : Link) → IsLeafPiece l w.visits ⊎ IsNodePiece l w.climbs → IsAmong l (last_links w) × (l.page < (last_root got w).next)
  pub inside_leaf : (v : Visit) (l : Link) → IsAmong v w.visits → IsPieceOf l v.outcome → holds v.leaf l.low ≡ true
  pub inside : (u : Climb) (l : Link) → IsAmong u w.climbs → IsAmong l (links_at (u.node.level + 1) u.plan.entries)
      → (n : Inner) × (inner_of u.node.bytes ≡ Some n) × HoldsLow n l.low
  pub under : (v : Visit) → IsAmong v w.visits → IsUnder tree (last_root got w) (looks_of w.visits) (link_to (leaf_place v.leaf.low v.page))
  pub under_nodes : (page : ℕ) (bytes : List ℕ) (n : Inner) → WasGot (object.Page tree page) (Some bytes) (looks_of w.visits) → inner_of bytes ≡ Some n
      → IsUnder tree (last_root got w) (looks_of w.visits) (link_to (node_place page n))
  pub last : PutsRoot (last_root got w) (raised_root (last_root got w) (last_links w) run.top) w.last

-- the work is such where the run has an item, and there is none where it is empty
abbrev pub WorksBy : ℕ → Claim → Taken → Option (List ℕ) → Calls → Option Worked → Type 0
WorksBy tree one run got cs (Some w) = (has_items run.items ≡ true) × (cs ≡ worked_calls tree one w) × IsWorked tree one run got w
WorksBy tree one run got cs None = (has_items run.items ≡ false) × (cs ≡ [])

-- how many items were applied
abbrev pub applied_count : Taken → Option Worked → ℕ
applied_count run (Some w) = lacked_on run w.visits
applied_count run None = 0
