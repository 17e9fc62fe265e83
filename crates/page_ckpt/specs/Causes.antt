-- Why a page checkpoint stops: each trouble is shown by the answer of the step that brings it.
use Rattle.std.specs.Prelude.{ℕ, ◌≡◌, ◌≢◌, true, false, List, Option, Some, None, Ok, Err, ◌⊎◌}
use Rattle.db_base.specs.Cursor.{number_of}
use Rattle.db_base.specs.Limits.{page_ticks}
use Rattle.db_base.specs.declared.names.Place.{Place}
use Rattle.db_base.specs.declared.names.Place.TheVariants as place
use Rattle.db_base.specs.declared.names.ObjName.TheVariants as object
use Rattle.db_base.specs.declared.trouble.Trouble.{Trouble}
use Rattle.db_base.specs.declared.trouble.Trouble.TheVariants as trouble
use Rattle.db_base.specs.declared.trouble.Counter.TheVariants as counter
use Rattle.byte_format.specs.Order.{bytes_same}
use Rattle.byte_format.specs.Whole.{offset}
use Rattle.leaf_view.specs.Leaf.{Leaf, leaf}
use Rattle.leaf_view.specs.Lookup.{AreNumbers}
use Rattle.node_codec.specs.Inner.{Inner, IsInner}
use Rattle.leaf_edit.specs.Lacked.{lacked}
use Rattle.log_codec.specs.declared.record.PuItem.{PuItem}
use Rattle.log_codec.specs.Pu.{pu_offset}
use Rattle.run_cursor.specs.Run.{Taken, IsRun}
use Rattle.cloud_trait.specs.declared.answer.Answer.{Answer}
use Rattle.cloud_trait.specs.declared.answer.Answer.TheVariants as call
use Rattle.cloud_trait.specs.declared.message.Message.{Message}
use Rattle.cloud_trait.specs.declared.turn.CkptAnswer.{CkptAnswer}
use Rattle.cloud_trait.specs.declared.turn.Turn.{Turn}
use Rattle.cloud_trait.specs.declared.turn.Turn.TheVariants.{More, Ended, Stopped}
use Rattle.cloud_trait.specs.Ask.{Ask, Delete, Take, Release}
use Rattle.ckpt_parts.specs.Intakes.{items_of, has_items}
use Rattle.ckpt_parts.specs.Leaves.{IsNoLeaf, HoldsLeaf, HoldsLinked}
use Rattle.page_ckpt.specs.declared.link.Link.{Link}
use Rattle.page_ckpt.specs.declared.stage.Stage.TheVariants.{GettingHome, Receiving, GettingRight, ReleasingRight}
use Rattle.page_ckpt.specs.Links.{TakesLink}
use Rattle.page_ckpt.specs.Paging.{Paging, paging_ask, own_queue, IsNoInner, is_visited}
use Rattle.cloud_trait.specs.State.{greatest}

-- a call whose failure stops the checkpoint: each but a deletion and a release
abbrev pub Matters : Ask → Type 0
Matters (Delete queue id) = ⊥
Matters (Release l) = ⊥
Matters ask = Unit {0}

-- the page that the held get in hand reads: the checkpoint's own, or the right page at hand
abbrev pub Reads : Paging → ℕ → Type 0
Reads p page = ((p.stage ≡ GettingHome) × (page ≡ p.page)) ⊎ ((p.stage ≡ GettingRight) × (page ≡ p.at.page))

-- bytes of a page that spell no leaf, and, of the named page, no inner node either
abbrev pub BreaksPage : Paging → Answer → ℕ → ℕ → Type 0
BreaksPage p a page at =
    Reads p page × ((bytes : List ℕ) × (a ≡ call.Got (Some bytes)) × IsNoLeaf bytes × (at ≡ offset leaf bytes)
    × (p.stage ≡ GettingHome → IsNoInner bytes))

-- a received message that is no record, the first such
abbrev pub BreaksMessage : Paging → Answer → Place → ℕ → Type 0
BreaksMessage p a where_it_is at =
    (p.stage ≡ Receiving) × ((ms : List Message) × ((m : Message) × (a ≡ call.Received ms) × (items_of ms ≡ Err m) × (where_it_is ≡ place.Message (own_queue p) m.id)
    × (at ≡ pu_offset m.bytes)))

-- a right page whose low key is not the one that led there
abbrev pub BreaksFence : Paging → Answer → ℕ → List ℕ → List ℕ → Type 0
BreaksFence p a page expected found =
    (p.stage ≡ GettingRight) × (page ≡ p.at.page) × (expected ≡ p.at.low) × (bytes_same expected found ≡ false)
    × ((got : Option (List ℕ)) × ((l : Leaf) × (a ≡ call.Got got) × HoldsLeaf p.tree page got (Ok l) × (found ≡ l.low)))

-- this is a run of the items behind the page's own numbers of its queue
abbrev pub IsOwnRun : Paging → List PuItem → Taken → Type 0
IsOwnRun p items run =
    (cursor : List (ℕ × ℕ)) × AreNumbers p.home.done p.page (number_of cursor) × IsRun cursor items run.items run.top

-- a receive brought records, and this is a run of them, which has items
abbrev pub BringsRun : Paging → Answer → Taken → Type 0
BringsRun p a run =
    (ms : List Message) × ((items : List PuItem) × (a ≡ call.Received ms) × (items_of ms ≡ Ok items) × (has_items run.items ≡ true) × IsOwnRun p items run)

-- this link leads on, or none does: from the page as it was read, once a run was taken, or from a right page that is given back
abbrev pub LeadsOn : Paging → Answer → Paging → Option Link → Type 0
LeadsOn p a n link =
    ((p.stage ≡ Receiving) × BringsRun p a n.run × TakesLink p.home n.run.items link) ⊎ ((p.stage ≡ ReleasingRight) × (link ≡ p.onward))

-- a link leads on to a page that was come to before
abbrev pub GoesRound : Paging → Answer → Paging → ℕ → Type 0
GoesRound p a n page = (is_visited p page ≡ true) × ((link : Link) × LeadsOn p a n (Some link) × (page ≡ link.page))

abbrev pub greatest_number : ℕ
greatest_number = greatest

-- the page itself is to be put, since no link leads on, and has the greatest version
abbrev pub IsHomeSpent : Paging → Answer → Paging → Type 0
IsHomeSpent p a n = LeadsOn p a n None × (p.home.version ≡ greatest_number)

-- the right page in hand lacks items of the run, and has the greatest version
abbrev pub IsRightSpent : Paging → Answer → Type 0
IsRightSpent p a =
    (p.stage ≡ GettingRight)
    × ((got : Option (List ℕ)) × ((l : Leaf) × (a ≡ call.Got got) × HoldsLinked p.tree p.at.page p.at.low got (Ok l)
    × (has_items (lacked l p.page p.run.items) ≡ true) × (l.version ≡ greatest_number)))

-- What the answer to the call in hand must be where this trouble comes of it; for a link that leads on from the page, the step has taken the run.
-- Want of memory is free.
abbrev pub Shows : Paging → Answer → Paging → Trouble → Type 0
Shows p a n trouble.Failed = (a ≡ call.Failed) × Matters (paging_ask p)
Shows p a n (trouble.Late end now) = a ≡ call.Late end now
Shows p a n (trouble.Busy lock until) = (paging_ask p ≡ Take lock page_ticks) × (a ≡ call.Held until)
Shows p a n (trouble.Absent page) = Reads p page × (page ≢ 1) × (a ≡ call.Got None)
Shows p a n (trouble.NotALeaf page) =
    (page ≡ p.page) × (p.stage ≡ GettingHome) × ((bytes : List ℕ) × ((i : Inner) × (a ≡ call.Got (Some bytes)) × IsInner bytes i))
Shows p a n (trouble.Damaged where_it_is at) =
    ((page : ℕ) × (where_it_is ≡ place.Object (object.Page p.tree page)) × BreaksPage p a page at) ⊎ BreaksMessage p a where_it_is at
Shows p a n (trouble.BadFence page expected found) = BreaksFence p a page expected found
Shows p a n (trouble.Loop page) = GoesRound p a n page
Shows p a n (trouble.Exhausted what) = (what ≡ counter.Version) × (IsHomeSpent p a n ⊎ IsRightSpent p a)
Shows p a n (trouble.Waiting have need) = ⊥
Shows p a n (trouble.Stale page least got) = ⊥
Shows p a n trouble.Memory = Unit {0}

-- a trouble that is kept or answered after a call was kept before it, or the call's answer shows it
abbrev pub IsShown : Paging → Answer → Paging → Trouble → Type 0
IsShown p a n t = (p.trouble ≡ Some t) ⊎ Shows p a n t

-- what a step tells of its trouble
abbrev pub Tells : Paging → Answer → Paging → Turn CkptAnswer → Type 0
Tells p a n More = (t : Trouble) → n.trouble ≡ Some t → IsShown p a n t
Tells p a n (Ended answer) = p.trouble ≡ None
Tells p a n (Stopped t) = t ≢ trouble.Memory → IsShown p a n t
