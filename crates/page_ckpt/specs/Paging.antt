-- A page checkpoint as a machine: what it knows, what it asks, and where each answer may lead.
use Rattle.std.specs.Prelude.{ℕ, ◌≡◌, ◌≢◌, ◌+◌, ◌==◌, ◌||◌, not, Bool, true, false, List, [], ◌∷◌, ◌++◌, length, Option, Some, None, Result, Ok, Err, ◌⊎◌}
use Rattle.std.specs.List.{list_any}
use Rattle.db_base.specs.Limits.{page_ticks, most_received}
use Rattle.db_base.specs.declared.names.Lock.TheVariants as lock
use Rattle.db_base.specs.declared.names.ObjName.{ObjName}
use Rattle.db_base.specs.declared.names.ObjName.TheVariants as object
use Rattle.db_base.specs.declared.names.QueueName.{QueueName}
use Rattle.db_base.specs.declared.names.QueueName.TheVariants as queue
use Rattle.db_base.specs.declared.trouble.Trouble.{Trouble}
use Rattle.db_base.specs.declared.trouble.Trouble.TheVariants as trouble
use Rattle.db_base.specs.declared.trouble.Counter.TheVariants as counter
use Rattle.db_base.specs.Change.{key_of}
use Rattle.db_base.specs.Cursor.{number_of}
use Rattle.byte_format.specs.Order.{below_bound}
use Rattle.leaf_view.specs.Leaf.{Leaf, IsLeaf}
use Rattle.leaf_view.specs.Lookup.{empty_leaf, page_at, AreNumbers}
use Rattle.node_codec.specs.Inner.{Inner, IsInner}
use Rattle.log_codec.specs.declared.record.PuItem.{PuItem}
use Rattle.leaf_edit.specs.Applied.{applied}
use Rattle.leaf_edit.specs.Lacked.{lacked}
use Rattle.run_cursor.specs.Run.{Taken}
use Rattle.cloud_trait.specs.declared.answer.Answer.{Answer}
use Rattle.cloud_trait.specs.declared.answer.Answer.TheVariants.{Failed}
use Rattle.cloud_trait.specs.declared.message.Message.{Message}
use Rattle.cloud_trait.specs.declared.turn.CkptAnswer.{CkptAnswer}
use Rattle.cloud_trait.specs.declared.turn.Turn.{Turn}
use Rattle.cloud_trait.specs.Ask.{Ask, GetHeld, PutHeld, Receive, Delete, Take, Release}
use Rattle.cloud_trait.specs.Claim.{Claim}
use Rattle.cloud_trait.specs.Machine.{Next, Goes, Ends, Stops, Took, Machine, machine_by}
use Rattle.cloud_trait.specs.Views.{given_of, got_of, received_of, done_of}
use Rattle.ckpt_parts.specs.declared.intake.Intake.{Intake}
use Rattle.ckpt_parts.specs.declared.leases.Leases.{Leases}
use Rattle.ckpt_parts.specs.Deleting.{Deleting, to_delete, next_id, tried}
use Rattle.ckpt_parts.specs.Intakes.{ids_of, no_run, has_items, TakesIn}
use Rattle.ckpt_parts.specs.Leaves.{absent_leaf, ReadsLeaf, HoldsLinked}
use Rattle.ckpt_parts.specs.Leasing.{no_leases, newest_lease, without_newest}
use Rattle.page_ckpt.specs.declared.leaf.Made.{Made}
use Rattle.page_ckpt.specs.declared.leaf.Made.TheVariants.{Leaf as MadeLeaf, Exhausted as MadeNone, Memory as NoMemory}
use Rattle.page_ckpt.specs.declared.link.Link.{Link}
use Rattle.page_ckpt.specs.declared.stage.Stage.{Stage}
use Rattle.page_ckpt.specs.declared.stage.Stage.TheVariants.{TakingHome, GettingHome, Receiving, TakingRight, GettingRight, PuttingRight, ReleasingRight, PuttingHome, Deleting as DeletingNext, Releasing, Finished}
use Rattle.cloud_trait.specs.State.{greatest}

-- where a checkpoint stands: its page, its leases (the page's first, that of a right page second), what its receive answered, the page
-- as it was read, the run, what it is to delete, the link to the right page at hand, the one that leads on from there, the right pages
-- that it came to, the items that the put in hand applies, the bytes of that put, how many items it applied, and the trouble that it
-- answers once its leases are given back
pub record Paging : Type 0 where
  pub tree : ℕ
  pub page : ℕ
  pub stage : Stage
  pub held : Leases
  pub received : List ℕ
  pub home : Leaf
  pub run : Taken
  pub deletions : Deleting
  pub at : Link
  pub onward : Option Link
  pub visited : List ℕ
  pub applying : List PuItem
  pub out : List ℕ
  pub applied : ℕ
  pub trouble : Option Trouble

-- the link that leads to a page without a promise
abbrev pub link_home : ℕ → Link
link_home page = record { page = page; low = [] }

-- the checkpoint of a page before its first call
abbrev pub new_paging : ℕ → ℕ → Paging
new_paging tree page = record {
  tree = tree;
  page = page;
  stage = TakingHome;
  held = no_leases;
  received = [];
  home = empty_leaf;
  run = no_run;
  deletions = to_delete [];
  at = link_home page;
  onward = None;
  visited = [];
  applying = [];
  out = [];
  applied = 0;
  trouble = None;
}

-- the leaf that was read, or the empty one
abbrev pub leaf_or_empty : Option Leaf → Leaf
leaf_or_empty (Some l) = l
leaf_or_empty None = empty_leaf

-- ---- the call in hand

abbrev pub home_name : Paging → ObjName
home_name p = object.Page p.tree p.page

abbrev pub right_name : Paging → ObjName
right_name p = object.Page p.tree p.at.page

-- the queue of the page
abbrev pub own_queue : Paging → QueueName
own_queue p = queue.PagePu p.tree p.page

abbrev pub take_home : Paging → Ask
take_home p = Take (lock.Page p.tree p.page) page_ticks

abbrev pub take_right : Paging → Ask
take_right p = Take (lock.Page p.tree p.at.page) page_ticks

-- under a lease, where it is held
abbrev pub under : Paging → Option Claim → (Claim → Ask) → Ask
under p (Some l) ask = ask l
under p None ask = take_home p

-- a right page is put under the leases of the checkpoint's page and then its own
abbrev pub put_right : Paging → Ask
put_right p = under p p.held.first (λ l. under p p.held.second (λ r. PutHeld (right_name p) p.out l (Some r)))

abbrev pub delete_next : Paging → Option ℕ → Ask
delete_next p (Some id) = Delete (own_queue p) id
delete_next p None = take_home p

abbrev pub ask_at : Stage → Paging → Ask
ask_at TakingHome p = take_home p
ask_at GettingHome p = under p p.held.first (λ l. GetHeld (home_name p) l)
ask_at Receiving p = Receive (own_queue p) most_received
ask_at TakingRight p = take_right p
ask_at GettingRight p = under p p.held.second (λ l. GetHeld (right_name p) l)
ask_at PuttingRight p = put_right p
ask_at ReleasingRight p = under p p.held.second Release
ask_at PuttingHome p = under p p.held.first (λ l. PutHeld (home_name p) p.out l None)
ask_at DeletingNext p = delete_next p (next_id p.deletions.ids)
ask_at Releasing p = under p (newest_lease p.held) Release
ask_at Finished p = take_home p

abbrev pub paging_ask : Paging → Ask
paging_ask p = ask_at p.stage p

-- ---- the leases as the call in hand leaves them

abbrev pub without_right : Leases → Leases
without_right held = record held { second = None }

abbrev pub held_after : Stage → Leases → Leases
held_after ReleasingRight held = without_right held
held_after Releasing held = without_newest held
held_after stage held = held

-- a lease that the call in hand gives back has left
abbrev pub handed : Paging → Paging
handed p = record p { held = held_after p.stage p.held }

-- ---- where an answer leads

abbrev pub Step : Type 0
Step = Next Paging CkptAnswer

abbrev pub goes_to : Stage → Paging → Step
goes_to stage p = Goes (record p { stage = stage })

-- the leases are given back, and then the checkpoint stops
abbrev pub stopping : Paging → Trouble → Step
stopping p t = Goes (record p { stage = Releasing; trouble = Some t })

-- the next id is deleted, or the leases are given back where all are
abbrev pub deleting_by : Paging → Option ℕ → Step
deleting_by p (Some id) = goes_to DeletingNext p
deleting_by p None = goes_to Releasing p

abbrev pub deleting : Paging → Step
deleting p = deleting_by p (next_id p.deletions.ids)

abbrev pub home_taken_by : Paging → Result Claim Trouble → Step
home_taken_by p (Ok l) = Goes (record p { stage = GettingHome; held = record { first = Some l; second = None } })
home_taken_by p (Err t) = Stops p t

-- the bytes spell no inner node
abbrev pub IsNoInner : List ℕ → Type 0
IsNoInner bytes = (n : Inner) → IsInner bytes n → ⊥

-- the bytes of the named page: an inner node's spelling is no leaf
abbrev pub ReadsNamed : ℕ → ℕ → List ℕ → Result Leaf Trouble → Type 0
ReadsNamed tree page bytes found =
    ((n : Inner) × IsInner bytes n × (found ≡ Err (trouble.NotALeaf page))) ⊎ (IsNoInner bytes × ReadsLeaf tree page bytes found)

-- what the held get of the named page brought
abbrev pub HoldsNamed : ℕ → ℕ → Option (List ℕ) → Result Leaf Trouble → Type 0
HoldsNamed tree page None found = found ≡ absent_leaf page
HoldsNamed tree page (Some bytes) found = ReadsNamed tree page bytes found

-- the same, where no leaf stands for the empty one
abbrev pub found_home : Result (Option Leaf) Trouble → Result Leaf Trouble
found_home (Ok home) = Ok (leaf_or_empty home)
found_home (Err t) = Err t

abbrev pub home_read : Paging → Result Leaf Trouble → Step
home_read p (Ok l) = Goes (record p { stage = Receiving; home = l })
home_read p (Err t) = stopping p t

-- after the held get of the page
abbrev pub HomeGot : Paging → Result (Option (List ℕ)) Trouble → Step → Type 0
HomeGot p (Ok got) next = (found : Result Leaf Trouble) × HoldsNamed p.tree p.page got found × (next ≡ home_read p found)
HomeGot p (Err t) next = next ≡ stopping p t

-- the key of the item is not below the bound
abbrev pub is_beyond : Option (List ℕ) → PuItem → Bool
is_beyond bound x = not (below_bound (key_of x.rec.change) bound)

-- whether records of the run have keys not below the bound
abbrev pub reaches_beyond : Option (List ℕ) → List PuItem → Bool
reaches_beyond bound run = list_any (is_beyond bound) run

abbrev pub link_by : Option ℕ → Option (List ℕ) → Bool → Option Link
link_by (Some page) (Some high) true = Some (record { page = page; low = high })
link_by page high beyond = None

-- the link that a run takes from a leaf: to its right page, with its high key, where records of the run have keys not below that
abbrev pub link_of : Leaf → List PuItem → Option Link
link_of l run = link_by (page_at l.right) l.high (reaches_beyond l.high run)

-- a page that this checkpoint came to
abbrev pub is_visited : Paging → ℕ → Bool
is_visited p page = (page == p.page) || list_any (λ q. q == page) p.visited

-- the next version of a leaf is put, with the run applied, unless its version is spent
abbrev pub LeafPut : Paging → Stage → Leaf → Step → Type 0
LeafPut p stage l next =
    ((l.version ≡ greatest) × (next ≡ stopping p (trouble.Exhausted counter.Version)))
    ⊎ ((l.version ≢ greatest)
    × ((out : List ℕ) × IsLeaf out (applied l p.page p.run.items)
    × (next ≡ Goes (record p { stage = stage; applying = lacked l p.page p.run.items; out = out }))))

-- what was made of the next version of a leaf
abbrev pub MakesLeaf : Leaf → ℕ → List PuItem → Made → Type 0
MakesLeaf l page run (MadeLeaf out) = (l.version ≢ greatest) × IsLeaf out (applied l page run)
MakesLeaf l page run MadeNone = l.version ≡ greatest
MakesLeaf l page run NoMemory = Unit {0}

-- it is put, where it was made
abbrev pub MadePut : Paging → Stage → List PuItem → Made → Step → Type 0
MadePut p stage items (MadeLeaf out) next = next ≡ Goes (record p { stage = stage; applying = items; out = out })
MadePut p stage items MadeNone next = next ≡ stopping p (trouble.Exhausted counter.Version)
MadePut p stage items NoMemory next = ⊥

-- no link leads on from here any more
abbrev pub without_onward : Paging → Paging
without_onward p = record p { onward = None }

-- a right page is taken that was not visited
abbrev pub to_right : Paging → Link → Bool → Step
to_right p l true = stopping p (trouble.Loop l.page)
to_right p l false = Goes (record p { stage = TakingRight; at = l; visited = p.visited ++ l.page ∷ [] })

-- the right page comes next where a link leads on, and else the home is put
abbrev pub GoesOnBy : Paging → Option Link → Step → Type 0
GoesOnBy p (Some l) next = next ≡ to_right p l (is_visited p l.page)
GoesOnBy p None next = LeafPut p PuttingHome p.home next

-- a run is applied; where it is empty, the deletions come at once
abbrev pub RunStarted : Paging → Bool → Step → Type 0
RunStarted p true next = GoesOnBy p (link_of p.home p.run.items) next
RunStarted p false next = next ≡ deleting p

abbrev pub with_intake : Paging → Intake → Paging
with_intake p i = record p { run = i.run; deletions = i.deletions }

abbrev pub IntakeTaken : Paging → Result Intake Trouble → Step → Type 0
IntakeTaken p (Ok i) next = RunStarted (with_intake p i) (has_items i.run.items) next
IntakeTaken p (Err t) next = next ≡ stopping p t

-- the run is taken after the page's own numbers of its queue
abbrev pub MessagesRead : Paging → List Message → Step → Type 0
MessagesRead p ms next =
    (cursor : List (ℕ × ℕ)) × AreNumbers p.home.done p.page (number_of cursor)
    × ((taken : Result Intake Trouble) × TakesIn (own_queue p) cursor ms taken × IntakeTaken p taken next)

-- after the receive
abbrev pub ReceivedBy : Paging → Result (List Message) Trouble → Step → Type 0
ReceivedBy p (Ok ms) next = MessagesRead (record p { received = ids_of ms }) ms next
ReceivedBy p (Err t) next = next ≡ stopping p t

abbrev pub right_taken_by : Paging → Result Claim Trouble → Step
right_taken_by p (Ok l) = Goes (record p { stage = GettingRight; held = record p.held { second = Some l } })
right_taken_by p (Err t) = stopping p t

-- a right page that lacks nothing stays
abbrev pub RightLacks : Paging → Leaf → Bool → Step → Type 0
RightLacks p l true next = LeafPut p PuttingRight l next
RightLacks p l false next = next ≡ goes_to ReleasingRight p

abbrev pub RightRead : Paging → Result Leaf Trouble → Step → Type 0
RightRead p (Ok l) next =
    RightLacks (record p { onward = link_of l p.run.items }) l (has_items (lacked l p.page p.run.items)) next
RightRead p (Err t) next = next ≡ stopping p t

-- after the held get of a right page
abbrev pub RightGot : Paging → Result (Option (List ℕ)) Trouble → Step → Type 0
RightGot p (Ok got) next = (found : Result Leaf Trouble) × HoldsLinked p.tree p.at.page p.at.low got found × RightRead p found next
RightGot p (Err t) next = next ≡ stopping p t

-- nothing is in hand to be applied
abbrev pub without_applying : Paging → Paging
without_applying p = record p { applying = [] }

abbrev pub with_applied : Paging → Paging
with_applied p = record p { applying = []; applied = p.applied + length p.applying }

-- after the put of a right page
abbrev pub right_put_by : {A : Type 0} → Paging → Result A Trouble → Step
right_put_by p (Ok _) = goes_to ReleasingRight (with_applied p)
right_put_by p (Err t) = stopping (without_applying p) t

-- after the put of the home
abbrev pub home_put_by : {A : Type 0} → Paging → Result A Trouble → Step
home_put_by p (Ok _) = deleting (with_applied p)
home_put_by p (Err t) = stopping (without_applying p) t

abbrev pub went : {A B : Type 0} → Result A B → Bool
went (Ok _) = true
went (Err _) = false

-- after a deletion
abbrev pub deleted_by : {A : Type 0} → Paging → Result A Trouble → Step
deleted_by p done = deleting (record p { deletions = tried p.deletions (went done) })

-- what a checkpoint answers at its end
abbrev pub answer_of : Paging → CkptAnswer
answer_of p = record { applied = p.applied; deleted = p.deletions.deleted; left = p.deletions.left }

abbrev pub finished_by : Paging → Option Trouble → Step
finished_by p (Some t) = Stops (record p { stage = Finished; trouble = None }) t
finished_by p None = Ends (record p { stage = Finished }) (answer_of p)

-- after a release, whatever it answered: the next lease is given back, or the checkpoint ends
abbrev pub released_by : Paging → Option Claim → Step
released_by p (Some l) = Goes p
released_by p None = finished_by p p.trouble

-- where an answer leads once the lease has left that the call gave back
abbrev pub AbsorbsAt : Stage → Paging → Answer → Step → Type 0
AbsorbsAt TakingHome p a next = next ≡ home_taken_by p (given_of (lock.Page p.tree p.page) a)
AbsorbsAt GettingHome p a next = HomeGot p (got_of a) next
AbsorbsAt Receiving p a next = ReceivedBy p (received_of a) next
AbsorbsAt TakingRight p a next = next ≡ right_taken_by p (given_of (lock.Page p.tree p.at.page) a)
AbsorbsAt GettingRight p a next = RightGot p (got_of a) next
AbsorbsAt PuttingRight p a next = next ≡ right_put_by p (done_of a)
AbsorbsAt ReleasingRight p a next = GoesOnBy (without_onward p) p.onward next
AbsorbsAt PuttingHome p a next = next ≡ home_put_by p (done_of a)
AbsorbsAt DeletingNext p a next = next ≡ deleted_by p (done_of a)
AbsorbsAt Releasing p a next = next ≡ released_by p (newest_lease p.held)
AbsorbsAt Finished p a next = next ≡ Stops p trouble.Failed

abbrev pub Absorbs : Paging → Answer → Step → Type 0
Absorbs p a next = AbsorbsAt p.stage p a next

-- where an answer leads
abbrev pub PagingLeads : Paging → Answer → Step → Type 0
PagingLeads p a next = Absorbs (handed p) a next

-- at want of memory the step leaves the leases as they are
abbrev pub SameLeases : Paging → Answer → Paging → Type 0
SameLeases p a n = n.held ≡ p.held

-- a part of the step leads so from this state, whatever was answered; at want of memory it keeps the leases
abbrev pub TurnsBy : (Paging → Next Paging CkptAnswer → Type 0) → Paging → Paging → Turn CkptAnswer → Type 0
TurnsBy leads old new turn = Took (λ from _ next. leads from next) SameLeases old Failed new turn

-- and so does the call with its step, but for a lease that the call gives back
abbrev pub KeepsLeases : Paging → Answer → Paging → Type 0
KeepsLeases p a n = n.held ≡ (handed p).held

-- a page checkpoint, as a machine
abbrev pub paging_machine : Machine Paging CkptAnswer
paging_machine = machine_by paging_ask PagingLeads KeepsLeases
