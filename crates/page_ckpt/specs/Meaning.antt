-- What a page checkpoint did, as its calls tell it.
use Rattle.std.specs.Prelude.{ℕ, ◌≡◌, ◌+◌, Bool, true, false, List, [], ◌∷◌, length, Option, Some, None, Ok}
use Rattle.db_base.specs.Limits.{page_ticks, most_received}
use Rattle.db_base.specs.declared.names.Lock.TheVariants as lock
use Rattle.db_base.specs.declared.names.ObjName.{ObjName}
use Rattle.db_base.specs.declared.names.ObjName.TheVariants as object
use Rattle.db_base.specs.declared.names.QueueName.{QueueName}
use Rattle.db_base.specs.declared.names.QueueName.TheVariants as queue
use Rattle.db_base.specs.Cursor.{number_of}
use Rattle.leaf_view.specs.Leaf.{Leaf, IsLeaf}
use Rattle.leaf_view.specs.Lookup.{AreNumbers}
use Rattle.log_codec.specs.declared.record.PuItem.{PuItem}
use Rattle.leaf_edit.specs.Applied.{applied}
use Rattle.leaf_edit.specs.Lacked.{lacked}
use Rattle.run_cursor.specs.Run.{Taken, IsRun}
use Rattle.run_cursor.specs.Covered.{covered_ids}
use Rattle.cloud_trait.specs.declared.answer.Answer.{Answer}
use Rattle.cloud_trait.specs.declared.answer.Answer.TheVariants.{Got, Received, Done, Given}
use Rattle.cloud_trait.specs.declared.message.Message.{Message}
use Rattle.cloud_trait.specs.declared.turn.CkptAnswer.{CkptAnswer}
use Rattle.cloud_trait.specs.declared.turn.Turn.{Turn}
use Rattle.cloud_trait.specs.declared.turn.Turn.TheVariants.{More, Ended, Stopped}
use Rattle.cloud_trait.specs.Ask.{Ask, GetHeld, PutHeld, Receive, Delete, Take, Release}
use Rattle.cloud_trait.specs.Claim.{Claim}
use Rattle.cloud_trait.specs.Machine.{Deed, calls_of}
use Rattle.cloud_trait.specs.Views.{done_of}
use Rattle.ckpt_parts.specs.Intakes.{ids_of, items_of, has_items}
use Rattle.ckpt_parts.specs.Leaves.{HoldsLinked}
use Rattle.page_ckpt.specs.declared.link.Link.{Link}
use Rattle.page_ckpt.specs.Links.{TakesLink}
use Rattle.page_ckpt.specs.Paging.{Paging, HoldsNamed, went}

-- calls with their answers, the newest first
abbrev pub Calls : Type 0
Calls = List (Ask × Answer)

-- a page of a tree, the leaf that it was, and the run of its queue
pub record Scene : Type 0 where
  pub tree : ℕ
  pub page : ℕ
  pub home : Leaf
  pub run : Taken

abbrev pub scene : Paging → Scene
scene p = record { tree = p.tree; page = p.page; home = p.home; run = p.run }

abbrev pub page_name : Scene → ℕ → ObjName
page_name s page = object.Page s.tree page

abbrev pub take_page : Scene → ℕ → Ask
take_page s page = Take (lock.Page s.tree page) page_ticks

abbrev pub scene_queue : Scene → QueueName
scene_queue s = queue.PagePu s.tree s.page

-- the items of the run that a leaf lacks, and the leaf with the run applied
abbrev pub lacked_by : Scene → Leaf → List PuItem
lacked_by s l = lacked l s.page s.run.items

abbrev pub applied_to : Scene → Leaf → Leaf
applied_to s l = applied l s.page s.run.items

-- ---- the opening: the page is taken and read, and its queue is received from

-- the bytes that the get brought, the received messages, their records, and the page's numbers of its queue
pub record Opening : Type 0 where
  pub got : Option (List ℕ)
  pub messages : List Message
  pub items : List PuItem
  pub cursor : List (ℕ × ℕ)

-- one receive, of 256 at most
abbrev pub opening_calls : Scene → Claim → Opening → Calls
opening_calls s lease o =
    (Receive (scene_queue s) most_received, Received o.messages) ∷ (GetHeld (page_name s s.page) lease, Got o.got) ∷ (take_page s s.page, Given lease) ∷ []

-- the page is the leaf that the get brought, and the run is that of the page's own numbers and of the received records
pub record IsOpened (s : Scene) (received : List ℕ) (o : Opening) : Type 0 where
  pub home : HoldsNamed s.tree s.page o.got (Ok s.home)
  pub told : received ≡ ids_of o.messages
  pub read : items_of o.messages ≡ Ok o.items
  pub own : AreNumbers s.home.done s.page (number_of o.cursor)
  pub run : IsRun o.cursor o.items s.run.items s.run.top

-- ---- right pages

-- a right page that was come to: the link that led there, its lease, the bytes that the get brought, the leaf that they are, the bytes
-- that were put, and what its release answered
pub record Visit : Type 0 where
  pub link : Link
  pub lease : Claim
  pub got : Option (List ℕ)
  pub leaf : Leaf
  pub out : Option (List ℕ)
  pub freed : Answer

-- a put before other calls, where there was one
abbrev pub put_over : Option (List ℕ) → (List ℕ → Ask) → Calls → Calls
put_over (Some out) ask rest = (ask out, Done) ∷ rest
put_over None ask rest = rest

-- a right page is put under the leases of the page and then its own
abbrev pub right_put : Scene → Claim → ℕ → Claim → List ℕ → Ask
right_put s home page lease out = PutHeld (page_name s page) out home (Some lease)

-- the page is put under its lease
abbrev pub home_put : Scene → Claim → List ℕ → Ask
home_put s home out = PutHeld (page_name s s.page) out home None

-- a right page is taken, read under its lease, put where it lacks something, and given back
abbrev pub visit_over : Scene → Claim → Visit → Calls → Calls
visit_over s home v rest =
    (Release v.lease, v.freed) ∷ put_over v.out (right_put s home v.link.page v.lease)
    ((GetHeld (page_name s v.link.page) v.lease, Got v.got) ∷ (take_page s v.link.page, Given v.lease) ∷ rest)

abbrev pub visits_over : Scene → Claim → List Visit → Calls → Calls
visits_over s home [] rest = rest
visits_over s home (v ∷ vs) rest = visit_over s home v (visits_over s home vs rest)

-- what is put is the leaf with the run applied, and a leaf that lacks nothing is not put
abbrev pub PutsLacked : Scene → Leaf → Option (List ℕ) → Type 0
PutsLacked s l (Some out) = (has_items (lacked_by s l) ≡ true) × IsLeaf out (applied_to s l)
PutsLacked s l None = has_items (lacked_by s l) ≡ false

-- the leaf is what the get brought, behind the link that led to it
pub record IsVisit (s : Scene) (v : Visit) : Type 0 where
  pub holds : HoldsLinked s.tree v.link.page v.link.low v.got (Ok v.leaf)
  pub puts : PutsLacked s v.leaf v.out

-- visits, the newest first, each behind the link that the run takes from the page before, and the link that leads on from the last
abbrev pub LeadsOn : Scene → List Visit → Option Link → Type 0
LeadsOn s [] link = TakesLink s.home s.run.items link
LeadsOn s (v ∷ vs) link = TakesLink v.leaf s.run.items link × IsVisit s v × LeadsOn s vs (Some v.link)

-- how many items the visited pages lacked
abbrev pub lacked_on : Scene → List Visit → ℕ
lacked_on s [] = 0
lacked_on s (v ∷ vs) = lacked_on s vs + length (lacked_by s v.leaf)

-- ---- the page itself and the deletions

-- nothing is put where the run is empty; else the right pages are, as far as links lead, and the page last
abbrev pub Works : Scene → List Visit → Option (List ℕ) → Type 0
Works s visits (Some out) = (has_items s.run.items ≡ true) × LeadsOn s visits None × IsLeaf out (applied_to s s.home)
Works s visits None = (has_items s.run.items ≡ false) × (visits ≡ [])

-- how many items were applied
abbrev pub applied_count : Scene → List Visit → Option (List ℕ) → ℕ
applied_count s visits (Some out) = lacked_on s visits + length (lacked_by s s.home)
applied_count s visits None = 0

-- deletions that were tried, the newest first, with their answers
abbrev pub Tried : Type 0
Tried = List (ℕ × Answer)

abbrev pub deletes_over : Scene → Tried → Calls → Calls
deletes_over s [] rest = rest
deletes_over s (t ∷ ts) rest = (Delete (scene_queue s) t.0, t.1) ∷ deletes_over s ts rest

-- the ids that were tried, in their order, and then others
abbrev pub tried_before : Tried → List ℕ → List ℕ
tried_before [] ids = ids
tried_before (t ∷ ts) ids = tried_before ts (t.0 ∷ ids)

abbrev pub one_more : Bool → ℕ → ℕ
one_more true n = n + 1
one_more false n = n

abbrev pub one_less : Bool → ℕ → ℕ
one_less true n = n
one_less false n = n + 1

-- how many deletions answered Done, and how many did not
abbrev pub went_count : Tried → ℕ
went_count [] = 0
went_count (t ∷ ts) = one_more (went (done_of t.1)) (went_count ts)

abbrev pub failed_count : Tried → ℕ
failed_count [] = 0
failed_count (t ∷ ts) = one_less (went (done_of t.1)) (failed_count ts)

-- ---- the whole

-- all calls of a checkpoint up to its deletions
abbrev pub main_calls : Scene → Claim → Opening → List Visit → Option (List ℕ) → Calls
main_calls s lease o visits out = put_over out (home_put s lease) (visits_over s lease visits (opening_calls s lease o))

-- Done, by the call `release`: the calls before it were the opening, the right pages, the page, and the deletions of exactly the covered
-- ids. All under the leases that their takes gave.
pub record IsDone (release : Ask) (p : Paging) (h : List Deed) (answer : CkptAnswer) : Type 0 where
  pub lease : Claim
  pub opening : Opening
  pub opened : IsOpened (scene p) p.received opening
  pub visits : List Visit
  pub out : Option (List ℕ)
  pub works : Works (scene p) visits out
  pub tried : Tried
  pub calls : calls_of h ≡ deletes_over (scene p) tried (main_calls (scene p) lease opening visits out)
  pub last : release ≡ Release lease
  pub covered : tried_before tried [] ≡ covered_ids p.run.top opening.items
  pub answers : answer ≡ record { applied = applied_count (scene p) visits out; deleted = went_count tried; left = failed_count tried }

-- what an end says of the calls before it
abbrev pub MeansDone : Ask → Paging → List Deed → Turn CkptAnswer → Type 0
MeansDone last p h More = Unit {0}
MeansDone last p h (Ended answer) = IsDone last p h answer
MeansDone last p h (Stopped t) = Unit {0}
