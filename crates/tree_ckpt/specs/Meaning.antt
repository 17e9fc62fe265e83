-- What a tree checkpoint did once it is done, as its calls tell it.
use Rattle.std.specs.Prelude.{ℕ, ◌≡◌, ◌+◌, Bool, true, false, List, [], ◌∷◌, ◌++◌, Option, None, Ok}
use Rattle.db_base.specs.Limits.{most_received}
use Rattle.db_base.specs.declared.names.ObjName.TheVariants as object
use Rattle.db_base.specs.declared.names.QueueName.TheVariants as queue
use Rattle.node_codec.specs.Node.{raised}
use Rattle.node_codec.specs.Tree.{Tree, tree_bytes}
use Rattle.log_codec.specs.declared.record.PuItem.{PuItem}
use Rattle.run_cursor.specs.Run.{Taken, IsRun}
use Rattle.run_cursor.specs.Covered.{covered_ids}
use Rattle.cloud_trait.specs.declared.answer.Answer.{Answer}
use Rattle.cloud_trait.specs.declared.answer.Answer.TheVariants.{Got, Received, Done, Given}
use Rattle.cloud_trait.specs.declared.message.Message.{Message}
use Rattle.cloud_trait.specs.declared.turn.CkptAnswer.{CkptAnswer}
use Rattle.cloud_trait.specs.declared.turn.Turn.{Turn}
use Rattle.cloud_trait.specs.declared.turn.Turn.TheVariants.{More, Ended, Stopped}
use Rattle.cloud_trait.specs.Ask.{Ask, GetHeld, PutHeld, Receive, Delete, Release}
use Rattle.cloud_trait.specs.Claim.{Claim}
use Rattle.cloud_trait.specs.Machine.{Deed, calls_of}
use Rattle.cloud_trait.specs.Views.{done_of}
use Rattle.ckpt_parts.specs.Intakes.{ids_of, items_of, has_items}
use Rattle.tree_phases.specs.Read.{tree_held}
use Rattle.tree_ckpt.specs.Work.{take_tree}
use Rattle.tree_ckpt.specs.Moves.{went}
use Rattle.tree_ckpt.specs.Making.{Making}
use Rattle.tree_ckpt.specs.Causes.{Calls}
use Rattle.tree_ckpt.specs.Working.{Worked, WorksBy, applied_count}

-- ---- the opening: the tree is taken, its object is read under the lease, and its queue is received from

-- what the get brought, the received messages, their records, and the run that was taken
pub record Opening : Type 0 where
  pub got : Option (List ℕ)
  pub messages : List Message
  pub items : List PuItem
  pub run : Taken

-- one receive, of 256 at most
abbrev pub opening_calls : ℕ → Claim → Opening → Calls
opening_calls tree lease o =
    (Receive (queue.TreePu tree) most_received, Received o.messages) ∷ (GetHeld (object.Tree tree) lease, Got o.got) ∷ (take_tree tree, Given lease) ∷ []

-- the run is that behind the tree object's cursor of the received records
pub record IsOpened (o : Opening) : Type 0 where
  pub read : items_of o.messages ≡ Ok o.items
  pub run : IsRun (tree_held o.got).cursor o.items o.run.items o.run.top

-- ---- the work

-- neither a receive nor a deletion
abbrev pub IsAtWork : Ask → Type 0
IsAtWork (Receive queue most) = ⊥
IsAtWork (Delete queue id) = ⊥
IsAtWork ask = Unit {0}

abbrev pub AreAtWork : Calls → Type 0
AreAtWork [] = Unit {0}
AreAtWork (c ∷ cs) = IsAtWork c.0 × AreAtWork cs

-- the tree object landed under the tree's lease, with a cursor that is raised to the run's top
abbrev pub IsRootPut : ℕ → Claim → Taken → Ask × Answer → Type 0
IsRootPut tree lease run c =
    (t : Tree) × (before : List (ℕ × ℕ)) × (c ≡ (PutHeld (object.Tree tree) (tree_bytes t) lease None, Done)) × (t.cursor ≡ raised before run.top)

-- nothing is put where the run is empty; else leaves and nodes are, and the tree object last
abbrev pub Works : ℕ → Claim → Taken → Calls → Type 0
Works tree lease run [] = has_items run.items ≡ false
Works tree lease run (c ∷ cs) = (has_items run.items ≡ true) × IsRootPut tree lease run c × AreAtWork cs

-- ---- the deletions

-- deletions that were tried, the newest first, with their answers
abbrev pub Tried : Type 0
Tried = List (ℕ × Answer)

abbrev pub deletes_over : ℕ → Tried → Calls → Calls
deletes_over tree [] rest = rest
deletes_over tree (t ∷ ts) rest = (Delete (queue.TreePu tree) t.0, t.1) ∷ deletes_over tree ts rest

-- the ids that were tried, in their order, and then others
abbrev pub tried_before : Tried → List ℕ → List ℕ
tried_before [] ids = ids
tried_before (t ∷ ts) ids = tried_before ts (t.0 ∷ ids)

abbrev pub one_more : Bool → ℕ → ℕ
one_more true n = n + 1
one_more false n = n

abbrev pub one_less : Bool → ℕ → ℕ
one_less true n = n
one_less false n = n + 1

-- how many deletions answered Done, and how many did not
abbrev pub went_count : Tried → ℕ
went_count [] = 0
went_count (t ∷ ts) = one_more (went (done_of t.1)) (went_count ts)

abbrev pub failed_count : Tried → ℕ
failed_count [] = 0
failed_count (t ∷ ts) = one_less (went (done_of t.1)) (failed_count ts)

-- ---- the whole

-- Done, by the call `release`: the calls before it were the opening with its one receive, the work with the tree object's put as the last,
-- and then the deletions of exactly the ids that the run's top covers. The work was that of leaves and of the way up, each put as planned from
-- what was got. The answer counts the items that the leaves lacked, and the deletions that went and those that failed.
pub record IsDone (release : Ask) (tree : ℕ) (received : List ℕ) (h : List Deed) (answer : CkptAnswer) : Type 0 where
  pub lease : Claim
  pub opening : Opening
  pub opened : IsOpened opening
  pub told : received ≡ ids_of opening.messages
  pub work : Calls
  pub works : Works tree lease opening.run work
  pub worked : Option Worked
  pub each : WorksBy tree lease opening.run opening.got work worked
  pub tried : Tried
  pub calls : calls_of h ≡ deletes_over tree tried (work ++ opening_calls tree lease opening)
  pub last : release ≡ Release lease
  pub covered : tried_before tried [] ≡ covered_ids opening.run.top opening.items
  pub deleted : answer.deleted ≡ went_count tried
  pub left : answer.left ≡ failed_count tried
  pub applied : answer.applied ≡ applied_count opening.run worked

-- what an end says of the calls before it
abbrev pub MeansDone : Ask → Making → List Deed → Turn CkptAnswer → Type 0
MeansDone last m h More = Unit {0}
MeansDone last m h (Ended answer) = IsDone last m.tree m.received h answer
MeansDone last m h (Stopped t) = Unit {0}
