-- What each part of a settling leaves, and how many calls it makes.
use Rattle.std.specs.Prelude.{ℕ, ◌≡◌, ◌+◌, ◌*◌, ◌≤◌, List, [], ◌∷◌, length}
use Rattle.cloud_trait.specs.Calm.{AreCalm}
use Rattle.cloud_trait.specs.Plenty.{HadMemory}
use Rattle.ckpt_parts.specs.Intakes.{ids_of}
use Rattle.cloud_facts.specs.Words.{QueueName, CloudState, Deed, IsIn, nodes_of}
use Rattle.cloud_facts.specs.Book.Tally.{right_of}
use Rattle.cloud_facts.specs.Chains.Links.{newest_node}
use Rattle.cloud_trait.specs.declared.message.Message.{Message}
use Rattle.cloud_trait.specs.Delivery.{unmarked, IsDelivering}
use Rattle.db_base.specs.Limits.{most_received}
use Rattle.db_base.specs.declared.names.QueueName.TheVariants as queue
use Rattle.head_codec.specs.declared.head.Phase.TheVariants.{Settled}
use Rattle.page_ckpt.specs.Paging.{Paging}
use Rattle.recover_run.specs.Gathering.{count_of}
use Rattle.recover_run.specs.Recovery.{Recovery}
use Rattle.session_facts.specs.Machines.TreeCheckpoints.Few.{next_page, IsFew}
use Rattle.session_facts.specs.Settling.Story.{Moment, store_at, PartRan}
use Rattle.settle_run.specs.declared.part.Part.TheVariants.{Client, Tree, Page}
use Rattle.tree_ckpt.specs.Making.{Making}

-- ---- what is presumed of the calls

-- in none of them a message was withheld, so every receive delivered
abbrev pub AreDelivered : List Deed → Type 0
AreDelivered [] = Unit {0}
AreDelivered (d ∷ h) = (d.after.counts.withheld ≡ d.before.counts.withheld) × AreDelivered h

-- ---- checkpoints

-- the unmarked messages of a queue
abbrev pub waiting : CloudState → QueueName → List Message
waiting s q = unmarked (s.messages q)

-- the first 256 unmarked messages of a queue were received, and exactly these are marked then
pub record Drains (q : QueueName) (received : List ℕ) (first last : CloudState) : Type 0 where
  pub messages : List Message
  pub delivered : IsDelivering (first.messages q) most_received messages
  pub told : received ≡ ids_of messages
  pub kept : (m : Message) → IsIn (waiting last q) m → IsIn (waiting first q) m × (IsIn received m.id → ⊥)
  pub count : length (waiting last q) + length received ≡ length (waiting first q)

-- the right page of the newest version of a page, 0 where there is none
abbrev pub right_at : CloudState → ℕ → ℕ → ℕ
right_at s tree page = right_of (newest_node (nodes_of s tree) page)

-- the checkpoint of a tree marks what it received, however its calls went, and makes few calls where all went well
pub record TreeRun (tree : ℕ) (m : Making) (h : List Deed) (first last : Moment) : Type 0 where
  pub drains : AreDelivered h → Drains (queue.TreePu tree) m.received first.state last.state
  pub few : AreCalm h → HadMemory h → IsFew (length h) m.received last.state tree
  pub grows : next_page first.state tree ≤ next_page last.state tree

-- so does that of a page; no right page is another one behind it, and the page's own is the one that it read
pub record PageRun (tree page : ℕ) (m : Paging) (h : List Deed) (first last : Moment) : Type 0 where
  pub drains : AreDelivered h → Drains (queue.PagePu tree page) m.received first.state last.state
  pub few : AreCalm h → HadMemory h → IsFew (length h) m.received last.state tree
  pub right : right_at last.state tree page ≡ m.home.right
  pub rights : (p : ℕ) → right_at last.state tree p ≡ right_at first.state tree p

-- ---- recoveries

-- the recovery of a client leaves its head settled or absent, however its calls went; where all went well, no message of its ATOMIC queue is
-- left, and it makes eight calls, four for each message that was left before, and one for each record that the open head counted
pub record RecoveryRun (client : ℕ) (h : List Deed) (first last : Moment) : Type 0 where
  pub settles : ((store_at last).tally.head client).phase ≡ Settled
  pub empties : AreCalm h → HadMemory h → waiting last.state (queue.Atomic client) ≡ []
  pub few : AreCalm h → HadMemory h
      → length h ≤ 8 + (4 * length (waiting first.state (queue.Atomic client)) + count_of ((store_at first).tally.head client).phase)

-- ---- every part of a settling runs so

abbrev pub TreesRun : Type 0
TreesRun = (tree : ℕ) (m : Making) (h : List Deed) (first last : Moment) → PartRan (Tree tree m) h first last → TreeRun tree m h first last

abbrev pub PagesRun : Type 0
PagesRun = (tree page : ℕ) (m : Paging) (h : List Deed) (first last : Moment) → PartRan (Page tree page m) h first last → PageRun tree page m h first last

abbrev pub RecoveriesRun : Type 0
RecoveriesRun = (client : ℕ) (m : Recovery) (h : List Deed) (first last : Moment) → PartRan (Client client m) h first last → RecoveryRun client h first last
