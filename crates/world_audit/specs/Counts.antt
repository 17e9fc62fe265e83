-- The counts of a report.
use Rattle.std.specs.Prelude.{ℕ, zero, suc, ◌≡◌, ◌+◌, ◌==◌, ◌&&◌, Bool, true, false, min, length, List, Option, Some, None, if◌then◌else◌}
use Rattle.std.specs.List.{list_any}
use Rattle.db_base.specs.declared.names.ObjName.TheVariants as object
use Rattle.db_base.specs.declared.names.QueueName.{QueueName}
use Rattle.db_base.specs.declared.names.QueueName.TheVariants.{TreePu, PagePu}
use Rattle.cloud_trait.specs.State.{CloudState, newest, greatest}
use Rattle.cloud_trait.specs.Delivery.{unmarked}
use Rattle.head_codec.specs.declared.head.Head.{Head}
use Rattle.head_codec.specs.declared.head.Phase.{Phase}
use Rattle.head_codec.specs.declared.head.Phase.TheVariants.{Settled, Open}
use Rattle.head_codec.specs.Spelling.{head_of}
use Rattle.node_codec.specs.Tree.{Tree, IsTree}
use Rattle.report_types.specs.declared.entry.Entry.{Entry}

-- a commit is under way
abbrev pub is_under_way : Phase → Bool
is_under_way Settled = false
is_under_way (Open n) = true

-- the entry is of this client and tree, and of the head's transaction
abbrev pub is_of : ℕ → ℕ → Head → Entry → Bool
is_of client tree head entry = (entry.client == client) && (entry.epoch == head.epoch) && (entry.txn == head.txn) && (entry.tree == tree)

-- the head is open, and its transaction has a committed entry of the tree
abbrev pub is_open_in : ℕ → ℕ → List Entry → Head → Bool
is_open_in client tree committed head = is_under_way head.phase && list_any (is_of client tree head) committed

-- 1 where there is a head that is open with a committed entry of the tree, else 0
abbrev pub open_count : ℕ → ℕ → List Entry → Option Head → ℕ
open_count client tree committed None = 0
open_count client tree committed (Some head) = if is_open_in client tree committed head then 1 else 0

-- the head that the newest version of a client's head spells, where there is one
abbrev pub head_in : Option (List ℕ) → Option Head
head_in None = None
head_in (Some bytes) = head_of bytes

-- 1 where the newest head of the client is open with a committed entry of the tree, else 0
abbrev pub open_at : CloudState → ℕ → ℕ → List Entry → ℕ
open_at s client tree committed = open_count client tree committed (head_in (newest s (object.Head client)))

-- how many of the newest heads of the clients up to a number are open with a committed entry of the tree
unfoldable pub heads_upto : CloudState → ℕ → List Entry → ℕ → ℕ
heads_upto s tree committed zero = 0
heads_upto s tree committed (suc n) = heads_upto s tree committed n + open_at s (suc n) tree committed

-- the queue of a page, and for page 0 that of the tree
abbrev pub queue_at : ℕ → ℕ → QueueName
queue_at tree zero = TreePu tree
queue_at tree (suc n) = PagePu tree (suc n)

-- how many messages are not deleted of the tree's queue and of those of the pages below a number
unfoldable pub messages_below : CloudState → ℕ → ℕ → ℕ
messages_below s tree zero = 0
messages_below s tree (suc n) = messages_below s tree n + length (unmarked (s.messages (queue_at tree n)))

-- the least free page that the newest version of a root tells, 2 where there is none
abbrev pub IsNextPage : Option (List ℕ) → ℕ → Type 0
IsNextPage None next = next ≡ 2
IsNextPage (Some bytes) next = (t : Tree) × IsTree bytes t × (next ≡ t.next)

-- the messages are those of the tree's queue and of the queues of pages that are not free by the newest root, up to the greatest number
pub record AreWaiting (s : CloudState) (tree count : ℕ) : Type 0 where
  pub next : ℕ
  pub is_next : IsNextPage (newest s (object.Tree tree)) next
  pub sum : count ≡ min (messages_below s tree next) greatest
