-- How many calls a settling makes at most, by the states at its begin and at its end.
use Rattle.std.specs.Prelude.{ℕ, zero, suc, ◌≡◌, ◌+◌, ◌-◌, ◌*◌, ◌≤◌, List, [], ◌∷◌, length, map}
use Rattle.cloud_facts.specs.Book.Telling.{head_in, last_or}
use Rattle.cloud_facts.specs.Words.{IsTree, QueueName, Head, CloudState}
use Rattle.db_base.specs.Ids.{IsPage}
use Rattle.db_base.specs.Limits.{last_client}
use Rattle.db_base.specs.declared.names.ObjName.TheVariants as object
use Rattle.db_base.specs.declared.names.QueueName.TheVariants as queue
use Rattle.head_codec.specs.Head.{empty_head}
use Rattle.recover_run.specs.Gathering.{count_of}
use Rattle.session_facts.specs.Machines.TreeCheckpoints.Few.{next_page}
use Rattle.session_facts.specs.Settling.Runs.{waiting, right_at}

-- ---- sums

-- the sum of a number for each of 1 to n
unfoldable pub sum_upto : (ℕ → ℕ) → ℕ → ℕ
sum_upto f zero = 0
sum_upto f (suc n) = sum_upto f n + f (suc n)

-- .. and for each page of a list
abbrev pub sum_over : (ℕ → ℕ) → List ℕ → ℕ
sum_over f [] = 0
sum_over f (page ∷ pages) = f page + sum_over f pages

-- ---- clients

-- the newest head of a client; the empty one where none landed
abbrev pub newest_head : CloudState → ℕ → Head
newest_head s client = last_or empty_head (map head_in (s.versions (object.Head client)))

-- four calls for each message of the client that is not deleted, and one for each record that its open head counts
abbrev pub client_calls : CloudState → ℕ → ℕ
client_calls before client = 4 * length (waiting before (queue.Atomic client)) + count_of (newest_head before client).phase

-- ---- queues

-- the messages of a queue that were not deleted at the begin, or were sent since
abbrev pub to_settle : CloudState → CloudState → QueueName → ℕ
to_settle before after q = length (waiting before q) + (length (after.messages q) - length (before.messages q))

-- for a queue with so many messages, of a tree with so many pages
abbrev pub queue_calls : ℕ → ℕ → ℕ
queue_calls messages pages = 16 + messages * (8 * pages + 32)

-- for the queues of a tree with so many pages: its own, and those of its leaves
abbrev pub tree_calls : (QueueName → ℕ) → ℕ → ℕ → List ℕ → ℕ
tree_calls messages pages tree leaves =
    queue_calls (messages (queue.TreePu tree)) pages + sum_over (λ page. queue_calls (messages (queue.PagePu tree page)) pages) leaves

-- ---- leaves

-- right pages lead along these pages from one to another, each of them a page
abbrev pub LeadAlong : (ℕ → ℕ) → ℕ → List ℕ → ℕ → Type 0
LeadAlong right from [] to = from ≡ to
LeadAlong right from (page ∷ pages) to = IsPage page × ((page ≡ from) × LeadAlong right (right page) pages to)

-- the pages of all leaves of a tree: right pages lead along them from page 1 to no page
abbrev pub AreLeafPages : CloudState → ℕ → List ℕ → Type 0
AreLeafPages s tree pages = LeadAlong (right_at s tree) 1 pages 0

-- .. of each tree
abbrev pub AreAllLeafPages : CloudState → (ℕ → List ℕ) → Type 0
AreAllLeafPages s leaves = (tree : ℕ) → IsTree tree → AreLeafPages s tree (leaves tree)

-- ---- the whole

-- eight calls for each of 64 clients and what their messages and records need, and what the queues of 16 trees and of all their leaves need
abbrev pub most_calls : CloudState → CloudState → (ℕ → List ℕ) → ℕ
most_calls before after leaves =
    last_client * 8 + sum_upto (client_calls before) last_client + sum_upto (λ tree. tree_calls (to_settle before after) (next_page after tree - 1) tree (leaves tree)) 16

-- each tree has one list of leaf pages at the end, and so many calls are no more than the most by these
pub record SettlesWithin (before after : CloudState) (calls : ℕ) : Type 0 where
  pub leaves : ℕ → List ℕ
  pub are : AreAllLeafPages after leaves
  pub only : (others : ℕ → List ℕ) → AreAllLeafPages after others → (tree : ℕ) → IsTree tree → others tree ≡ leaves tree
  pub within : (these : ℕ → List ℕ) → AreAllLeafPages after these → calls ≤ most_calls before after these
