-- What an open client that works on no commit knows.
use Rattle.std.specs.Prelude.{ℕ, ◌≡◌, ◌≤◌, List}
use Rattle.cloud_facts.specs.Words.{IsTree, AtomicRec, Store, IsIn}
use Rattle.cloud_facts.specs.Book.Records.{count_of}
use Rattle.cloud_facts.specs.Calls.Acting.{OpenClient, KnowsHome}
use Rattle.cloud_facts.specs.Homes.Homes.{Part}
use Rattle.cloud_facts.specs.Pendings.Pending.{IsOwn}
use Rattle.head_codec.specs.declared.lists.Pending.{Pending}
use Rattle.head_codec.specs.declared.lists.QueueCount.{QueueCount}
use Rattle.route_plan.specs.Queue.{number_of_queue}
use Rattle.route_plan.specs.Record.{pending_of}

-- pending entries are of trees
abbrev pub AreOfTrees : List Pending → Type 0
AreOfTrees pending = (p : Pending) → IsIn pending p → IsTree p.tree

-- and of the client's records in the log, which are committed
abbrev pub AreOfRecords : List AtomicRec → ℕ → List Pending → Type 0
AreOfRecords log client pending = (p : Pending) → IsIn pending p → (r : AtomicRec) × IsOwn log client r × (p ≡ pending_of r)

-- counters are at most the counts of the client's records in the log
abbrev pub AreCounted : List AtomicRec → ℕ → List QueueCount → Type 0
AreCounted log client counters = (tree page : ℕ) → number_of_queue counters tree page ≤ count_of tree page client log

-- its home, and that the pending entries of its head are of trees and of its committed records, and its counters at most their counts, whether its lease
-- lasts or not
pub record KnowsClient (st : Store) (now : ℕ) (of : OpenClient) (part : Part) : Type 0 where
  pub at : KnowsHome st now of part
  pub trees : AreOfTrees of.head.pending
  pub of_records : AreOfRecords st.book.log of.client of.head.pending
  pub counted : AreCounted st.book.log of.client of.head.counters
