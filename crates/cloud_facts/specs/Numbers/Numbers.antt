-- The committed records by their numbers: what holds of them in every store.
use Rattle.std.specs.Prelude.{ℕ, ◌≡◌, ◌+◌, ◌<◌, ◌≤◌, ◌⊎◌, List, Some}
use Rattle.db_base.specs.Ids.{IsClient, IsTree}
use Rattle.cloud_trait.specs.declared.state.Posted.{Posted}
use Rattle.head_codec.specs.declared.head.Head.{Head}
use Rattle.history.specs.Legal.{AreSame}
use Rattle.log_codec.specs.Pu.{pu_of}
use Rattle.log_codec.specs.declared.record.AtomicRec.{AtomicRec}
use Rattle.report_types.specs.declared.entry.Entry.{Entry}
use Rattle.route_plan.specs.Queue.{number_of_queue}
use Rattle.route_plan.specs.Record.{pu_record_of}
use Rattle.cloud_facts.specs.Book.Records.{StandsAt, IsIn, of_queue, count_of, entries_of, IsApplied}
use Rattle.cloud_facts.specs.Book.Premises.{IsRouted}
use Rattle.cloud_facts.specs.Book.Tally.{Store}

-- a record is of an epoch before a head's, or of a transaction of that epoch up to the head's
abbrev pub IsUpto : Head → AtomicRec → Type 0
IsUpto head r = (r.epoch < head.epoch) ⊎ ((r.epoch ≡ head.epoch) × (r.txn ≤ head.txn))

-- no entry stands twice
abbrev pub IsOnce : List Entry → Type 0
IsOnce entries = (i j : ℕ) (a b : Entry) → StandsAt entries i a → StandsAt entries j b → AreSame a b → i ≡ j

-- bytes spell a committed record of a queue
pub record IsOfRecord (log : List AtomicRec) (tree page : ℕ) (bytes : List ℕ) : Type 0 where
  pub of : AtomicRec
  pub logged : IsIn log of
  pub tree_is : of.tree ≡ tree
  pub page_is : of.page ≡ page
  pub reads : pu_of bytes ≡ Some (pu_record_of of)

-- a committed record is of a client and a tree, not of a later transaction than its client's newest head, and stands in a queue of its key
pub record IsPlaced (st : Store) (r : AtomicRec) : Type 0 where
  pub client : IsClient r.client
  pub tree : IsTree r.tree
  pub upto : IsUpto (st.tally.head r.client) r
  pub routed : IsRouted st.book r

pub record Numbers (st : Store) : Type 0 where
  -- a client's records of a queue have the numbers 1, 2, 3 .. in the order of commit
  pub in_order : (tree page client place : ℕ) (r : AtomicRec) → StandsAt (of_queue tree page client st.book.log) place r → r.number ≡ place + 1
  -- the newest head's counter of a queue is their count
  pub counters : (client tree page : ℕ) → number_of_queue (st.tally.head client).counters tree page ≡ count_of tree page client st.book.log
  -- every message ever sent to a pending update queue is a committed record of it
  pub sent : (tree page place : ℕ) (m : Posted) → StandsAt (st.tally.posts tree page) place m → IsOfRecord st.book.log tree page m.bytes
  -- what is done of a queue, and its cursor, are at most the count
  pub done_within : (tree : ℕ) (key : List ℕ) (page client : ℕ) → IsClient client → st.tally.done tree key page client ≤ count_of tree page client st.book.log
  pub cursor_within : (tree page client : ℕ) → IsClient client → st.tally.cursor tree page client ≤ count_of tree page client st.book.log
  -- a record at or below its queue's cursor is applied
  pub covered : (r : AtomicRec) → IsIn st.book.log r → r.number ≤ st.tally.cursor r.tree r.page r.client → IsApplied st.tally r
  -- no committed entry stands twice
  pub once : IsOnce (entries_of st.book.log)
  pub placed : (r : AtomicRec) → IsIn st.book.log r → IsPlaced st r
