-- What a load of a dump leaves in a cloud.
use Rattle.std.specs.Prelude.{ℕ, zero, suc, ◌≡◌, ◌+◌, ◌/◌, ◌%◌, List, [], ◌∷◌, Some, slice_get}
use Rattle.cloud_facts.specs.Words.{IsClient, IsTree, AtomicRec, Head, Version, Posted, CloudState}
use Rattle.db_base.specs.Limits.{most_changes}
use Rattle.db_base.specs.declared.names.ObjName.TheVariants.{Head as HeadName}
use Rattle.db_base.specs.declared.names.QueueName.TheVariants.{Atomic}
use Rattle.dump_text.specs.Maps.{contents_of}
use Rattle.dump_text.specs.declared.dump.DumpedTree.{DumpedTree}
use Rattle.event_text.specs.declared.event.Event.{Event}
use Rattle.event_text.specs.declared.event.Event.TheVariants.{Commit}
use Rattle.head_codec.specs.Spelling.{head_of}
use Rattle.head_codec.specs.declared.head.Phase.TheVariants.{Open}
use Rattle.load_plan.specs.Events.{Placed}
use Rattle.log_codec.specs.Atomic.{atomic_of}
use Rattle.replay_meaning.specs.Chain.{Walked}
use Rattle.schedule_run.specs.Loads.Inserts.{insert_of}

-- each tree has the records of the dump, and no others
abbrev pub HasContents : CloudState → List DumpedTree → Type 0
HasContents t trees = (tree : ℕ) → IsTree tree → Walked t tree 0 (contents_of tree trees)

-- how many of these events are commits
abbrev pub commits_in : List Event → ℕ
commits_in [] = zero
commits_in (Commit session ∷ events) = suc (commits_in events)
commits_in (e ∷ events) = commits_in events

-- ---- what is logged

-- an open head of a client's transaction landed
pub record WasOpened (t : CloudState) (client epoch txn : ℕ) : Type 0 where
  pub place : ℕ
  pub version : Version
  pub there : slice_get (t.versions (HeadName client)) place ≡ Some version
  pub bytes : List ℕ
  pub put : version.bytes ≡ Some bytes
  pub head : Head
  pub spells : head_of bytes ≡ Some head
  pub epoch_is : head.epoch ≡ epoch
  pub txn_is : head.txn ≡ txn
  pub count : ℕ
  pub opens : head.phase ≡ Open count

-- the message at a place of those ever sent to a client's ATOMIC queue is this record, of a transaction that was opened
pub record IsCommittedMessage (t : CloudState) (client place : ℕ) (r : AtomicRec) : Type 0 where
  pub message : Posted
  pub there : slice_get (t.messages (Atomic client)) place ≡ Some message
  pub reads : atomic_of message.bytes ≡ Some r
  pub opened : WasOpened t client r.epoch r.txn

-- it inserts the record at a place of those that are loaded, of which each transaction takes the next 200
pub record Loads (place : ℕ) (p : Placed) (r : AtomicRec) : Type 0 where
  pub txn : r.txn ≡ place / most_changes + 1
  pub index : r.index ≡ place % most_changes + 1
  pub tree : r.tree ≡ p.tree
  pub change : r.change ≡ insert_of p.stored

-- a record has its message
pub record HasMessage (t : CloudState) (epoch place : ℕ) (p : Placed) : Type 0 where
  pub at : ℕ
  pub of : AtomicRec
  pub message : IsCommittedMessage t 1 at of
  pub epoch_is : of.epoch ≡ epoch
  pub loads : Loads place p of

-- a message of the client is that of a record
pub record IsOfRecord (records : List Placed) (epoch client : ℕ) (r : AtomicRec) : Type 0 where
  pub client_is : client ≡ 1
  pub epoch_is : r.epoch ≡ epoch
  pub place : ℕ
  pub loaded : Placed
  pub there : slice_get records place ≡ Some loaded
  pub loads : Loads place loaded r

-- The ATOMIC messages of transactions that were opened are, by transaction and index, the inserts of these records in their order: each record has its
-- message, each message is that of a record, and no two are of one place.
pub record AreLogged (t : CloudState) (records : List Placed) : Type 0 where
  pub epoch : ℕ
  pub each : (place : ℕ) (p : Placed) → slice_get records place ≡ Some p → HasMessage t epoch place p
  pub alone : (client at : ℕ) (r : AtomicRec) → IsClient client → IsCommittedMessage t client at r → IsOfRecord records epoch client r
  pub once : (i j : ℕ) (a b : AtomicRec) → IsCommittedMessage t 1 i a → IsCommittedMessage t 1 j b → a.txn ≡ b.txn → a.index ≡ b.index → i ≡ j
