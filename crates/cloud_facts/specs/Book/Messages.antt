-- The messages of the queues: which record a message is, and whether it is marked as deleted.
use Rattle.std.specs.Prelude.{ℕ, ◌≡◌, ◌+◌, true, false, List, Some}
use Rattle.cloud_trait.specs.declared.state.Posted.{Posted}
use Rattle.log_codec.specs.Atomic.{atomic_of}
use Rattle.log_codec.specs.Pu.{pu_of}
use Rattle.log_codec.specs.declared.record.AtomicRec.{AtomicRec}
use Rattle.log_codec.specs.declared.record.PuRec.{PuRec}
use Rattle.cloud_facts.specs.Book.Records.{StandsAt}

-- a message of a pending update queue was ever sent, and is this record
pub record HasCopy (posts : List Posted) (rec : PuRec) : Type 0 where
  pub place : ℕ
  pub message : Posted
  pub there : StandsAt posts place message
  pub reads : pu_of message.bytes ≡ Some rec

-- one of them is not deleted
pub record Waits (posts : List Posted) (rec : PuRec) : Type 0 where
  pub place : ℕ
  pub message : Posted
  pub there : StandsAt posts place message
  pub reads : pu_of message.bytes ≡ Some rec
  pub unmarked : message.deleted ≡ false

-- a message of an ATOMIC queue that is not deleted is this record
pub record WaitsLogged (logged : List Posted) (r : AtomicRec) : Type 0 where
  pub place : ℕ
  pub message : Posted
  pub there : StandsAt logged place message
  pub reads : atomic_of message.bytes ≡ Some r
  pub unmarked : message.deleted ≡ false

-- the message of this number is the record
pub record IsMessage (posts : List Posted) (id : ℕ) (rec : PuRec) : Type 0 where
  pub place : ℕ
  pub message : Posted
  pub id_is : id ≡ place + 1
  pub there : StandsAt posts place message
  pub reads : pu_of message.bytes ≡ Some rec

pub record IsLogMessage (logged : List Posted) (id : ℕ) (r : AtomicRec) : Type 0 where
  pub place : ℕ
  pub message : Posted
  pub id_is : id ≡ place + 1
  pub there : StandsAt logged place message
  pub reads : atomic_of message.bytes ≡ Some r

-- the message of this number is deleted
pub record IsDeleted (posts : List Posted) (id : ℕ) : Type 0 where
  pub place : ℕ
  pub message : Posted
  pub id_is : id ≡ place + 1
  pub there : StandsAt posts place message
  pub marked : message.deleted ≡ true
