-- That a recovery waits for no record where none is missing.
use Rattle.std.specs.Prelude.{ℕ, ◌≡◌, ◌≤◌, ◌==◌, ◌&&◌, Bool, true, false, List, length, filter, Option, Some, None}
use Rattle.std.specs.List.{list_any}
use Rattle.db_base.specs.declared.names.ObjName.TheVariants as object
use Rattle.db_base.specs.declared.names.QueueName.TheVariants as queue
use Rattle.db_base.specs.declared.trouble.Trouble.{Trouble}
use Rattle.db_base.specs.declared.trouble.Trouble.TheVariants as trouble
use Rattle.head_codec.specs.declared.head.Head.{Head}
use Rattle.log_codec.specs.declared.record.AtomicRec.{AtomicRec}
use Rattle.log_codec.specs.Atomic.{atomic_of}
use Rattle.cloud_trait.specs.declared.message.Message.{Message}
use Rattle.cloud_trait.specs.declared.state.Posted.{Posted}
use Rattle.cloud_trait.specs.declared.turn.Turn.{Turn}
use Rattle.cloud_trait.specs.declared.turn.Turn.TheVariants.{More, Ended, Stopped}
use Rattle.cloud_trait.specs.Delivery.{unmarked}
use Rattle.cloud_trait.specs.State.{CloudState, newest}
use Rattle.recover_run.specs.declared.stage.RecoverAnswer.{RecoverAnswer}
use Rattle.recover_run.specs.declared.wanted.Wanted.{Wanted}
use Rattle.recover_run.specs.Calls.{head_in}
use Rattle.recover_run.specs.Emptying.{HasNoLater}
use Rattle.recover_run.specs.Gathering.{is_of, wanted_of}

-- whether a message is a record of the head's epoch and transaction
abbrev pub is_of_some : Wanted → Option AtomicRec → Bool
is_of_some w (Some rec) = is_of w rec
is_of_some w None = false

abbrev pub is_of_head : Wanted → Message → Bool
is_of_head w m = is_of_some w (atomic_of m.bytes)

-- .. and of this index
abbrev pub is_indexed_some : Wanted → ℕ → Option AtomicRec → Bool
is_indexed_some w n (Some rec) = is_of w rec && (rec.index == n)
is_indexed_some w n None = false

abbrev pub is_indexed : Wanted → ℕ → Message → Bool
is_indexed w n m = is_indexed_some w n (atomic_of m.bytes)

-- of the records that a head counts none is missing in a queue: of each index one is there, not deleted; and of all messages that are not
-- deleted none is a record of a later epoch, and fewer than a receive brings are of the head's transaction (so where no two of these have one
-- index)
pub record IsComplete (w : Wanted) (ms : List Posted) : Type 0 where
  pub each : (n : ℕ) → 1 ≤ n → n ≤ w.count → list_any (is_indexed w n) (unmarked ms) ≡ true
  pub past : HasNoLater w.epoch ms
  pub few : length (filter (is_of_head w) (unmarked ms)) ≤ 255

-- .. for the newest head of a client, which has a spelling or is absent
pub record NoneMissing (client : ℕ) (s : CloudState) : Type 0 where
  pub head : Head
  pub reads : head_in (newest s (object.Head client)) ≡ Some head
  pub complete : IsComplete (wanted_of head) (s.messages (queue.Atomic client))

-- no want of records
abbrev pub IsNoWaiting : Trouble → Type 0
IsNoWaiting (trouble.Waiting have need) = ⊥
IsNoWaiting t = Unit {0}

abbrev pub WaitsForNone : Turn RecoverAnswer → Type 0
WaitsForNone More = Unit {0}
WaitsForNone (Ended a) = Unit {0}
WaitsForNone (Stopped t) = IsNoWaiting t
