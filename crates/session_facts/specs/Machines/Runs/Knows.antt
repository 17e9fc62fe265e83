-- What is known of the messages of a queue, and of a run of them.
use Rattle.std.specs.Prelude.{ℕ, ◌≡◌, ◌+◌, ◌≤◌, List, slice_get, Some}
use Rattle.cloud_facts.specs.Words.{IsClient, PuItem, Posted, Store, IsIn}
use Rattle.db_base.specs.Cursor.{number_of}
use Rattle.log_codec.specs.Pu.{pu_of}
use Rattle.log_codec.specs.declared.record.PuRec.{PuRec}
use Rattle.run_cursor.specs.Run.{Taken, IsRun}
use Rattle.cloud_facts.specs.Book.Messages.{IsMessage}
use Rattle.cloud_facts.specs.Book.Premises.{IsItemOf}

-- an item is the record of a message that was sent
pub record IsSentItem (posts : List Posted) (x : PuItem) : Type 0 where
  pub place : ℕ
  pub message : Posted
  pub id : x.id ≡ place + 1
  pub there : slice_get posts place ≡ Some message
  pub reads : pu_of message.bytes ≡ Some x.rec

-- a message of a queue is a record that the numbers cover
abbrev pub IsCoveredBy : (ℕ → ℕ) → Store → ℕ → ℕ → ℕ → Type 0
IsCoveredBy upto st tree page id = (rec : PuRec) × IsMessage (st.tally.posts tree page) id rec × (rec.number ≤ upto rec.client)

-- a run is one of committed records behind numbers that the queue's cursor covers, and it covers the messages that are to be deleted
pub record TookRun (st : Store) (tree page : ℕ) (from : List (ℕ × ℕ)) (run : Taken) (ids : List ℕ) : Type 0 where
  pub received : List PuItem
  pub is_run : IsRun from received run.items run.top
  pub behind : (client : ℕ) → IsClient client → number_of from client ≤ st.tally.cursor tree page client
  pub clients : (x : PuItem) → IsIn run.items x → IsClient x.rec.client
  pub items : (x : PuItem) → IsIn received x → IsItemOf st tree page x
  pub covers : (id : ℕ) → IsIn ids id → IsCoveredBy (number_of run.top) st tree page id

-- the messages that are to be deleted are at or below the queue's cursor
abbrev pub MayDelete : Store → ℕ → ℕ → List ℕ → Type 0
MayDelete st tree page ids = (id : ℕ) → IsIn ids id → IsCoveredBy (st.tally.cursor tree page) st tree page id
