-- What a receive brings: records, their run behind a cursor, and the ids that the run covers.
use Rattle.std.specs.Prelude.{ℕ, ◌≡◌, Bool, true, false, List, [], ◌∷◌, map, Option, Some, None, Result, Ok, Err}
use Rattle.db_base.specs.declared.names.QueueName.{QueueName}
use Rattle.db_base.specs.declared.names.Place.TheVariants as place
use Rattle.db_base.specs.declared.trouble.Trouble.{Trouble}
use Rattle.db_base.specs.declared.trouble.Trouble.TheVariants as trouble
use Rattle.log_codec.specs.declared.record.PuItem.{PuItem}
use Rattle.log_codec.specs.declared.record.PuRec.{PuRec}
use Rattle.log_codec.specs.Pu.{pu_of, pu_offset}
use Rattle.run_cursor.specs.Run.{Taken, IsRun}
use Rattle.run_cursor.specs.Covered.{covered_ids}
use Rattle.cloud_trait.specs.declared.message.Message.{Message}
use Rattle.ckpt_parts.specs.declared.fault.Fault.{Fault}
use Rattle.ckpt_parts.specs.declared.fault.Fault.TheVariants.{Stops, Memory}
use Rattle.ckpt_parts.specs.declared.intake.Intake.{Intake}
use Rattle.ckpt_parts.specs.Deleting.{to_delete}

-- the ids of messages, in order of receipt
abbrev pub ids_of : List Message → List ℕ
ids_of ms = map (λ (m : Message). m.id) ms

-- a record with the id of its message
abbrev pub item_with : ℕ → PuRec → PuItem
item_with id rec = record { id = id; rec = rec }

abbrev pub with_first : Message → Option PuRec → Result (List PuItem) Message → Result (List PuItem) Message
with_first m None rest = Err m
with_first m (Some rec) (Ok items) = Ok (item_with m.id rec ∷ items)
with_first m (Some rec) (Err bad) = Err bad

-- the records of messages, or the first message that is no pending update record
abbrev pub items_of : List Message → Result (List PuItem) Message
items_of [] = Ok []
items_of (m ∷ ms) = with_first m (pu_of m.bytes) (items_of ms)

-- a message of a queue that is no record
abbrev pub message_damage : QueueName → Message → Trouble
message_damage q m = trouble.Damaged (place.Message q m.id) (pu_offset m.bytes)

-- why a message was not read: it is no record, or memory ran out
abbrev pub FaultsAt : QueueName → Fault → Message → Type 0
FaultsAt q (Stops t) m = (pu_of m.bytes ≡ None) × (t ≡ message_damage q m)
FaultsAt q Memory m = Unit {0}

-- why messages were not read: the first that is no record, or want of memory
abbrev pub Faults : QueueName → Fault → Result (List PuItem) Message → Type 0
Faults q (Stops t) (Ok read) = ⊥
Faults q (Stops t) (Err m) = t ≡ message_damage q m
Faults q Memory read = Unit {0}

-- a run has no item, and is that of a receive that brought nothing new
abbrev pub no_run : Taken
no_run = record { items = []; top = [] }

-- the run that was taken, where one was
abbrev pub run_or_none : Option Taken → Taken
run_or_none (Some run) = run
run_or_none None = no_run

-- whether there is an item
abbrev pub has_items : List PuItem → Bool
has_items [] = false
has_items (x ∷ xs) = true

-- a run with the ids that its top covers among the received items
abbrev pub intake_of : List PuItem → Taken → Intake
intake_of items run = record { run = run; deletions = to_delete (covered_ids run.top items) }

-- any run of the items behind the cursor
abbrev pub TakesRun : List (ℕ × ℕ) → List PuItem → Result Intake Trouble → Type 0
TakesRun cursor items taken = (run : Taken) × IsRun cursor items run.items run.top × (taken ≡ Ok (intake_of items run))

-- what reading comes to: damage, or a run
abbrev pub TakesItems : QueueName → List (ℕ × ℕ) → Result (List PuItem) Message → Result Intake Trouble → Type 0
TakesItems q cursor (Err m) taken = taken ≡ Err (message_damage q m)
TakesItems q cursor (Ok items) taken = TakesRun cursor items taken

-- the same of the messages of a queue
abbrev pub TakesIn : QueueName → List (ℕ × ℕ) → List Message → Result Intake Trouble → Type 0
TakesIn q cursor ms taken = TakesItems q cursor (items_of ms) taken
