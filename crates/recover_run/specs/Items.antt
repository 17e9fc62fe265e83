-- What a receive brings: ATOMIC records, each under the id of its message.
use Rattle.std.specs.Prelude.{ℕ, ◌≡◌, List, [], ◌∷◌, map, Option, Some, None, Result, Ok, Err}
use Rattle.db_base.specs.declared.names.QueueName.{QueueName}
use Rattle.db_base.specs.declared.names.Place.TheVariants as place
use Rattle.db_base.specs.declared.trouble.Trouble.{Trouble}
use Rattle.db_base.specs.declared.trouble.Trouble.TheVariants as trouble
use Rattle.log_codec.specs.declared.record.AtomicRec.{AtomicRec}
use Rattle.log_codec.specs.Atomic.{atomic_of, atomic_offset}
use Rattle.cloud_trait.specs.declared.message.Message.{Message}
use Rattle.recover_run.specs.declared.items.AtomicItem.{AtomicItem}
use Rattle.recover_run.specs.declared.items.ItemFault.{ItemFault}
use Rattle.recover_run.specs.declared.items.ItemFault.TheVariants.{NotRecord, Memory}

abbrev pub item_with : ℕ → AtomicRec → AtomicItem
item_with id rec = record { id = id; rec = rec }

-- the records of messages, or the first message that is no record
abbrev pub with_first : Message → Option AtomicRec → Result (List AtomicItem) Message → Result (List AtomicItem) Message
with_first m None rest = Err m
with_first m (Some rec) (Ok items) = Ok (item_with m.id rec ∷ items)
with_first m (Some rec) (Err bad) = Err bad

abbrev pub items_of : List Message → Result (List AtomicItem) Message
items_of [] = Ok []
items_of (m ∷ ms) = with_first m (atomic_of m.bytes) (items_of ms)

-- the ids of the messages
abbrev pub ids_of : List AtomicItem → List ℕ
ids_of items = map (λ (x : AtomicItem). x.id) items

-- a message of a queue that is no record
abbrev pub message_damage : QueueName → Message → Trouble
message_damage q m = trouble.Damaged (place.Message q m.id) (atomic_offset m.bytes)

-- why messages were not read: the first that is no record, or want of memory
abbrev pub Faults : QueueName → ItemFault → Result (List AtomicItem) Message → Type 0
Faults q (NotRecord t) (Ok read) = ⊥
Faults q (NotRecord t) (Err m) = t ≡ message_damage q m
Faults q Memory read = Unit {0}

-- why a message was not read: it is no record, or memory ran out
abbrev pub FaultsAt : QueueName → ItemFault → Message → Type 0
FaultsAt q (NotRecord t) m = (atomic_of m.bytes ≡ None) × (t ≡ message_damage q m)
FaultsAt q Memory m = Unit {0}
