-- A log record as it stands in its pending update queue, and as a pending entry of the head.
use Rattle.head_codec.specs.declared.lists.Pending.{Pending}
use Rattle.head_codec.specs.declared.lists.QueueCount.{QueueCount}
use Rattle.log_codec.specs.declared.record.AtomicRec.{AtomicRec}
use Rattle.log_codec.specs.declared.record.PuRec.{PuRec}

-- the record as it stands in its pending update queue
abbrev pub pu_record_of : AtomicRec → PuRec
pu_record_of r = record { client = r.client; epoch = r.epoch; txn = r.txn; number = r.number; change = r.change }

-- the record as a pending entry
abbrev pub pending_of : AtomicRec → Pending
pending_of r = record { tree = r.tree; page = r.page; number = r.number; change = r.change }

-- the counter of the record's queue behind the record
abbrev pub counter_of : AtomicRec → QueueCount
counter_of r = record { tree = r.tree; page = r.page; number = r.number }
