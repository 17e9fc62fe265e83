-- The absent head, and the head of the next epoch.
use Rattle.std.specs.Prelude.{◌+◌, []}
use Rattle.head_codec.specs.declared.head.Head.{Head}
use Rattle.head_codec.specs.declared.head.Phase.TheVariants.{Settled}

-- the absent head: no epoch, no transaction, no counter and no pending entry
abbrev pub empty_head : Head
empty_head = record { epoch = 0; txn = 0; phase = Settled; counters = []; pending = [] }

-- the same head one epoch on, without a transaction
abbrev pub next_head : Head → Head
next_head h = record h { epoch = h.epoch + 1; txn = 0; phase = Settled }
