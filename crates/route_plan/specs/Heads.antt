-- The two heads of a commit.
use Rattle.std.specs.Prelude.{ℕ, List, [], ◌∷◌, ◌++◌, length, map}
use Rattle.std.specs.declared.cmp.Ordering.{Ordering}
use Rattle.std.specs.declared.cmp.Ordering.TheVariants.{Less, Equal, Greater}
use Rattle.std.specs.Ordering.{nat_cmp, ordering_then}
use Rattle.head_codec.specs.declared.head.Head.{Head}
use Rattle.head_codec.specs.declared.head.Phase.TheVariants.{Settled, Open}
use Rattle.head_codec.specs.declared.lists.QueueCount.{QueueCount}
use Rattle.log_codec.specs.declared.record.AtomicRec.{AtomicRec}
use Rattle.route_plan.specs.Record.{pending_of, counter_of}

-- counters are ordered by tree, then page
abbrev pub counter_cmp : QueueCount → QueueCount → Ordering
counter_cmp a b = ordering_then (nat_cmp a.tree b.tree) (nat_cmp a.page b.page)

-- a counter in its place among ascending ones, and in place of the one of its queue
abbrev pub put_counter : Ordering → QueueCount → QueueCount → List QueueCount → List QueueCount → List QueueCount
put_counter Less counter first rest further = counter ∷ first ∷ rest
put_counter Equal counter first rest further = counter ∷ rest
put_counter Greater counter first rest further = first ∷ further

abbrev pub with_counter : List QueueCount → QueueCount → List QueueCount
with_counter [] counter = counter ∷ []
with_counter (first ∷ rest) counter = put_counter (counter_cmp counter first) counter first rest (with_counter rest counter)

-- the counters raised by records, in their order
abbrev pub raised_by : List QueueCount → List AtomicRec → List QueueCount
raised_by counters [] = counters
raised_by counters (r ∷ records) = raised_by (with_counter counters (counter_of r)) records

-- the head that commits a transaction: its records are not all in their queues yet
abbrev pub opened_head : Head → ℕ → List AtomicRec → Head
opened_head head txn records = record head { txn = txn; phase = Open (length records); counters = raised_by head.counters records }

-- the head behind a commit whose records are all in their queues: they are pending
abbrev pub settled_head : Head → List AtomicRec → Head
settled_head head records = record head { phase = Settled; pending = head.pending ++ map pending_of records }
