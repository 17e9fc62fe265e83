-- What a client sees of a key in a version of a leaf: its own changes too.
use Rattle.std.specs.Prelude.{ℕ, ◌&&◌, nat_lt, Bool, List, Option, None, Some, filter, fold}
use Rattle.db_base.specs.Value.{Value}
use Rattle.db_base.specs.Change.{act}
use Rattle.db_base.specs.declared.change.Change.{Change}
use Rattle.head_codec.specs.declared.head.Head.{Head}
use Rattle.head_codec.specs.declared.lists.Pending.{Pending}
use Rattle.leaf_view.specs.Leaf.{Leaf}
use Rattle.leaf_view.specs.Lookup.{value_of, number_of}
use Rattle.txn_buffer.specs.Noted.{Noted, found_in}
use Rattle.route_plan.specs.Queue.{is_pending_of}

-- whether a pending entry is of the key, and the leaf lacks it: its number is above that of its queue and client
abbrev pub is_lacked_by : Leaf → ℕ → ℕ → List ℕ → Pending → Bool
is_lacked_by leaf client tree key entry = is_pending_of tree key entry && nat_lt (number_of leaf.done entry.page client) entry.number

-- the value after pending entries, in their order
abbrev pub after_pending : Option Value → List Pending → Option Value
after_pending value entries = fold (λ old entry. act old entry.change) value entries

-- the value after the buffered change, where there is one
abbrev pub after_buffered : Option Value → Option Change → Option Value
after_buffered value None = value
after_buffered value (Some change) = act value change

-- the value in the leaf, after the pending entries of the key that the leaf lacks, and then after the buffered change
abbrev pub seen : Leaf → ℕ → List ℕ → ℕ → Head → List Noted → Option Value
seen leaf tree key client head buffer =
    after_buffered
    (after_pending (value_of key leaf.records) (filter (is_lacked_by leaf client tree key) head.pending))
    (found_in buffer tree key)
