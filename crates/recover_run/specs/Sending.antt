-- What the sending of a kept record leaves in the head of the next epoch.
use Rattle.std.specs.Prelude.{[], ◌∷◌, ◌++◌}
use Rattle.head_codec.specs.declared.head.Head.{Head}
use Rattle.log_codec.specs.declared.record.AtomicRec.{AtomicRec}
use Rattle.route_plan.specs.Record.{pending_of}

-- a record that was sent is pending
abbrev pub pending_with : Head → AtomicRec → Head
pending_with h rec = record h { pending = h.pending ++ pending_of rec ∷ [] }
