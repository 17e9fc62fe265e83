-- What keeps a head's spelling.
use Rattle.std.proofs.Common.{[], ◌∷◌}
use Rattle.head_codec.specs.declared.head.Head.{Head}
use Rattle.head_codec.specs.Spelling.{HasSpelling}
use Rattle.head_codec.proofs.Keeping.{HasSpelling-append}
use Rattle.log_codec.specs.Atomic.{HasPlace}
use Rattle.log_codec.specs.declared.record.AtomicRec.{AtomicRec}
use Rattle.route_plan.specs.Record.{pending_of}
use Rattle.recover_run.specs.Sending.{pending_with}

pub pending_spelled : (h : Head) (rec : AtomicRec) → HasSpelling h → HasPlace rec → HasSpelling (pending_with h rec)
pending_spelled h rec is place =
    let more = HasSpelling-append h (pending_of rec ∷ []) is (place.number, tt) in
    record { epoch = more.epoch; phase = more.phase; counters = more.counters; pending = more.pending }
