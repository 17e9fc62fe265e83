use Rattle.std.proofs.Common.{◌≡◌, ◌<◌, length}
use Rattle.head_codec.specs.Slot.{slot_from}
use Rattle.head_codec.proofs.slot.slot_of.Given as goal

abbrev pub invariant-loop-byte : goal.invariant-loop-byte
invariant-loop-byte l = (l.slot < 4096) × (slot_from l.slot l.left ≡ slot_from 0 l.key)

abbrev pub decreases-loop-byte : goal.decreases-loop-byte
decreases-loop-byte l = length l.left
