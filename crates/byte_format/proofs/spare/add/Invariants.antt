use Rattle.std.proofs.Common.{take}
use Rattle.byte_format.specs.Adds.{Adds}
use Rattle.byte_format.proofs.spare.add.Given as goal

abbrev pub invariant-loop-byte : goal.invariant-loop-byte
invariant-loop-byte l = Adds l.initial.held l.held (take l.byte-index l.bytes)
