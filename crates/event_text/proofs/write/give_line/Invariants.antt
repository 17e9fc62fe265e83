use Rattle.std.proofs.Common.{◌≡◌, ◌++◌, length}
use Rattle.std.specs.String.{string_bytes}
use Rattle.event_text.proofs.Spaced.{spaced}
use Rattle.event_text.proofs.write.give_line.Given as goal

abbrev pub invariant-loop-position : goal.invariant-loop-position
invariant-loop-position l = string_bytes l.line ++ spaced l.left ≡ string_bytes l.initial.line ++ spaced l.fn.positions

abbrev pub decreases-loop-position : goal.decreases-loop-position
decreases-loop-position l = length l.left
