use Rattle.std.proofs.Common.{◌≡◌, ◌++◌, length}
use Rattle.ckpt_parts.specs.Intakes.{ids_of}
use Rattle.ckpt_parts.proofs.intake.ids_of.Given as goal

abbrev pub invariant-loop-message : goal.invariant-loop-message
invariant-loop-message l = l.ids.items ++ ids_of l.left ≡ ids_of l.messages

abbrev pub decreases-loop-message : goal.decreases-loop-message
decreases-loop-message l = length l.left
