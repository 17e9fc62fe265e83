use Rattle.std.proofs.Common.{◌≡◌, length}
use Rattle.ckpt_parts.specs.Intakes.{items_of}
use Rattle.ckpt_parts.proofs.Reading.{joined}
use Rattle.ckpt_parts.proofs.intake.items_of.Given as goal

abbrev pub invariant-loop-message : goal.invariant-loop-message
invariant-loop-message l = joined l.items.items (items_of l.left) ≡ items_of l.messages

abbrev pub decreases-loop-message : goal.decreases-loop-message
decreases-loop-message l = length l.left
