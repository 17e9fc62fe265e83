use Rattle.std.proofs.Common.{◌≡◌, length}
use Rattle.recover_run.specs.Items.{items_of}
use Rattle.recover_run.specs.Kept.{AllPlaced}
use Rattle.recover_run.proofs.Reading.{joined}
use Rattle.recover_run.proofs.items.items_of.Given as goal

abbrev pub invariant-loop-message : goal.invariant-loop-message
invariant-loop-message l = (joined l.items.items (items_of l.left) ≡ items_of l.messages) × AllPlaced l.items.items

abbrev pub decreases-loop-message : goal.decreases-loop-message
decreases-loop-message l = length l.left
