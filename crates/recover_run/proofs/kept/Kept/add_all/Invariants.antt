use Rattle.std.proofs.Common.{◌≡◌, length}
use Rattle.recover_run.specs.Gathering.{kept_with}
use Rattle.recover_run.specs.Kept.{AllPlaced}
use Rattle.recover_run.proofs.kept.Kept.add_all.Given as goal

abbrev pub invariant-loop-item : goal.invariant-loop-item
invariant-loop-item l = (kept_with l.wanted l.self l.left.items ≡ kept_with l.wanted l.initial.self l.initial.left.items) × AllPlaced l.left.items

abbrev pub decreases-loop-item : goal.decreases-loop-item
decreases-loop-item l = length l.left.items
