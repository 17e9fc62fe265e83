use Rattle.std.proofs.Common.{◌≡◌, length}
use Rattle.std.specs.Prelude.{fold}
use Rattle.range_scan.specs.Pairs.{IsAscending, with_pending}
use Rattle.range_scan.proofs.items.Items.add_pending.Given as goal

abbrev pub invariant-loop-entry : goal.invariant-loop-entry
invariant-loop-entry l = record { added : fold (with_pending l.sight) l.self l.left ≡ fold (with_pending l.sight) l.initial.self l.pending; ascending : IsAscending l.self }

abbrev pub decreases-loop-entry : goal.decreases-loop-entry
decreases-loop-entry l = length l.left
