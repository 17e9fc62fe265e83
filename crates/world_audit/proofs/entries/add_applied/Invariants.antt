use Rattle.std.proofs.Common.{◌≡◌, ◌++◌, length, take}
use Rattle.std.specs.Prelude.{map}
use Rattle.history.specs.Audited.{applied_entry}
use Rattle.world_audit.proofs.entries.add_applied.Given as goal

abbrev pub invariant-loop-item : goal.invariant-loop-item
invariant-loop-item l =
    (l.log ++ map (applied_entry l.tree) l.left ≡ l.initial.log ++ map (applied_entry l.tree) l.applying) × (take (length l.initial.log) l.log ≡ l.initial.log)

abbrev pub decreases-loop-item : goal.decreases-loop-item
decreases-loop-item l = length l.left
