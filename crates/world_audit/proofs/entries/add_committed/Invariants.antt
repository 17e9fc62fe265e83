use Rattle.std.proofs.Common.{◌≡◌, ◌++◌, take}
use Rattle.std.specs.Prelude.{map}
use Rattle.history.specs.Audited.{committed_entry}
use Rattle.world_audit.proofs.entries.add_committed.Given as goal

abbrev pub invariant-loop-i : goal.invariant-loop-i
invariant-loop-i l = l.log ≡ l.initial.log ++ map (committed_entry l.client l.epoch l.txn) (take l.i l.changes)
