use Rattle.std.proofs.Common.{◌≡◌, ◌++◌, length, take}
use Rattle.std.specs.Prelude.{map}
use Rattle.route_plan.specs.Record.{pending_of}
use Rattle.route_plan.proofs.heads.add_pending.Given as goal

abbrev pub invariant-loop-r : goal.invariant-loop-r
invariant-loop-r l =
    (l.pending ++ map pending_of l.left ≡ l.initial.pending ++ map pending_of l.records) × (take (length l.initial.pending) l.pending ≡ l.initial.pending)

abbrev pub decreases-loop-r : goal.decreases-loop-r
decreases-loop-r l = length l.left
