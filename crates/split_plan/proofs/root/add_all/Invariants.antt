use Rattle.std.proofs.Common.{◌≡◌, ◌≤◌, length}
use Rattle.std.specs.List.{AllByRecursion}
use Rattle.split_plan.specs.Plan.{with_children}
use Rattle.split_plan.proofs.root.add_all.Given as goal

abbrev pub invariant-entries : goal.invariant-entries
invariant-entries l =
    AllByRecursion (λ e. length e.low ≤ 64) l.left × (with_children l.left l.root ≡ with_children l.initial.left l.initial.root)

abbrev pub decreases-entries : goal.decreases-entries
decreases-entries l = length l.left
