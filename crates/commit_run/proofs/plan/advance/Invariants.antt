use Rattle.std.proofs.Common.{◌≡◌, ◌≤◌, ◌++◌, length, ◌-◌, drop}
use Rattle.commit_run.specs.Plan.{pages_of}
use Rattle.commit_run.proofs.plan.advance.Given as goal

abbrev pub invariant-loop-page : goal.invariant-loop-page
invariant-loop-page l =
    (l.pages.items ++ pages_of l.pending l.ended (drop (length l.pages.items) l.changes)
    ≡ l.initial.pages.items ++ pages_of l.pending l.ended (drop (length l.initial.pages.items) l.changes))
    × (length l.initial.pages.items ≤ length l.changes → length l.pages.items ≤ length l.changes)

abbrev pub decreases-loop-page : goal.decreases-loop-page
decreases-loop-page l = length l.changes - length l.pages.items
