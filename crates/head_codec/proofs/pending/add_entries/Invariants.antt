use Rattle.std.proofs.Common.{◌≡◌, ◌++◌, length}
use Rattle.std.specs.List.{AllByRecursion}
use Rattle.head_codec.specs.Pending.{spellings, FitsPending}
use Rattle.head_codec.proofs.pending.add_entries.Given as goal

-- what is written and what is left make up the spellings; what is left decides whether all fit their types
abbrev pub invariant-loop-entry : goal.invariant-loop-entry
invariant-loop-entry l = (l.out.items ++ spellings l.left ≡ l.initial.out.items ++ spellings l.initial.left) × (AllByRecursion FitsPending l.left → AllByRecursion FitsPending l.initial.left)

abbrev pub decreases-loop-entry : goal.decreases-loop-entry
decreases-loop-entry l = length l.left
