use Rattle.std.proofs.Common.{◌≡◌, ◌++◌, None, length}
use Rattle.std.specs.List.{AllByRecursion}
use Rattle.byte_format.specs.Format.{list_spelling}
use Rattle.head_codec.specs.Counters.{counter}
use Rattle.head_codec.specs.Spelling.{FitsCounter}
use Rattle.head_codec.proofs.counters.add_counters.Given as goal

-- what is written and what is left make up the spelling; what is left decides whether all fit their types
abbrev pub invariant-loop-item : goal.invariant-loop-item
invariant-loop-item l =
    (l.out.items ++ list_spelling counter None l.left ≡ l.initial.out.items ++ list_spelling counter None l.initial.left) × (AllByRecursion FitsCounter l.left → AllByRecursion FitsCounter l.initial.left)

abbrev pub decreases-loop-item : goal.decreases-loop-item
decreases-loop-item l = length l.left
