use Rattle.std.proofs.Common.{◌≡◌, ◌++◌, length}
use Rattle.attr_index.specs.Prefix.{entry_keys}
use Rattle.attr_index.proofs.keys.add_keys.Given as goal

abbrev pub invariant-loop-entry : goal.invariant-loop-entry
invariant-loop-entry l = l.listed.items ++ entry_keys l.attr l.left ≡ l.initial.listed.items ++ entry_keys l.attr l.initial.left

abbrev pub decreases-loop-entry : goal.decreases-loop-entry
decreases-loop-entry l = length l.left
