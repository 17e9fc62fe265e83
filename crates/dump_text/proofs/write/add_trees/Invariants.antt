use Rattle.std.proofs.Common.{◌≡◌, ◌++◌, length}
use Rattle.std.specs.String.{string_bytes}
use Rattle.dump_text.specs.Text.{dump_text}
use Rattle.dump_text.proofs.write.add_trees.Given as goal

abbrev pub invariant-loop-dumped : goal.invariant-loop-dumped
invariant-loop-dumped l = string_bytes l.text ++ dump_text l.left ≡ string_bytes l.fn.text ++ dump_text l.fn.trees

abbrev pub decreases-loop-dumped : goal.decreases-loop-dumped
decreases-loop-dumped l = length l.left
