use Rattle.std.proofs.Common.{◌≡◌, length}
use Rattle.words.specs.Line.{numbers_of}
use Rattle.words.proofs.Shapes.{with_front}
use Rattle.words.proofs.parts.Parts.numbers.Given as goal

abbrev pub invariant-loop-word : goal.invariant-loop-word
invariant-loop-word l = with_front l.numbers.items (numbers_of l.left) ≡ numbers_of l.fn.self

abbrev pub decreases-loop-word : goal.decreases-loop-word
decreases-loop-word l = length l.left
