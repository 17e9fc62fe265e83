use Rattle.std.proofs.Common.{length}
use Rattle.dump_text.proofs.Reached.{Reached}
use Rattle.dump_text.proofs.dump.Dump.read.Given as goal

abbrev pub invariant-loop-line : goal.invariant-loop-line
invariant-loop-line l = Reached l.fn.text l.left l.reading l.lines

abbrev pub decreases-loop-line : goal.decreases-loop-line
decreases-loop-line l = length l.left
