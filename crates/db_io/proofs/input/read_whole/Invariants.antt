use Rattle.std.proofs.Common.{◌+◌, ◌-◌, length}
use Rattle.db_io.proofs.InputLemmas.{IsReading}
use Rattle.db_io.proofs.input.read_whole.Given as goal

abbrev pub invariant-loop-input : goal.invariant-loop-input
invariant-loop-input g l = IsReading l.limit (g.I.Source.told l.initial.source) (g.I.Source.told l.source) l.input

abbrev pub decreases-loop-input : goal.decreases-loop-input
decreases-loop-input g l = l.limit + 1 - length l.input
