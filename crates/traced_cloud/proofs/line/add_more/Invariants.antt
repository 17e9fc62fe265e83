use Rattle.std.proofs.Common.{◌≡◌, ◌++◌, length}
use Rattle.traced_cloud.specs.Line.{more_text}
use Rattle.traced_cloud.proofs.line.add_more.Given as goal

abbrev pub invariant-loop-rest : goal.invariant-loop-rest
invariant-loop-rest l = l.text ++ more_text l.rest ≡ l.initial.text ++ more_text l.ids

abbrev pub decreases-loop-rest : goal.decreases-loop-rest
decreases-loop-rest l = length l.rest
