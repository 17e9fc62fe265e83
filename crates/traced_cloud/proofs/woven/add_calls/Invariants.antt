use Rattle.std.proofs.Common.{◌≡◌, ◌++◌, length}
use Rattle.traced_cloud.specs.Woven.{calls_of}
use Rattle.traced_cloud.proofs.woven.add_calls.Given as goal

abbrev pub invariant-loop-rest : goal.invariant-loop-rest
invariant-loop-rest l = l.text ++ calls_of l.form l.rest ≡ l.initial.text ++ calls_of l.form l.notes

abbrev pub decreases-loop-rest : goal.decreases-loop-rest
decreases-loop-rest l = length l.rest
