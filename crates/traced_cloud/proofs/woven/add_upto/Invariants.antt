use Rattle.std.proofs.Common.{◌≡◌, ◌++◌, length}
use Rattle.traced_cloud.specs.Woven.{calls_upto, behind}
use Rattle.traced_cloud.proofs.woven.add_upto.Given as goal

abbrev pub invariant-loop-rest : goal.invariant-loop-rest
invariant-loop-rest l = (l.text ++ calls_upto l.form l.n l.rest ≡ l.initial.text ++ calls_upto l.form l.n l.notes) × (behind l.n l.rest ≡ behind l.n l.notes)

abbrev pub decreases-loop-rest : goal.decreases-loop-rest
decreases-loop-rest l = length l.rest
