use Rattle.std.proofs.Common.{◌≡◌, ◌++◌, length}
use Rattle.traced_cloud.specs.Woven.{woven}
use Rattle.traced_cloud.proofs.woven.add_woven.Given as goal

abbrev pub invariant-loop-left : goal.invariant-loop-left
invariant-loop-left l = l.text ++ woven l.form l.n l.left l.rest ≡ l.initial.text ++ woven l.form 1 l.replies l.notes

abbrev pub decreases-loop-left : goal.decreases-loop-left
decreases-loop-left l = length l.left
