use Rattle.std.proofs.Common.{◌≡◌, length}
use Rattle.run_cursor.specs.Covered.{covered_ids, NoneBeyond}
use Rattle.run_cursor.proofs.NewOnes.{noted}
use Rattle.run_cursor.proofs.covered.covered.Given as goal

abbrev pub invariant-loop-x : goal.invariant-loop-x
invariant-loop-x l = (noted l.top l.ids.items l.left ≡ covered_ids l.top l.items) × NoneBeyond l.ids.items l.greatest

abbrev pub decreases-loop-x : goal.decreases-loop-x
decreases-loop-x l = length l.left
