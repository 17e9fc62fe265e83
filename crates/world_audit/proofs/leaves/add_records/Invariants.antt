use Rattle.std.proofs.Common.{◌≡◌, ◌++◌, length}
use Rattle.std.specs.Prelude.{map}
use Rattle.replay_meaning.specs.Chain.{stored_of}
use Rattle.world_audit.proofs.leaves.add_records.Given as goal

abbrev pub invariant-loop-key : goal.invariant-loop-key
invariant-loop-key l = l.contents ++ map stored_of l.left ≡ l.initial.contents ++ map stored_of l.initial.left

abbrev pub decreases-loop-key : goal.decreases-loop-key
decreases-loop-key l = length l.left
