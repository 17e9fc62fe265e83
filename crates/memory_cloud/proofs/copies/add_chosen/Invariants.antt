use Rattle.std.proofs.Common.{◌≡◌, ◌-◌, ◌++◌, length, take}
use Rattle.memory_cloud.specs.Choice.{chosen}
use Rattle.memory_cloud.proofs.copies.add_chosen.Given as goal

abbrev pub invariant-loop-position : goal.invariant-loop-position
invariant-loop-position l =
    l.out.items ++ take (l.most - length l.out.items) (chosen l.messages l.left)
    ≡ l.fn.out.items ++ take (l.most - length l.fn.out.items) (chosen l.messages l.positions)

abbrev pub decreases-loop-position : goal.decreases-loop-position
decreases-loop-position l = length l.left
