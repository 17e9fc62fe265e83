use Rattle.std.proofs.Common.{◌≡◌, ◌++◌, length}
use Rattle.std.specs.Option.{option_copied}
use Rattle.range_scan.specs.Bounds.{up_to}
use Rattle.range_scan.proofs.items.Items.push_below.Given as goal

abbrev pub invariant-loop-key : goal.invariant-loop-key
invariant-loop-key l = l.self ++ up_to (option_copied l.bound) l.left ≡ l.initial.self ++ up_to (option_copied l.bound) l.initial.left

abbrev pub decreases-loop-key : goal.decreases-loop-key
decreases-loop-key l = length l.left
