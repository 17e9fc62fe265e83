use Rattle.std.proofs.Common.{◌≡◌, ◌≤◌, ◌-◌, length, drop}
use Rattle.memory_cloud.proofs.common.back_from.Given as goal

abbrev pub invariant-loop-count : goal.invariant-loop-count
invariant-loop-count l = record {
  first : l.count ≤ length l.first;
  second : l.count ≤ length l.second;
  same : drop (length l.first - l.count) l.first ≡ drop (length l.second - l.count) l.second;
}

abbrev pub decreases-loop-count : goal.decreases-loop-count
decreases-loop-count l = length l.first - l.count
