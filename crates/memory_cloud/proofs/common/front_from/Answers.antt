use Rattle.std.proofs.Common.{◌≡◌, take, drop, rules}
use Rattle.memory_cloud.proofs.SharingLemmas.{front_grows}
use Rattle.memory_cloud.proofs.common.front_from.Goals as goal

pub loop-count-preserved : goal.loop-count-preserved
loop-count-preserved c =
    let more : take c.args.size (drop c.loop-count.count c.args.first.now) ≡ take c.args.size (drop c.loop-count.count c.args.second.now) = search rules in
    record {
      first = search rules;
      second = search rules;
      same = front_grows c.loop-count.count c.args.size c.args.first.now c.args.second.now c.loop-count.invariant.same more;
    }
