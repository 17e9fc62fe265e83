use Rattle.std.proofs.Common.{◌≡◌, ◌+◌, ◌-◌, length, rules}
use Rattle.std.specs.List.{slice_range}
use Rattle.memory_cloud.proofs.SharingLemmas.{back_grows}
use Rattle.memory_cloud.proofs.common.back_from.Goals as goal

pub loop-count-preserved : goal.loop-count-preserved
loop-count-preserved c =
    let more : slice_range c.args.first.now (length c.args.first.now - (c.loop-count.count + c.args.size)) (length c.args.first.now - c.loop-count.count) ≡ slice_range c.args.second.now (length c.args.second.now - (c.loop-count.count + c.args.size)) (length c.args.second.now - c.loop-count.count) = search rules in
    record {
      first = search rules;
      second = search rules;
      same = back_grows c.loop-count.count c.args.size c.args.first.now c.args.second.now c.loop-count.invariant.same more;
    }
