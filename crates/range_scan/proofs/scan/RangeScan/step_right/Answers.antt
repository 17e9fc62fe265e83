use Rattle.std.proofs.Common.{◌<◌, ◌^◌, length, subst, arith}
use Rattle.range_scan.specs.Scan.{Scan}
use Rattle.range_scan.proofs.End.{right_further}
use Rattle.range_scan.proofs.scan.RangeScan.step_right.Goals as goal

pub returns-clause-further : goal.returns-clause-further
returns-clause-further g c =
    let few : length c.self.inside.passed.items < 2 ^ 64 = omega (arith, c.self.inside.passed.ok.0, c.self.inside.passed.ok.1, c.self.inside.passed.small) in
    λ page ended on. right_further c.args.self.now c.args.cache.now c.got.result c.take_right.new.self c.take_right.new.cache c.take_right.result page c.requires
    (subst (λ (s : Scan). length s.passed < 2 ^ 64) c.self.view_is few) c.take_right.ensures.moves ended on
