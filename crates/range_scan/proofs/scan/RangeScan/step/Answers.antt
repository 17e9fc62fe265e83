use Rattle.range_scan.proofs.Stepped.{next_stepped}
use Rattle.range_scan.proofs.scan.RangeScan.step.Goals as goal

pub returns-then-is_some-clause-stepped : goal.returns-then-is_some-clause-stepped
returns-then-is_some-clause-stepped g c = next_stepped _ _ _ _ _ _ c.step_right.ensures.steps c.step_right.ensures.served

pub returns-else-is_some-clause-stepped : goal.returns-else-is_some-clause-stepped
returns-else-is_some-clause-stepped g c = next_stepped _ _ _ _ _ _ c.step_walk.ensures.steps c.step_walk.ensures.served
