use Rattle.std.proofs.Common.{is_some, ap, subst, ◌∙◌}
use Rattle.cloud_trait.specs.Machine.{Steps, occasion_of}
use Rattle.tree_walk.specs.Stepped.{steps_of}
use Rattle.range_scan.specs.Scan.{Scan, scan_machine}
use Rattle.range_scan.proofs.Turns.{none_of, walk_steps}
use Rattle.range_scan.proofs.scan.RangeScan.step_walk.Goals as goal

pub returns-clause-steps : goal.returns-clause-steps
returns-clause-steps g c =
    let P : Scan → Type 0 = λ s. Steps scan_machine (occasion_of c.args.who (g.C.Cloud.seen c.args.cloud.now) (g.C.Cloud.seen c.step-turn.new.cloud)) (s, c.args.cache.now) (c.walked.new.self, c.step-turn.new.cache) c.walked.result in
    subst P c.self.view_is
    (walk_steps c.args.who _ _ _ _ _ _ c.step-turn.result _ _ (none_of _ (ap (λ (s : Scan). is_some s.spot) c.self.view_is ∙ c.requires)) (steps_of c.step-turn.ensures.stepped) c.step-turn.ensures.stepped.served c.walked.ensures)
