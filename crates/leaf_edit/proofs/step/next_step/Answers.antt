use Rattle.std.proofs.Common.{drop}
use Rattle.std.specs.Option.{option_map}
use Rattle.leaf_view.specs.Shown.{valued}
use Rattle.leaf_edit.proofs.Passed.{leaps}
use Rattle.leaf_edit.proofs.step.next_step.Goals as goal

pub returns : goal.returns
returns c =
    leaps c.args.records c.pass-rest.result.1 c.args.changes c.args.x.now (drop 1 c.args.changes) c.key_at.result.now c.pass-rest.result.0.now
    c.pass-rest.ensures.0 (option_map valued c.at_change.result.record) c.at_change.result.records c.at_change.result.changes
    c.requires.first c.requires.changes c.key_at.ensures.key c.pass-rest.ensures.1 c.pass-rest.ensures.2 c.at_change.ensures
