use Rattle.std.proofs.Common.{◌∙◌}
use Rattle.tree_phases.proofs.Reading.{tree_spelling}
use Rattle.tree_phases.proofs.reserve.tree_spelled.Goals as goal

pub returns-in-Ok : goal.returns-in-Ok
returns-in-Ok c = c.of.ensures ∙ tree_spelling c.in-Ok.bytes c.args.buf.now c.in-Ok.ensures.ok
