use Rattle.split_plan.specs.Part.{part_of_node, entry_key}
use Rattle.split_plan.proofs.Cutting.{pieces-are-a-cut}
use Rattle.split_plan.proofs.inner.plan_inner.Goals as goal

pub returns-clause-cut : goal.returns-clause-cut
returns-clause-cut c = pieces-are-a-cut entry_key c.args.first_free (part_of_node c.args.buf)
