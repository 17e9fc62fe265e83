use Rattle.split_plan.specs.Part.{part_of_leaf, record_key}
use Rattle.split_plan.proofs.Cutting.{pieces-are-a-cut}
use Rattle.split_plan.proofs.leaf.plan_leaf.Goals as goal

pub returns-clause-cut : goal.returns-clause-cut
returns-clause-cut c = pieces-are-a-cut record_key c.args.first_free (part_of_leaf c.args.buf)
