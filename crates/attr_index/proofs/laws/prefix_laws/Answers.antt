use Rattle.attr_index.proofs.Prefixes.{begins_between}
use Rattle.attr_index.proofs.laws.prefix_laws.Goals as goal

pub returns : goal.returns
returns c = record { together = begins_between }
