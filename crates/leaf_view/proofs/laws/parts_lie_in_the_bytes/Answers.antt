use Rattle.leaf_view.proofs.PartsLemmas.{parts_lie_in}
use Rattle.leaf_view.proofs.laws.parts_lie_in_the_bytes.Goals as goal

pub returns : goal.returns
returns c = parts_lie_in
