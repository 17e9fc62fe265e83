use Rattle.leaf_view.proofs.Reading.{empty_sound, empty_is}
use Rattle.leaf_view.proofs.view.LeafView.empty.Goals as goal

pub invariant_of-result : goal.invariant_of-result
invariant_of-result c = empty_sound

pub returns : goal.returns
returns c = empty_is
