use Rattle.std.proofs.Common.{refl, ◌∙◌}
use Rattle.leaf_edit.proofs.Spelled.{leaf_in_is, written}
use Rattle.leaf_edit.proofs.cut.left_leaf.Goals as goal

pub of-requires : goal.of-requires
of-requires c = written _ _ c.in_ok-spell_left.ensures refl

pub returns : goal.returns
returns c = c.of.ensures ∙ leaf_in_is _ _ c.in_ok-spell_left.ensures
