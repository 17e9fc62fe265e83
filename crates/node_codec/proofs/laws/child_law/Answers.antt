use Rattle.node_codec.proofs.ChildLemmas.{tree_child, inner_child}
use Rattle.node_codec.proofs.laws.child_law.Goals as goal

pub returns : goal.returns
returns c = record { root = λ t key h e. tree_child t key e h; node = λ n key h e. inner_child n key e h }
