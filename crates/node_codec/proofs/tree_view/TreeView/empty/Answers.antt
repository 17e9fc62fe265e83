use Rattle.std.proofs.Common.{refl}
use Rattle.byte_format.specs.Format.{list_at, more_at, number_at, text_at}
use Rattle.node_codec.specs.Plain.{items_of}
use Rattle.node_codec.proofs.tree_view.TreeView.empty.Goals as goal

pub invariant_of-result : goal.invariant_of-result
unfolding items_of list_at more_at number_at text_at
invariant_of-result c = record { cursor_list = record { reads = refl }; entry_list = record { reads = refl }; fits = refl }

pub returns : goal.returns
unfolding items_of list_at more_at number_at text_at
returns c = refl
