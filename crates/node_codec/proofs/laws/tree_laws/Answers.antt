use Rattle.node_codec.proofs.SpellingLaws.{tree_again, tree_only, tree_found, tree_parts_lie}
use Rattle.node_codec.proofs.laws.tree_laws.Goals as goal

pub returns : goal.returns
returns c = record { again = tree_again; only = tree_only; found = tree_found; parts = tree_parts_lie }
