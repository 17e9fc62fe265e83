use Rattle.node_codec.proofs.SpellingLaws.{tree_only}
use Rattle.tree_phases.proofs.spelled.TreeBytes.read.Goals as goal

pub returns-clause-read : goal.returns-clause-read
returns-clause-read c =
    let found = rw c.as_slice.ensures at c.in_ok-check_tree.ensures.found in
    (found.0, tree_only c.args.bytes found.0 found.1)
