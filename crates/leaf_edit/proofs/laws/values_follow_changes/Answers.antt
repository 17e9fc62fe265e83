use Rattle.std.proofs.Common.{None}
use Rattle.leaf_edit.proofs.Edits.{edited_by-ascends}
use Rattle.leaf_edit.proofs.Values.{value_of-edited, value_of-edited_by}
use Rattle.leaf_edit.proofs.laws.values_follow_changes.Goals as goal

pub returns-clause-ascend : goal.returns-clause-ascend
returns-clause-ascend c = edited_by-ascends

pub returns-clause-change : goal.returns-clause-change
returns-clause-change c = λ key es x h. value_of-edited key None es x h

pub returns-clause-run : goal.returns-clause-run
returns-clause-run c = value_of-edited_by
