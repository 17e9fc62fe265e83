use Rattle.std.proofs.Common.{not}
use Rattle.route_plan.proofs.CommitLaws.{AllCount-from_place, HasPlace-routed, HasSpelling-opened_head, HasSpelling-settled_head}
use Rattle.head_codec.proofs.Keeping.{HasSpelling-filter}
use Rattle.route_plan.specs.Prune.{is_applied_in, is_covered_by}
use Rattle.route_plan.proofs.laws.a_commit_has_spellings.Goals as goal

pub returns-clause-records : goal.returns-clause-records
returns-clause-records c = HasPlace-routed

pub returns-clause-opened : goal.returns-clause-opened
returns-clause-opened c = λ head txn records is some few all. HasSpelling-opened_head head txn records is some few (AllCount-from_place records all)

pub returns-clause-settled : goal.returns-clause-settled
returns-clause-settled c = λ head records is all. HasSpelling-settled_head head records is (AllCount-from_place records all)

pub returns-clause-pruned_by_leaf : goal.returns-clause-pruned_by_leaf
returns-clause-pruned_by_leaf c = λ head client tree leaf is. HasSpelling-filter head (λ entry. not (is_applied_in leaf client tree entry)) is

pub returns-clause-pruned_by_tree : goal.returns-clause-pruned_by_tree
returns-clause-pruned_by_tree c = λ head client tree root is. HasSpelling-filter head (λ entry. not (is_covered_by root client tree entry)) is
