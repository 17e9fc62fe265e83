use Rattle.std.proofs.Common.{ap}
use Rattle.history.specs.Fold.{no_records}
use Rattle.history.proofs.FoldLemmas.{fold_onto-of_tree}
use Rattle.history.proofs.fold_is_of_the_tree.Goals as goal

pub returns : goal.returns
returns c = λ entries tree key. ap (λ records. records key) (fold_onto-of_tree no_records entries tree)
