use Rattle.std.proofs.Common.{ap}
use Rattle.history.specs.Fold.{no_records}
use Rattle.history.proofs.FoldLemmas.{fold_onto-append}
use Rattle.history.proofs.fold_goes_on.Goals as goal

pub returns : goal.returns
returns c = λ earlier later tree key. ap (λ records. records key) (fold_onto-append no_records earlier later tree)
