use Rattle.change_codec.proofs.Changes.{change_exact, IsChange-fits, change_fits-from}
use Rattle.change_codec.proofs.laws.change_is_exact.Goals as goal

pub returns-clause-exact : goal.returns-clause-exact
returns-clause-exact c = change_exact

pub returns-clause-fits : goal.returns-clause-fits
returns-clause-fits c = λ x. (IsChange-fits x, change_fits-from x)
