use Rattle.log_codec.proofs.PuLaws.{pu_exact, pu_of-bytes, pu_of-some}
use Rattle.log_codec.proofs.laws.pu_records_are_exact.Goals as goal

pub returns-clause-exact : goal.returns-clause-exact
returns-clause-exact c = pu_exact

pub returns-clause-again : goal.returns-clause-again
returns-clause-again c = pu_of-bytes

pub returns-clause-spelled : goal.returns-clause-spelled
returns-clause-spelled c = pu_of-some
