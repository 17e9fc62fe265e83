use Rattle.log_codec.proofs.AtomicLaws.{atomic_exact, atomic_of-bytes, atomic_of-some}
use Rattle.log_codec.proofs.laws.atomic_records_are_exact.Goals as goal

pub returns-clause-exact : goal.returns-clause-exact
returns-clause-exact c = atomic_exact

pub returns-clause-again : goal.returns-clause-again
returns-clause-again c = atomic_of-bytes

pub returns-clause-spelled : goal.returns-clause-spelled
returns-clause-spelled c = atomic_of-some
