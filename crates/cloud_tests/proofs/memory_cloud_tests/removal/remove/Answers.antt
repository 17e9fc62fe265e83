use Rattle.cloud_tests.proofs.RemovalLemmas.{removal_row}
use Rattle.cloud_tests.proofs.memory_cloud_tests.removal.remove.Goals as goal

pub returns : goal.returns
returns g c = λ s t. removal_row c.args.who c.args.name c.args.lease.now c.remove_held.result _ _ s t c.remove_held.ensures.made
