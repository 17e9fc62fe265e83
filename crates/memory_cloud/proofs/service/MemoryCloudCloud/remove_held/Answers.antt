use Rattle.memory_cloud.proofs.OutcomeLemmas.{begun_makes}
use Rattle.memory_cloud.proofs.service.MemoryCloudCloud.remove_held.Goals as goal

pub returns-clause-made : goal.returns-clause-made
returns-clause-made c = begun_makes _ _ c.begin-mood.result _ _ _ _ _ _ _ _ _ c.begin-mood.ensures.counted.planted c.begin-mood.ensures.state c.begin-mood.ensures.counts c.remove_held_begun.ensures
