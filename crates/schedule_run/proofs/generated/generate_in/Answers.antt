use Rattle.schedule_run.proofs.GeneratedLemmas.{gen_written}
use Rattle.schedule_run.proofs.generated.generate_in.Goals as goal

pub returns-in-Ok-clause-went : goal.returns-in-Ok-clause-went
returns-in-Ok-clause-went g c = gen_written _ _ _ _ _ _ _ _ _ c.in-Ok.ensures c.write_summary-written.ensures
