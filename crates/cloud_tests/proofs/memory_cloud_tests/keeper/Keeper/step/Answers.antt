use Rattle.cloud_tests.proofs.KeepingLemmas.{took_handed, ended_kept}
use Rattle.cloud_tests.proofs.memory_cloud_tests.keeper.Keeper.step.Goals as goal

pub returns-clause-steps : goal.returns-clause-steps
returns-clause-steps g c = record { answer = c.call-answer.result; made = c.call-answer.ensures.made; took = took_handed c.args.self.now _ _ _ _ c.call-answer.ensures.left c.absorb.ensures }

pub returns-clause-kept : goal.returns-clause-kept
returns-clause-kept g c = ended_kept c.args.self.now c.call-answer.result _ _ (took_handed c.args.self.now _ _ _ _ c.call-answer.ensures.left c.absorb.ensures)
