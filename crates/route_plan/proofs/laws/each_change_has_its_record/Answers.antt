use Rattle.std.proofs.Common.{length, []}
use Rattle.route_plan.proofs.CommitLaws.{length-routed, routed_behind-at}
use Rattle.route_plan.proofs.laws.each_change_has_its_record.Goals as goal

pub returns-clause-length : goal.returns-clause-length
returns-clause-length c = length-routed

pub returns-clause-record_at : goal.returns-clause-record_at
returns-clause-record_at c = λ client epoch txn head changes leaves i noted leaf here at. routed_behind-at client epoch txn (length changes) head [] changes leaves i noted leaf here at
