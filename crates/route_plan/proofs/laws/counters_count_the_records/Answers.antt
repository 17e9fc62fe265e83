use Rattle.route_plan.proofs.CommitLaws.{number_of_queue-opened_head}
use Rattle.route_plan.proofs.laws.counters_count_the_records.Goals as goal

pub returns : goal.returns
returns c = number_of_queue-opened_head
