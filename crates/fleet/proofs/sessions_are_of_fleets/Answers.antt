use Rattle.fleet.proofs.Programs.{deals, dropped, noted, rows}
use Rattle.fleet.proofs.sessions_are_of_fleets.Goals as goal

pub returns : goal.returns
returns c = record { deals = deals; rows = rows; noted = noted; dropped = dropped }
