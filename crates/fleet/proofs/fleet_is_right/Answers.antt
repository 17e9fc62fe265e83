use Rattle.fleet.proofs.Grows.{grows}
use Rattle.fleet.proofs.Keeps.{keeps}
use Rattle.fleet.proofs.Refused.{refuses}
use Rattle.fleet.proofs.Right.{right_at, once_at}
use Rattle.fleet.proofs.fleet_is_right.Goals as goal

pub returns : goal.returns
returns c = record { stands = right_at; grows = grows; keeps = keeps; refuses = refuses; once = once_at }
