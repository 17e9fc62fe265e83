use Rattle.db_io.proofs.WriteLemmas.{each_whole, part_whole}
use Rattle.db_io.proofs.laws.writes_join.Goals as goal

pub returns : goal.returns
returns c = record { each = each_whole; part = part_whole }
