use Rattle.range_scan.proofs.Fences.{read_is_fenced}
use Rattle.range_scan.proofs.Whole.{is_whole, spelled_is_fenced}
use Rattle.range_scan.proofs.laws.listing_laws.Goals as goal

pub returns : goal.returns
returns c = record { whole = is_whole; spelled = spelled_is_fenced; fenced = read_is_fenced }
