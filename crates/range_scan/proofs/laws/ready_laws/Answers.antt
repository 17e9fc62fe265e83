use Rattle.range_scan.proofs.Demands.{scan_ready_exact, scan_ready_shows}
use Rattle.range_scan.proofs.laws.ready_laws.Goals as goal

pub returns : goal.returns
returns c = record { causes = scan_ready_shows; exact = scan_ready_exact }
