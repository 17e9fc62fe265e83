use Rattle.std.proofs.Common.{subst}
use Rattle.leaf_view.specs.Fits.{IsWellFormed}
use Rattle.range_scan.specs.Pairs.{Sight}
use Rattle.range_scan.proofs.Pairs.{records_listed}
use Rattle.range_scan.proofs.items.Items.of_records.Goals as goal

pub returns-clause-records : goal.returns-clause-records
returns-clause-records c =
    records_listed c.args.sight.now _ c.records.result c.skip_below-records.result c.none-items.result c.push_below.new.self _ c.sight.view_is c.records.ensures.formed
    c.records.ensures.records c.skip_below-records.ensures c.cut.ensures c.none-items.ensures c.in_ok-push_below.ensures

pub returns-clause-formed : goal.returns-clause-formed
returns-clause-formed c = subst (λ (s : Sight). IsWellFormed s.leaf) c.sight.view_is c.records.ensures.formed
