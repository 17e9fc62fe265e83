use Rattle.std.proofs.Common.{None, sym, subst}
use Rattle.leaf_view.specs.Fits.{Ascend, entry_below}
use Rattle.range_scan.specs.Pairs.{Sight, IsAscending}
use Rattle.range_scan.proofs.Pairs.{are_listed, items_are, with_records_ascend}
use Rattle.range_scan.proofs.items.Items.of.Goals as goal

pub add_pending-requires-clause-ascending : goal.add_pending-requires-clause-ascending
add_pending-requires-clause-ascending c = subst IsAscending (sym c.in_ok-items.ensures.records) (with_records_ascend c.args.sight.now)

pub returns-clause-list : goal.returns-clause-list
returns-clause-list c =
    are_listed c.args.sight.now _ _ c.add_pending.new.self c.add_buffered.new.self c.as_slice.result.now c.sight.view_is
    c.as_slice.ensures c.in_ok-items.ensures.records c.in_ok-add_pending.ensures.added c.in_ok-add_buffered.ensures.added

pub returns-clause-are : goal.returns-clause-are
returns-clause-are c =
    items_are c.args.sight.now _ c.add_buffered.new.self c.sight.view_is
    (subst (λ (s : Sight). Ascend entry_below None s.leaf.records) (sym c.sight.view_is) c.of_records.ensures.formed.records_ascend)
    c.add_buffered.ensures.noted.distinct (returns-clause-list c)
