use Rattle.std.proofs.Common.{rules, sym, subst}
use Rattle.range_scan.specs.Pairs.{IsAscending}
use Rattle.range_scan.proofs.Pairs.{pending_ascends}
use Rattle.range_scan.proofs.items.Items.add_pending.Goals as goal

pub loop-entry-preserved : goal.loop-entry-preserved
loop-entry-preserved c = record {
  added = search rules;
  ascending = subst IsAscending (sym c.in_ok-add_entry.ensures) (pending_ascends c.args.sight.now c.loop-entry.self c.in-Some.entry.now c.loop-entry.invariant.ascending);
}
