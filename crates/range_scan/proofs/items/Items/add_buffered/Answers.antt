use Rattle.std.proofs.Common.{sym, subst}
use Rattle.range_scan.specs.Pairs.{IsAscending}
use Rattle.range_scan.proofs.Pairs.{noted_ascends, one_buffered}
use Rattle.range_scan.proofs.items.Items.add_buffered.Goals as goal

pub loop-i-preserved : goal.loop-i-preserved
loop-i-preserved c = record {
  added =
      one_buffered c.args.sight.now c.args.self.now c.loop-i.self c.add_noted.new.self c.args.buffer.now c.loop-i.i
      (record { tree = c.in-Some.noted.0; change = c.in-Some.noted.1.now }) (sym c.in-Some.ensures) c.loop-i.invariant.added c.in_ok-add_noted.ensures;
  ascending = subst IsAscending (sym c.in_ok-add_noted.ensures)
      (noted_ascends c.args.sight.now c.loop-i.self (record { tree = c.in-Some.noted.0; change = c.in-Some.noted.1.now }) c.loop-i.invariant.ascending);
}
