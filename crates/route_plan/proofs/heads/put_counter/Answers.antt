use Rattle.std.proofs.Common.{arith, sym, ap, ◌∙◌, ◌<◌, length}
use Rattle.route_plan.specs.Heads.{with_counter}
use Rattle.route_plan.proofs.Counters.{replaces}
use Rattle.route_plan.proofs.heads.put_counter.Goals as goal

pub returns-in-Equal : goal.returns-in-Equal
returns-in-Equal c =
    let below : c.loop-i.i < length c.loop-i.counters.items = omega arith in
    replaces c.loop-i.counters.items c.args.counter c.loop-i.i c.index.result.now c.loop-i.invariant.0 below c.index.ensures (sym c.in-Equal.ensures)
    ∙ ap (λ l. with_counter l c.args.counter) c.loop-i.invariant.1
