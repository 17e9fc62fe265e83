use Rattle.std.proofs.Common.{sym, ◌∙◌}
use Rattle.range_scan.proofs.Order.{later_then, later_else}
use Rattle.range_scan.proofs.bounds.later.Goals as goal

pub returns-then-is_below : goal.returns-then-is_below
returns-then-is_below c = λ key. later_then c.args.a.now c.args.b.now key (sym c.is_below.ensures ∙ c.if-is_below.true)

pub returns-else-is_below : goal.returns-else-is_below
returns-else-is_below c = λ key. later_else c.args.a.now c.args.b.now key (sym c.is_below.ensures ∙ c.if-is_below.false)
