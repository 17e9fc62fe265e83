use Rattle.std.proofs.Common.{Err, ap, ◌∙◌, arith}
use Rattle.tree_phases.proofs.Reading.{leaf_is, leaf_is_none}
use Rattle.tree_phases.proofs.read.leaf_view.Goals as goal

pub returns-in-Ok : goal.returns-in-Ok
returns-in-Ok c = leaf_is c.args.tree c.args.page c.args.bytes.now c.in-Ok.view c.in-Ok.ensures.found

pub returns-in-Err : goal.returns-in-Err
returns-in-Err c = ap Err c.damaged.ensures ∙ leaf_is_none c.args.tree c.args.page c.args.bytes.now _ (λ i. omega (arith, c.type_inv.bytes i)) (λ l is. absurd (cc (c.in-Err.ensures.only l is))) c.in-Err.ensures.offset
