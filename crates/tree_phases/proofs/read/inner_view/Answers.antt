use Rattle.std.proofs.Common.{Err, ap, ◌∙◌, arith}
use Rattle.tree_phases.proofs.Reading.{inner_is, inner_is_none}
use Rattle.tree_phases.proofs.read.inner_view.Goals as goal

pub returns-in-Ok-clause-read : goal.returns-in-Ok-clause-read
returns-in-Ok-clause-read c = inner_is c.args.tree c.args.page c.args.bytes.now c.in-Ok.view c.in-Ok.ensures.found

pub returns-in-Err-clause-read : goal.returns-in-Err-clause-read
returns-in-Err-clause-read c = ap Err c.damaged.ensures ∙ inner_is_none c.args.tree c.args.page c.args.bytes.now _ (λ i. omega (arith, c.type_inv.bytes i)) c.in-Err.ensures.only c.in-Err.ensures.offset
