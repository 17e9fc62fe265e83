use Rattle.std.proofs.Common.{arith}
use Rattle.tree_phases.proofs.Reading.{tree_is_none}
use Rattle.tree_phases.proofs.spelled.check_tree.Goals as goal

pub returns-in-Err-clause-none : goal.returns-in-Err-clause-none
returns-in-Err-clause-none c = tree_is_none c.args.bytes.now (λ i. omega (arith, c.type_inv.bytes i)) c.in-Err.ensures.only
