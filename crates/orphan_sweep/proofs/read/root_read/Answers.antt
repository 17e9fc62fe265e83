use Rattle.std.proofs.Common.{arith}
use Rattle.orphan_sweep.proofs.Reading.{root_is, root_is_none}
use Rattle.orphan_sweep.proofs.read.root_read.Goals as goal

pub returns-in-Ok : goal.returns-in-Ok
returns-in-Ok c = root_is c.args.tree c.args.bytes.now c.in-Ok.view c.in-Ok.ensures.found

pub returns-in-Err : goal.returns-in-Err
returns-in-Err c = root_is_none c.args.tree c.args.bytes.now _ (λ i. omega (arith, c.type_inv.bytes i)) c.in-Err.ensures.only c.in-Err.ensures.offset
