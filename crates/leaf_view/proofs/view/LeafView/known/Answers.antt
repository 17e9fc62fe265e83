use Rattle.std.proofs.Common.{arith}
use Rattle.leaf_view.proofs.Reading.{found, never}
use Rattle.leaf_view.proofs.view.LeafView.known.Goals as goal

pub returns-in-Ok : goal.returns-in-Ok
returns-in-Ok c = found c.args.bytes.now _ (λ i. omega (arith, c.type_inv.bytes i)) c.in-Ok.ensures

pub returns-in-Err : goal.returns-in-Err
returns-in-Err c = absurd (never c.args.bytes.now c.requires.0 c.in-Err.field-0.left c.in-Err.ensures c.requires.1)
