use Rattle.std.proofs.Common.{Ok, ap, arith}
use Rattle.leaf_view.proofs.Reading.{found, only, never}
use Rattle.leaf_view.proofs.view.LeafView.read.Goals as goal

pub returns-in-Ok-clause-found : goal.returns-in-Ok-clause-found
returns-in-Ok-clause-found c = found c.args.bytes.now _ (λ i. omega (arith, c.type_inv.bytes i)) c.in-Ok.ensures

pub returns-in-Ok-clause-only : goal.returns-in-Ok-clause-only
returns-in-Ok-clause-only c = λ l is. ap Ok (only c.args.bytes.now c.in-Ok.view l c.in-Ok.ensures is)

pub returns-in-Err-clause-only : goal.returns-in-Err-clause-only
returns-in-Err-clause-only c = λ l is. absurd (never c.args.bytes.now l c.in-Err.stop.left c.in-Err.ensures is)
