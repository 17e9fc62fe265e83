use Rattle.std.proofs.Common.{Ok, ap}
use Rattle.leaf_edit.proofs.Spelled.{leaf_in_is, spells_it}
use Rattle.page_ckpt.proofs.home.Home.read.Goals as goal

pub invariant_of-result : goal.invariant_of-result
invariant_of-result c = let found = rw c.as_slice.ensures at c.in_ok-read.ensures.found in spells_it c.args.bytes c.in_ok-read.field-0 found

pub returns-clause-found : goal.returns-clause-found
returns-clause-found c = let found = rw c.as_slice.ensures at c.in_ok-read.ensures.found in spells_it c.args.bytes c.in_ok-read.field-0 found

pub returns-clause-only : goal.returns-clause-only
returns-clause-only c = λ l is. ap Ok (leaf_in_is c.args.bytes l is)
