use Rattle.std.proofs.Common.{arith}
use Rattle.leaf_view.specs.Shown.{shown}
use Rattle.leaf_edit.proofs.CutFits.{takes-one, takes-none, takes-empty}
use Rattle.leaf_edit.proofs.cut.next_of.Goals as goal

pub returns-in-Some : goal.returns-in-Some
returns-in-Some c = takes-one _ _ (shown c.in-Some.first.0) _ (omega arith) c.in-Some.ensures

pub returns-in-None : goal.returns-in-None
returns-in-None c = takes-empty _ _ c.in-None.ensures

pub returns-then-more-eq0 : goal.returns-then-more-eq0
returns-then-more-eq0 c = takes-none _ _ (omega arith)
