use Rattle.tree_walk.proofs.Causes.{ready_shows}
use Rattle.tree_walk.proofs.Gets.{ready_gets}
use Rattle.tree_walk.proofs.Demands.{ready_exact}
use Rattle.tree_walk.proofs.laws.ready_laws.Goals as goal

pub returns : goal.returns
returns c = record { causes = ready_shows; exact = ready_exact; gets = ready_gets }
