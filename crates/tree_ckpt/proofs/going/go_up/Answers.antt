use Rattle.std.proofs.Common.{subst}
use Rattle.tree_phases.specs.Going.{Went}
use Rattle.tree_phases.specs.declared.rising.Rising.{Rising}
use Rattle.tree_phases.specs.Rising.{rise}
use Rattle.tree_ckpt.proofs.going.go_up.Goals as goal

pub returns : goal.returns
returns c = c.ascend.ensures _ (subst (λ (r : Rising). Went (rise r) c.rise-pace.new.self c.rise-pace.result) c.begin-rising.ensures c.rise-pace.ensures)
