use Rattle.tree_ckpt.proofs.absorbed.descended.Goals as goal

pub returns : goal.returns
returns c = c.descend.ensures _ c.absorb-pace.ensures
