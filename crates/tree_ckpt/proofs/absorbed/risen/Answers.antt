use Rattle.tree_ckpt.proofs.absorbed.risen.Goals as goal

pub returns : goal.returns
returns c = c.ascend.ensures _ c.absorb-pace.ensures
