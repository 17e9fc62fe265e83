use Rattle.node_codec.proofs.inner_buf.InnerBuf.write.Goals as goal

pub returns-clause-ok : goal.returns-clause-ok
returns-clause-ok c = rw c.of.ensures c.in_ok-spell.ensures
