use Rattle.std.proofs.Common.{inl, inr, refl}
use Rattle.memory_cloud.proofs.store.Store.get_old.Goals as goal

pub returns-in-Ok : goal.returns-in-Ok
returns-in-Ok c = λ who. inl (rw c.in-Ok.ensures (rw c.versions.ensures refl), c.stain.ensures.state, c.stain.ensures.counts)

pub returns-in-Err : goal.returns-in-Err
returns-in-Err c = λ who. inr (refl, refl, refl)
