use Rattle.world_core.proofs.Placing.{notes_in, puts_in}
use Rattle.world_core.proofs.sessions.noted.Goals as goal

pub returns-in-Single : goal.returns-in-Single
returns-in-Single g c = rw c.in-Single.is (notes_in _ _ _ _ _ c.note.ensures.ok c.note.ensures.err c.note.ensures.cause c.note.ensures.few)

pub returns-in-Indexed : goal.returns-in-Indexed
returns-in-Indexed g c = rw c.in-Indexed.is (puts_in _ _ _ _ _ _ _ c.put.ensures.ok c.put.ensures.indexed c.put.ensures.err c.put.ensures.cause c.put.ensures.few)
