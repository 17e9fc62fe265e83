use Rattle.std.proofs.Common.{inl, inr}
use Rattle.memory_cloud.proofs.store.Store.receive_begun.Goals as goal

pub returns-in-Give : goal.returns-in-Give
returns-in-Give c = λ who. rw c.in-Give.is (c.receive_chosen.ensures who)

pub returns-in-Plain : goal.returns-in-Plain
returns-in-Plain c = λ who. elim c.in-Plain.is [ inl e ↦ rw e (c.receive_plain.ensures who) | inr e ↦ rw e.1 (c.receive_plain.ensures who) ]
