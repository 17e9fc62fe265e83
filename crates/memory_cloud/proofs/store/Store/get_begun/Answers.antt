use Rattle.std.proofs.Common.{inl, inr}
use Rattle.memory_cloud.proofs.store.Store.get_begun.Goals as goal

pub returns-in-Old : goal.returns-in-Old
returns-in-Old c = λ who. rw c.in-Old.is (c.get_old.ensures who)

pub returns-in-Plain : goal.returns-in-Plain
returns-in-Plain c = λ who. elim c.in-Plain.is [ inl e ↦ rw e (c.get_newest.ensures who) | inr s ↦ elim s [ inl e ↦ rw e (c.get_newest.ensures who) | inr e ↦ rw e (c.get_newest.ensures who) ] ]
