use Rattle.std.proofs.Common.{inl, inr}
use Rattle.memory_cloud.proofs.store.Store.list_held_begun.Goals as goal

pub returns-in-Lost : goal.returns-in-Lost
returns-in-Lost c = λ who. rw c.in-Lost.is (c.list_held_lost.ensures who)

pub returns-in-Plain : goal.returns-in-Plain
returns-in-Plain c = λ who. elim c.in-Plain.is [
  | inl e ↦ rw e (c.list_held_plain.ensures who)
  | inr s ↦ elim s [ inl e ↦ rw e (c.list_held_plain.ensures who) | inr s ↦ elim s [ inl e ↦ rw e.1 (c.list_held_plain.ensures who) | inr e ↦ rw e (c.list_held_plain.ensures who) ] ]
]
