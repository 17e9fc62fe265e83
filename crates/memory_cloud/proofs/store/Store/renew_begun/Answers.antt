use Rattle.std.proofs.Common.{inl, inr}
use Rattle.memory_cloud.proofs.store.Store.renew_begun.Goals as goal

pub returns-in-Lost-clause-obeys : goal.returns-in-Lost-clause-obeys
returns-in-Lost-clause-obeys c = λ who. rw c.in-Lost.is (c.renew_lost.ensures.obeys who)

pub returns-in-Plain : goal.returns-in-Plain
returns-in-Plain c = record {
  obeys = λ who. elim c.in-Plain.is [
    | inl e ↦ rw e (c.renew_plain.ensures.obeys who)
    | inr s ↦ elim s [ inl e ↦ rw e (c.renew_plain.ensures.obeys who) | inr s ↦ elim s [ inl e ↦ rw e.1 (c.renew_plain.ensures.obeys who) | inr e ↦ rw e (c.renew_plain.ensures.obeys who) ] ]
  ];
  lease = elim c.in-Plain.is [
    | inl e ↦ rw e c.renew_plain.ensures.lease
    | inr s ↦ elim s [ inl e ↦ rw e c.renew_plain.ensures.lease | inr s ↦ elim s [ inl e ↦ rw e.1 c.renew_plain.ensures.lease | inr e ↦ rw e c.renew_plain.ensures.lease ] ]
  ];
  no_memory = c.renew_plain.ensures.no_memory;
}
