use Rattle.std.proofs.Common.{inr, refl, rules}
use Rattle.memory_cloud.proofs.store.Store.take_anew.Goals as goal

pub returns-then-is_spent : goal.returns-then-is_spent
returns-then-is_spent c = λ who. c.take_spent.ensures c.args.ticks who

pub returns-in-Err : goal.returns-in-Err
returns-in-Err c = λ who. inr (refl, search rules, c.give_if_free.ensures.counts)
