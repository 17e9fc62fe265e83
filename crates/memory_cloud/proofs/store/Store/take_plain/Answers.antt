use Rattle.std.proofs.Common.{subst}
use Rattle.cloud_trait.specs.Answers.{taken_answer}
use Rattle.cloud_trait.specs.Ask.{Take}
use Rattle.cloud_trait.specs.State.{CloudState, Counts}
use Rattle.memory_cloud.specs.declared.mood.Mood.TheVariants.{Plain}
use Rattle.memory_cloud.specs.Memory.{store_state, store_counts}
use Rattle.memory_cloud.specs.Outcome.{Follows}
use Rattle.memory_cloud.proofs.store.Store.take_plain.Goals as goal

pub returns-in-None : goal.returns-in-None
returns-in-None c = λ who.
    subst
    (λ (s : CloudState). Follows Plain who (Take c.args.lock.now c.args.ticks) (taken_answer c.take_anew.result) (store_counts c.args.self.now, s) (store_counts c.take_anew.new.self, store_state c.take_anew.new.self))
    c.in-None.ensures.none
    (subst
    (λ (n : Counts). Follows Plain who (Take c.args.lock.now c.args.ticks) (taken_answer c.take_anew.result) (n, store_state c.give_again.new.self) (store_counts c.take_anew.new.self, store_state c.take_anew.new.self))
    c.in-None.ensures.counts (c.take_anew.ensures who))
