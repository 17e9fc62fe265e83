use Rattle.memory_cloud.proofs.OutcomeLemmas.{begun_makes, begun_renews, not_memory}
use Rattle.cloud_trait.specs.Answers.{held_answer_of, renewed_by}
use Rattle.memory_cloud.specs.Memory.{state_of, counts_of, is_planted, store_state, store_counts}
use Rattle.memory_cloud.proofs.service.MemoryCloudCloud.renew.Goals as goal

pub returns-clause-made : goal.returns-clause-made
returns-clause-made c = begun_makes _ _ c.begin-mood.result _ _ _ _ _ _ _ _ _ c.begin-mood.ensures.counted.planted c.begin-mood.ensures.state c.begin-mood.ensures.counts (c.renew_begun.ensures.obeys c.args.who)

pub returns-clause-lease : goal.returns-clause-lease
returns-clause-lease c =
    begun_renews (is_planted c.args.self.now) (is_planted c.begin-mood.new.self) c.begin-mood.result c.args.who c.args.lease.now c.renew_begun.new.lease c.args.ticks (held_answer_of (renewed_by c.renew_begun.new.lease) c.renew_begun.result) (counts_of c.args.self.now) (counts_of c.begin-mood.new.self) (store_counts c.renew_begun.new.self) (state_of c.args.self.now) (state_of c.begin-mood.new.self) (store_state c.renew_begun.new.self)
    c.begin-mood.ensures.counted.planted c.begin-mood.ensures.state c.begin-mood.ensures.counts (c.renew_begun.ensures.obeys c.args.who) (not_memory c.renew_begun.new.lease c.renew_begun.result c.renew_begun.ensures.no_memory) c.renew_begun.ensures.lease
