use Rattle.session_facts.specs.Lines.Errands.{settles}
use Rattle.world_core.proofs.Settling.{errand_works, answers_errand}
use Rattle.world_core.proofs.world.World.settle_on.Goals as goal

pub run_on-answer-requires : goal.run_on-answer-requires
run_on-answer-requires g c = errand_works settles c.args.who.session c.args.self.now.sessions c.requires

pub settled_reply-requires : goal.settled_reply-requires
settled_reply-requires g c =
    answers_errand settles c.args.who (g.C.Cloud.seen c.args.cloud.now) (g.C.Cloud.seen c.run_on-answer.new.cloud) c.args.self.now c.run_on-answer.new.self c.in-Ok.answer c.requires c.in-Ok.ensures.comes
