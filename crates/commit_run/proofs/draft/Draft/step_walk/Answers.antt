use Rattle.commit_run.proofs.Hands.{steps_held}
use Rattle.commit_run.proofs.Leading.{walk_leads, keeps_head}
use Rattle.commit_run.proofs.Demands.{walk_demands}
use Rattle.commit_run.proofs.CallDemands.{walk_stepped}
use Rattle.commit_run.proofs.End.{walk_less}
use Rattle.commit_run.proofs.draft.Draft.step_walk.Goals as goal

pub walked-requires-clause-aimed : goal.walked-requires-clause-aimed
walked-requires-clause-aimed g c =
    steps_held c.args.first c.args.self.now c.args.walk c.step-turn.new.self c.step-turn.result c.requires c.step-turn.ensures.stepped.aim

pub returns-clause-stepped : goal.returns-clause-stepped
returns-clause-stepped g c =
    let first = c.args.first in
    let old = c.args.self.now in
    let stepped = c.step-turn.ensures.stepped in
    let memory = c.walked.ensures.memory in
    let led = c.walked.ensures.led in
    walk_stepped first old c.args.walk c.args.cache.now c.args.who _ _ stepped.answer _ _ stepped.made
    (walk_leads first old c.args.walk c.args.cache.now stepped.answer c.step-turn.new.self c.step-turn.new.cache c.step-turn.result _ _ stepped.took memory led
    (keeps_head old.writes.home c.walked.new.self.writes.home c.walked.ensures.home))
    (walk_demands first old c.args.walk c.args.cache.now stepped.answer (c.step-turn.new.self, c.step-turn.new.cache) c.step-turn.result _ _ stepped.took c.len.ensures.whole memory led)

pub returns-clause-less : goal.returns-clause-less
returns-clause-less g c =
    let stepped = c.step-turn.ensures.stepped in
    walk_less c.args.first c.args.self.now c.args.walk c.args.cache.now stepped.answer (c.step-turn.new.self, c.step-turn.new.cache) c.step-turn.result _ _ c.requires stepped.took c.walked.ensures.memory
    c.step-turn.ensures.less c.step-turn.ensures.ends c.walked.ensures.led
