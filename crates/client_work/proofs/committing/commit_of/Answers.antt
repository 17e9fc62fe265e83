use Rattle.std.proofs.Common.{ap, inr, refl, ◌∙◌}
use Rattle.client_work.specs.declared.work.Work.TheVariants.{Broken, Idle}
use Rattle.client_work.proofs.Ready.{memory_stops, ready_by}
use Rattle.client_work.proofs.committing.commit_of.Goals as goal

pub returns-in-More : goal.returns-in-More
returns-in-More c =
    let went = ready_by c.args.home c.args.changes c.new-commit.result c.ready.new.self c.args.cache.now c.ready.new.cache c.ready.result _ c.new-commit.ensures c.ready.ensures.led c.in-More.is in
    inr (c.requires, (c.ready.new.self, went, refl))

pub returns-in-Ended : goal.returns-in-Ended
returns-in-Ended c =
    let went = ready_by c.args.home c.args.changes c.new-commit.result c.ready.new.self c.args.cache.now c.ready.new.cache c.ready.result _ c.new-commit.ensures c.ready.ensures.led c.in-Ended.is in
    inr (c.requires, (c.ready.new.self, went, ap Idle c.finish.ensures))

pub returns-in-Stopped : goal.returns-in-Stopped
returns-in-Stopped c =
    let stops = memory_stops c.args.home c.args.changes c.new-commit.result c.ready.new.self c.args.cache.now c.ready.result c.in-Stopped.trouble c.new-commit.ensures c.ready.ensures.means c.ready.ensures.kept c.in-Stopped.is in
    inr (c.requires, (stops.0, c.broken.ensures ∙ ap Broken stops.1))
