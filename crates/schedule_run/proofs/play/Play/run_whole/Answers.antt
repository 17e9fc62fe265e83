use Rattle.std.proofs.Common.{subst}
use Rattle.reply_text.specs.declared.reply.Reply.{Reply}
use Rattle.schedule_run.specs.Play.{IsNext}
use Rattle.schedule_run.proofs.PlayLemmas.{run_behind}
use Rattle.schedule_run.proofs.play.Play.run_whole.Goals as goal

pub returns-in-Begun : goal.returns-in-Begun
returns-in-Begun g c =
    let At : Reply → Type 0 = λ r. IsNext c.args.event.now r (g.C.Cloud.seen c.args.cloud.now) (g.C.Cloud.seen c.take.new.cloud) c.args.self.now c.take.new.self in
    run_behind _ _ _ _ _ _ _ _ (subst At c.in-Begun.is c.in-Ok.ensures) c.take-in-Begun.ensures
