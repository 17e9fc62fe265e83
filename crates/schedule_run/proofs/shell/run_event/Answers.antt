use Rattle.std.proofs.Common.{Result, refl, sym, subst}
use Rattle.reply_text.specs.declared.reply.Reply.{Reply}
use Rattle.schedule_run.specs.Outside.{effects}
use Rattle.schedule_run.specs.declared.shell.ShellFault.{ShellFault}
use Rattle.schedule_run.specs.Shell.{EventRan, out_event}
use Rattle.schedule_run.proofs.ShellLemmas.{event_shown}
use Rattle.schedule_run.proofs.shell.run_event.Goals as goal

pub returns-in-Ok-clause-event : goal.returns-in-Ok-clause-event
returns-in-Ok-clause-event g c =
    let At : Result Reply ShellFault → Type 0 = λ r. EventRan r c.args.n c.args.event.now (effects (g.O.Sink.told c.args.sink.now) (g.C.Cloud.seen c.args.cloud.now), c.args.play.now) (effects (g.O.Sink.told c.write_reply-written.new.sink) (g.C.Cloud.seen c.run_whole.new.cloud), c.run_whole.new.self) in
    subst At (sym c.shown.ensures) (event_shown _ _ _ _ _ _ _ _ _ _ c.in-Ok.ensures c.write_reply-written.ensures)

pub returns-in-Err-clause-event : goal.returns-in-Err-clause-event
returns-in-Err-clause-event g c = out_event c.in-Err.ensures refl
