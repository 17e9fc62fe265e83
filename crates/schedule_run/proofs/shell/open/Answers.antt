use Rattle.std.proofs.Common.{Result, Ok, ℕ, sym, subst}
use Rattle.event_text.specs.declared.event.Event.TheVariants.{Open}
use Rattle.schedule_run.specs.Outside.{effects}
use Rattle.schedule_run.specs.declared.shell.ShellFault.{ShellFault}
use Rattle.schedule_run.specs.Shell.{EventRan, OpeningRan}
use Rattle.schedule_run.proofs.ShellLemmas.{opening_shown}
use Rattle.schedule_run.proofs.shell.open.Goals as goal

pub returns-in-Ok-clause-opening : goal.returns-in-Ok-clause-opening
returns-in-Ok-clause-opening g c =
    let w = g.O.Sink.told c.args.sink.now in
    let u = g.O.Sink.told c.run_event.new.sink in
    let s = g.C.Cloud.seen c.args.cloud.now in
    let t = g.C.Cloud.seen c.run_event.new.cloud in
    let Ran : ℕ → Type 0 = λ n. EventRan (Ok c.in-Ok.reply) 0 (Open 1 n) (effects w s, c.args.play.now) (effects u t, c.run_event.new.play) in
    let At : Result (Unit {0}) ShellFault → Type 0 = λ r. OpeningRan r c.args.client (effects w s, c.args.play.now) (effects u t, c.run_event.new.play) in
    subst At (sym c.opened-end.ensures) (opening_shown _ _ _ _ _ _ _ _ (subst Ran c.get.ensures.number c.in-Ok.ensures.event))
