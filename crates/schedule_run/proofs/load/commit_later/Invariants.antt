use Rattle.load_plan.specs.Events.{parts, later_events}
use Rattle.schedule_run.specs.Load.{IsAmong}
use Rattle.schedule_run.proofs.LoadLemmas.{parts_left}
use Rattle.schedule_run.proofs.load.commit_later.Given as goal

-- so many transactions were made, and the others are left
abbrev pub invariant-loop-made : goal.invariant-loop-made
invariant-loop-made g l =
    IsAmong (later_events (parts l.transactions l.fn.left)) (parts_left l.made l.transactions l.left) (g.C.Cloud.seen l.fn.cloud) (g.C.Cloud.seen l.cloud) l.fn.play l.play
