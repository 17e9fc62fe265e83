-- Events of a load that were run from a new world on.
use Rattle.std.proofs.Common.{true, List}
use Rattle.cloud_trait.specs.Seen.{Seen}
use Rattle.event_text.specs.declared.event.Event.{Event}
use Rattle.reply_text.specs.declared.reply.Reply.{Reply}
use Rattle.schedule_run.specs.Answered.{IsNoReport}
use Rattle.schedule_run.specs.InPlay.{Play}
use Rattle.schedule_run.specs.Load.{RanEach, ran_none, ran_more}
use Rattle.schedule_run.specs.Play.{IsFresh, StopsRun}
use Rattle.schedule_run.specs.Shell.{WereRun, WereStopped}
use Rattle.schedule_run.proofs.ShellLemmas.{run_nothing, run_more, run_stopped}

pub were_run : (s : Seen) (old : Play) → IsFresh true old → (events : List Event) (replies : List Reply) (t : Seen) (new : Play) → RanEach s old events replies t new
    → WereRun events replies s t new
were_run s old fresh _ _ _ _ ran_none = run_nothing s old fresh
were_run s old fresh _ _ t new (ran_more events e replies r y _ play _ ran none run) =
    run_more events replies e r s y t play new (were_run s old fresh events replies y play ran) none run

pub were_stopped : (s : Seen) (old : Play) → IsFresh true old → (events : List Event) (replies : List Reply) (t : Seen) (play : Play) → RanEach s old events replies t play
    → (e : Event) (z : Seen) (new : Play) → IsNoReport e → StopsRun e t z play new → WereStopped events replies e s z
were_stopped s old fresh events replies t play ran e z new none stops = run_stopped events replies e s t z play new (were_run s old fresh events replies t play ran) none stops
