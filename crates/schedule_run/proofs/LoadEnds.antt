-- How a load ended, by how its events did.
use Rattle.std.proofs.Common.{ℕ, ◌≡◌, ◌<◌, ◌^◌, ◌++◌, ◌∷◌, [], List, length, Some, Result, Ok, Err, true, refl, sym, ap, subst, ◌∙◌, arith}
use Rattle.cloud_trait.specs.Seen.{Seen}
use Rattle.cloud_trait.specs.State.{CloudState, IsEmptyCloud}
use Rattle.dump_text.specs.declared.dump.DumpedTree.{DumpedTree}
use Rattle.event_text.specs.declared.event.Event.{Event}
use Rattle.event_text.specs.declared.event.Event.TheVariants as event
use Rattle.load_plan.specs.Events.{load_events}
use Rattle.load_plan.specs.FirstLook.{first_names, LookedAtAll, LooksEnded}
use Rattle.load_plan.specs.declared.first_look.LookStop.{LookStop}
use Rattle.load_plan.specs.declared.first_look.LookStop.TheVariants as look
use Rattle.reply_text.specs.declared.reply.Reply.{Reply}
use Rattle.reply_text.specs.declared.reply.Reply.TheVariants as reply
use Rattle.schedule_run.specs.InPlay.{Play}
use Rattle.schedule_run.specs.Load.{stop_of, stop_of_look, RanEach, ran_none, ran_more, StopsAt, stops_behind, stops_at, stops_before, StoppedBehind, LoadRanOut, out_looking, out_between, out_event, out_behind, LoadEnded, Loads}
use Rattle.schedule_run.specs.Play.{IsFresh, IsRun, answered, answered_run}
use Rattle.schedule_run.specs.Shell.{WereRun}
use Rattle.schedule_run.specs.declared.load.LoadStop.{LoadStop}
use Rattle.schedule_run.specs.declared.load.LoadStop.TheVariants.{NotEmpty, Stopped, Opening, Commit, Settling, Memory}
use Rattle.schedule_run.specs.declared.load.Loaded.{Loaded}
use Rattle.schedule_run.proofs.LoadCalm.{stops_for_memory}
use Rattle.schedule_run.proofs.LoadRuns.{were_run, were_stopped}
use Rattle.schedule_run.proofs.SoundLemmas.{same_some}
use Rattle.world_core.proofs.QuotaLemmas.{spends_not, spends_on}
use Rattle.world_core.specs.Quota.{SpendsQuota}

-- the first looks ended before the last
pub ended_looking : (trees : List DumpedTree) (stop : LookStop) (start now : Seen) → LooksEnded first_names stop start now → LoadEnded (Err (stop_of_look stop)) trees start now
ended_looking trees (look.NotEmpty text) start now ended = ended
ended_looking trees look.Failed start now ended = (refl, ended)
ended_looking trees look.Memory start now ended = out_looking ended

-- a stop behind an event is none of the looks
abbrev IsOfEvents : LoadStop → Type 0
IsOfEvents (NotEmpty text) = ⊥
IsOfEvents (Stopped t) = ⊥
IsOfEvents stop = Unit {0}

of_events : (e : Event) (r : Reply) → IsOfEvents (stop_of e r)
of_events (event.Open session client) (reply.Trouble t) = tt
of_events (event.Commit session) (reply.Commit answer) = tt
of_events event.Settle (reply.NotSettled t) = tt
of_events e r = tt

stopped_so : (stop : LoadStop) (trees : List DumpedTree) (start now : Seen) → IsOfEvents stop → StoppedBehind stop trees start now → LoadEnded (Err stop) trees start now
stopped_so (NotEmpty text) trees start now of behind = absurd of
stopped_so (Stopped t) trees start now of behind = absurd of
stopped_so (Opening t) trees start now of behind = behind
stopped_so (Commit answer) trees start now of behind = behind
stopped_so (Settling t) trees start now of behind = behind
stopped_so Memory trees start now of behind = out_behind behind

ran_out : (stop : LoadStop) (trees : List DumpedTree) (start now : Seen) → stop ≡ Memory → LoadRanOut trees start now → LoadEnded (Err stop) trees start now
ran_out stop trees start now is out = subst (λ (x : LoadStop). LoadEnded (Err x) trees start now) (sym is) out

-- what was run has a number of 64 bits
run_within : (e : Event) (r : Reply) (before after : Seen) (old new : Play) → IsRun e r before after old new → new.handled < 2 ^ 64
run_within e r before after old new (answered never next) = next.within
run_within e r before after old new (answered_run mid play begun next) = next.within

-- ---- how much landed

spends_run : (e : Event) (r : Reply) (before after : Seen) (old new : Play) → IsRun e r before after old new → SpendsQuota before after old.left new.left
spends_run e r before after old new (answered never next) = next.spends
spends_run e r before after old new (answered_run mid play begun next) = spends_on before mid after old.left play.left new.left begun.spends next.spends

spends_each : (before : Seen) (old : Play) (events : List Event) (replies : List Reply) (after : Seen) (new : Play) → RanEach before old events replies after new
    → SpendsQuota before after old.left new.left
spends_each before old _ _ after new ran_none = spends_not old.left before before (λ x told. told)
spends_each before old _ _ after new (ran_more events e replies r mid _ play _ ran none run) =
    spends_on before mid after old.left play.left new.left (spends_each before old events replies mid play ran) (spends_run e r mid after play new run)

-- from an empty cloud on, no more than might be made
few_landed : (before after : Seen) (quota left bound : ℕ) → SpendsQuota before after quota left → quota < bound → (t : CloudState) → before.state ≡ Some t → IsEmptyCloud t
    → (u : CloudState) → after.state ≡ Some u → length u.trace < bound
few_landed before after quota left bound spends within t told empty u seen =
    let landed = spends t told in
    let same : landed.0 ≡ u = same_some landed.0 u (sym landed.1 ∙ seen) in
    let few = landed.2 in
    let none = ap length empty.trace in
    let long = ap (λ (z : CloudState). length z.trace) same in
    omega (arith, few, none, long, within)

-- a play may make no more than its load
pub few_left : (play : Play) (most : ℕ) → play.left ≡ most → most < 2 ^ 27 → play.left < 2 ^ 27
few_left play most is few = omega (arith, is, few)

stopped_by : (trees : List DumpedTree) (stop : LoadStop) (start mid now : Seen) (old : Play) → LookedAtAll first_names start mid → IsFresh true old → old.left < 2 ^ 27
    → StopsAt (load_events trees) stop mid now old → LoadEnded (Err stop) trees start now
stopped_by trees stop start mid now old empty fresh within (stops_behind earlier later e r y play new at went none run ends is) =
    let run_so : WereRun (earlier ++ e ∷ []) (went.replies ++ r ∷ []) mid now new =
    were_run mid old fresh (earlier ++ e ∷ []) (went.replies ++ r ∷ []) now new (ran_more earlier e went.replies r y now play new went.ran none run) in
    stopped_so stop trees start now (subst IsOfEvents (sym is) (of_events e r))
    (record {
      mid = mid;
      empty = empty;
      earlier = earlier;
      event = e;
      later = later;
      at = at;
      replies = went.replies;
      reply = r;
      play = new;
      run = run_so;
      well = went.well;
      ends = ends;
      stops = is;
      calm = λ t told nothing u seen calm.
          is
          ∙ stops_for_memory trees earlier later e went.replies r mid now new at run_so (run_within e r y now play new run) ends t (empty.looked.looked.stays t told) nothing u seen
          (few_landed mid now old.left new.left (2 ^ 27)
          (spends_each mid old (earlier ++ e ∷ []) (went.replies ++ r ∷ []) now new (ran_more earlier e went.replies r y now play new went.ran none run)) within
          t (empty.looked.looked.stays t told) nothing u seen)
          calm;
    })
stopped_by trees stop start mid now old empty fresh within (stops_at earlier later e y play new at went none stops is) =
    ran_out stop trees start now is
    (out_event mid earlier later e went.replies empty at (were_stopped mid old fresh earlier went.replies y play went.ran e now new none stops) went.well)
stopped_by trees stop start mid now old empty fresh within (stops_before earlier later play at went is) =
    ran_out stop trees start now is
    (out_between mid earlier later went.replies play empty at (were_run mid old fresh earlier went.replies now play went.ran) went.well)

-- the looks showed nothing, and a new world ran the events
pub ended_by : (trees : List DumpedTree) (result : Result Loaded LoadStop) (start mid now : Seen) (old new : Play) → LookedAtAll first_names start mid → IsFresh true old → old.left < 2 ^ 27
    → Loads trees result mid now old new → LoadEnded result trees start now
ended_by trees (Ok loaded) start mid now old new empty fresh within went = record {
  mid = mid;
  empty = empty;
  replies = went.replies;
  play = new;
  run = were_run mid old fresh (load_events trees) (went.replies ++ reply.Settled loaded.calls ∷ []) now new went.ran;
  well = went.well;
  records = went.records;
}
ended_by trees (Err stop) start mid now old new empty fresh within stops = stopped_by trees stop start mid now old empty fresh within stops
