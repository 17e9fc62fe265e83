-- What a load runs and leaves, event by event.
use Rattle.std.specs.Prelude.{ℕ, ◌≡◌, Bool, true, false, if◌then◌else◌, List, [], ◌∷◌, ◌++◌, length, Some, Result, Ok, Err}
use Rattle.cloud_trait.specs.Seen.{Seen}
use Rattle.cloud_trait.specs.State.{CloudState, IsEmptyCloud}
use Rattle.db_base.specs.declared.trouble.CommitAnswer.TheVariants.{Committed}
use Rattle.db_base.specs.declared.trouble.Trouble.TheVariants as trouble
use Rattle.dump_text.specs.declared.dump.DumpedTree.{DumpedTree}
use Rattle.event_text.specs.declared.event.Event.{Event}
use Rattle.event_text.specs.declared.event.Event.TheVariants as event
use Rattle.load_plan.specs.Events.{load_events, records_of}
use Rattle.load_plan.specs.FirstLook.{first_names, LookedAtAll, LooksEnded}
use Rattle.load_plan.specs.declared.first_look.LookStop.{LookStop}
use Rattle.load_plan.specs.declared.first_look.LookStop.TheVariants as look
use Rattle.reply_text.specs.declared.reply.Reply.{Reply}
use Rattle.reply_text.specs.declared.reply.Reply.TheVariants as reply
use Rattle.schedule_run.specs.Answered.{IsNoReport}
use Rattle.schedule_run.specs.InPlay.{Play}
use Rattle.schedule_run.specs.LoadCalm.{AreCalm}
use Rattle.schedule_run.specs.Play.{IsRun, StopsRun}
use Rattle.schedule_run.specs.Settling.{is_settled}
use Rattle.schedule_run.specs.Shell.{WereRun, WereStopped, is_opened}
use Rattle.schedule_run.specs.declared.load.LoadStop.{LoadStop}
use Rattle.schedule_run.specs.declared.load.LoadStop.TheVariants.{NotEmpty, Stopped, Opening, Commit, Settling, Memory}
use Rattle.schedule_run.specs.declared.load.Loaded.{Loaded}

-- ---- by which replies a load goes on

abbrev pub is_noted : Reply → Bool
is_noted reply.Noted = true
is_noted r = false

abbrev pub is_committed : Reply → Bool
is_committed (reply.Commit (Committed txn)) = true
is_committed r = false

-- it goes on behind this reply: it needs the session open, each insert noted, each commit committed, and all settled; whatever a renewal, a
-- checkpoint and the closing answer, it goes on
abbrev pub goes_on : Event → Reply → Bool
goes_on (event.Open session client) r = is_opened r
goes_on (event.Insert session tree key payload attr) r = is_noted r
goes_on (event.Commit session) r = is_committed r
goes_on event.Settle r = is_settled r
goes_on e r = true

abbrev pub GoOn : List Event → List Reply → Type 0
GoOn [] [] = Unit {0}
GoOn [] (r ∷ replies) = ⊥
GoOn (e ∷ events) [] = ⊥
GoOn (e ∷ events) (r ∷ replies) = (goes_on e r ≡ true) × GoOn events replies

-- why it stops behind a reply by which it does not go on. A reply that is none of its event's, as that an insert is refused, is told as want of
-- memory: an open session gives none to the records of a dump
abbrev pub stop_of : Event → Reply → LoadStop
stop_of (event.Open session client) (reply.Trouble t) = Opening t
stop_of (event.Commit session) (reply.Commit answer) = Commit answer
stop_of event.Settle (reply.NotSettled t) = Settling t
stop_of e r = Memory

-- ---- how a load ended

-- none of the first objects was there; all events were run and it went on behind each, the last of them the settling, which made so many calls
pub record LoadDone (loaded : Loaded) (trees : List DumpedTree) (start now : Seen) : Type 0 where
  pub mid : Seen
  pub empty : LookedAtAll first_names start mid
  pub replies : List Reply
  pub play : Play
  pub run : WereRun (load_events trees) (replies ++ reply.Settled loaded.calls ∷ []) mid now play
  pub well : GoOn (load_events trees) (replies ++ reply.Settled loaded.calls ∷ [])
  pub records : loaded.records ≡ length (records_of trees)

-- none of the first objects was there; the events before this one were run and it went on behind each, and so was this one, behind whose reply it
-- does not go on; over a cloud that was empty and told its state, where each step was calm, that is for want of memory
pub record StoppedBehind (stop : LoadStop) (trees : List DumpedTree) (start now : Seen) : Type 0 where
  pub mid : Seen
  pub empty : LookedAtAll first_names start mid
  pub earlier : List Event
  pub event : Event
  pub later : List Event
  pub at : load_events trees ≡ earlier ++ event ∷ later
  pub replies : List Reply
  pub reply : Reply
  pub play : Play
  pub run : WereRun (earlier ++ event ∷ []) (replies ++ reply ∷ []) mid now play
  pub well : GoOn earlier replies
  pub ends : goes_on event reply ≡ false
  pub stops : stop ≡ stop_of event reply
  pub calm : (t : CloudState) → start.state ≡ Some t → IsEmptyCloud t → (u : CloudState) → now.state ≡ Some u
      → AreCalm mid run.played.first run.lines now play.world run.played.went → stop ≡ Memory

-- where memory ran out: at the first looks, before anything was run, behind these events, at the next one, or behind a reply that is none of its
-- event's
pub data LoadRanOut (trees : List DumpedTree) (start now : Seen) : Type 0 where
  out_looking : LooksEnded first_names look.Memory start now → LoadRanOut trees start now
  out_before : LookedAtAll first_names start now → LoadRanOut trees start now
  out_between : (mid : Seen) (earlier later : List Event) (replies : List Reply) (play : Play) → LookedAtAll first_names start mid
      → load_events trees ≡ earlier ++ later → WereRun earlier replies mid now play → GoOn earlier replies → LoadRanOut trees start now
  out_event : (mid : Seen) (earlier later : List Event) (event : Event) (replies : List Reply) → LookedAtAll first_names start mid
      → load_events trees ≡ earlier ++ event ∷ later → WereStopped earlier replies event mid now → GoOn earlier replies → LoadRanOut trees start now
  out_behind : StoppedBehind Memory trees start now → LoadRanOut trees start now

-- where it is refused for an object or a look that failed, nothing was run
abbrev pub LoadEnded : Result Loaded LoadStop → List DumpedTree → Seen → Seen → Type 0
LoadEnded (Ok loaded) trees start now = LoadDone loaded trees start now
LoadEnded (Err (NotEmpty text)) trees start now = LooksEnded first_names (look.NotEmpty text) start now
LoadEnded (Err (Stopped t)) trees start now = (t ≡ trouble.Failed) × LooksEnded first_names look.Failed start now
LoadEnded (Err (Opening t)) trees start now = StoppedBehind (Opening t) trees start now
LoadEnded (Err (Commit answer)) trees start now = StoppedBehind (Commit answer) trees start now
LoadEnded (Err (Settling t)) trees start now = StoppedBehind (Settling t) trees start now
LoadEnded (Err Memory) trees start now = LoadRanOut trees start now

-- ---- events in the course of a load

-- these events, which ask for no report, were run whole, one behind another, and these are their last replies
pub data RanEach (before : Seen) (old : Play) : List Event → List Reply → Seen → Play → Type 0 where
  ran_none : RanEach before old [] [] before old
  ran_more : (events : List Event) (e : Event) (replies : List Reply) (r : Reply) (mid after : Seen) (play new : Play)
      → RanEach before old events replies mid play → IsNoReport e → IsRun e r mid after play new
      → RanEach before old (events ++ e ∷ []) (replies ++ r ∷ []) after new

-- they were run, and the load went on behind each
pub record WentThrough (events : List Event) (before after : Seen) (old new : Play) : Type 0 where
  pub replies : List Reply
  pub ran : RanEach before old events replies after new
  pub well : GoOn events replies

-- the load stopped at one of these events: behind its reply, for want of memory at it, or for want of memory before it
pub data StopsAt (events : List Event) (stop : LoadStop) (before after : Seen) (old : Play) : Type 0 where
  stops_behind : (earlier later : List Event) (e : Event) (r : Reply) (mid : Seen) (play new : Play) → events ≡ earlier ++ e ∷ later
      → WentThrough earlier before mid old play → IsNoReport e → IsRun e r mid after play new → goes_on e r ≡ false → stop ≡ stop_of e r
      → StopsAt events stop before after old
  stops_at : (earlier later : List Event) (e : Event) (mid : Seen) (play new : Play) → events ≡ earlier ++ e ∷ later
      → WentThrough earlier before mid old play → IsNoReport e → StopsRun e mid after play new → stop ≡ Memory → StopsAt events stop before after old
  stops_before : (earlier later : List Event) (play : Play) → events ≡ earlier ++ later → WentThrough earlier before after old play → stop ≡ Memory
      → StopsAt events stop before after old

-- the load went through these events, or stopped at one of them
abbrev pub GoesThrough : List Event → Result (Unit {0}) LoadStop → Seen → Seen → Play → Play → Type 0
GoesThrough events (Ok done) before after old new = WentThrough events before after old new
GoesThrough events (Err stop) before after old new = StopsAt events stop before after old

-- of these events some were gone through, and these are left
pub record IsAmong (events left : List Event) (before after : Seen) (old new : Play) : Type 0 where
  pub done : List Event
  pub at : events ≡ done ++ left
  pub went : WentThrough done before after old new

-- whatever is replied to it, the load goes on
pub record IsPassedOver (e : Event) : Type 0 where
  pub goes : (r : Reply) → goes_on e r ≡ true
  pub unasked : IsNoReport e

-- an event was run, and this is its last reply; or memory ran out at it
abbrev pub Runs : Event → Result Reply LoadStop → Seen → Seen → Play → Play → Type 0
Runs e (Ok r) before after old new = IsRun e r before after old new
Runs e (Err stop) before after old new = StopsRun e before after old new × (stop ≡ Memory)

-- the end that a reply leads to
abbrev pub answer_of : Event → Reply → Result (Unit {0}) LoadStop
answer_of e r = if goes_on e r then Ok tt else Err (stop_of e r)

-- the end that the reply to a settling leads to
abbrev pub calls_of : Reply → Result ℕ LoadStop
calls_of (reply.Settled calls) = Ok calls
calls_of (reply.NotSettled t) = Err (Settling t)
calls_of r = Err Memory

-- the settling was done, and made so many calls; or the load stopped at it
abbrev pub Settles : Result ℕ LoadStop → Seen → Seen → Play → Play → Type 0
Settles (Ok calls) before after old new = IsRun event.Settle (reply.Settled calls) before after old new
Settles (Err stop) before after old new = StopsAt (event.Settle ∷ []) stop before after old

-- all events of a dump were run, the last of them the settling
pub record WentThroughAll (trees : List DumpedTree) (loaded : Loaded) (before after : Seen) (old new : Play) : Type 0 where
  pub replies : List Reply
  pub ran : RanEach before old (load_events trees) (replies ++ reply.Settled loaded.calls ∷ []) after new
  pub well : GoOn (load_events trees) (replies ++ reply.Settled loaded.calls ∷ [])
  pub records : loaded.records ≡ length (records_of trees)

abbrev pub Loads : List DumpedTree → Result Loaded LoadStop → Seen → Seen → Play → Play → Type 0
Loads trees (Ok loaded) before after old new = WentThroughAll trees loaded before after old new
Loads trees (Err stop) before after old new = StopsAt (load_events trees) stop before after old

-- the stop that an end of the first looks leads to
abbrev pub stop_of_look : LookStop → LoadStop
stop_of_look (look.NotEmpty text) = NotEmpty text
stop_of_look look.Failed = Stopped trouble.Failed
stop_of_look look.Memory = Memory
