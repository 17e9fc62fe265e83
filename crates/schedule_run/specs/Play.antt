-- A world that handles one event behind another, from a new one on.
use Rattle.std.specs.Prelude.{◌≡◌, ◌+◌, ◌<◌, ◌^◌, Bool, true, List, length, Some, Result, Ok, Err}
use Rattle.cloud_trait.specs.State.{CloudState, IsEmptyCloud}
use Rattle.cloud_trait.specs.Seen.{Seen}
use Rattle.cloud_trait.specs.Traced.{IsTraced}
use Rattle.event_text.specs.declared.event.Event.{Event}
use Rattle.event_text.specs.declared.event.Event.TheVariants.{Run}
use Rattle.reply_text.specs.declared.reply.Reply.{Reply}
use Rattle.reply_text.specs.declared.reply.Reply.TheVariants.{Begun}
use Rattle.replay_meaning.specs.Standing.{Line}
use Rattle.world_core.specs.World.{World}
use Rattle.world_core.specs.declared.world.WorldFault.{WorldFault}
use Rattle.world_core.specs.declared.world.WorldFault.TheVariants as world
use Rattle.world_core.specs.Handled.{Handled}
use Rattle.world_core.specs.Added.{WorldAdds}
use Rattle.world_core.specs.Opened.{OpenEachOnce}
use Rattle.world_core.specs.Quota.{SpendsQuota}
use Rattle.world_core.specs.Stands.{WorldStands, StandsOn, Grows}
use Rattle.world_core.specs.Span.{span_of}
use Rattle.schedule_run.specs.InPlay.{Play}
use Rattle.schedule_run.specs.Answered.{IsNew, AskNoReport, WentOn, AreSettled, IsOfRuns, LeavesOne, IsUnanswered, events_of, OpensNoneTwice, ReportsAreRight, KeepsTheTheorem, AreExplained, AreMetered, AreCaused, AreTold, ReportsCome}

-- a new world that has handled nothing; blind where it looks at no put
pub record IsFresh (blind : Bool) (play : Play) : Type 0 where
  pub world : IsNew blind play.world
  pub none : play.handled ≡ 0

-- ---- the next event

-- it was handled under the next number, of 64 bits, and has this reply, what stood stands with it, and no more landed than was left to make
pub record IsNext (event : Event) (reply : Reply) (before after : Seen) (old new : Play) : Type 0 where
  pub count : new.handled ≡ old.handled + 1
  pub within : new.handled < 2 ^ 64
  pub handled : Handled new.handled event (span_of before after old.world new.world) (Ok reply)
  pub stands : StandsOn new.handled event (span_of before after old.world new.world) (Ok reply)
  pub grows : Grows new.handled before after
  pub spends : SpendsQuota before after old.left new.left

-- memory ran out before it did anything, or while it was handled
pub data RanOut (event : Event) (before after : Seen) (old new : Play) : Type 0 where
  uncounted : after ≡ before → RanOut event before after old new
  no_answer : Handled (old.handled + 1) event (span_of before after old.world new.world) (Err world.Memory) → Grows (old.handled + 1) before after
      → RanOut event before after old new

abbrev pub Takes : Event → Result Reply WorldFault → Seen → Seen → Play → Play → Type 0
Takes event (Ok reply) before after old new = IsNext event reply before after old new
Takes event (Err fault) before after old new = RanOut event before after old new

-- ---- an event that is run whole

-- it was handled and, where it began an operation, the run of session 1: this is the last reply
pub data IsRun (event : Event) (reply : Reply) (before after : Seen) (old new : Play) : Type 0 where
  answered : (reply ≡ Begun → ⊥) → IsNext event reply before after old new → IsRun event reply before after old new
  answered_run : (mid : Seen) (play : Play) → IsNext event Begun before mid old play → IsNext (Run 1) reply mid after play new
      → IsRun event reply before after old new

-- memory ran out at it, or at the run
pub data StopsRun (event : Event) (before after : Seen) (old new : Play) : Type 0 where
  stops_event : RanOut event before after old new → StopsRun event before after old new
  stops_run : (mid : Seen) (play : Play) → IsNext event Begun before mid old play → RanOut (Run 1) mid after play new
      → StopsRun event before after old new

abbrev pub RunsWhole : Event → Result Reply WorldFault → Seen → Seen → Play → Play → Type 0
RunsWhole event (Ok reply) before after old new = IsRun event reply before after old new
RunsWhole event (Err fault) before after old new = StopsRun event before after old new

-- ---- lines from a new world on

-- these lines were handled from a new world on, each step that they made has its cause, and what each reply says is so; over any cloud that tells its state each row that they
-- added is of a kind that its session's standing by them allows, and where they open no client twice no transaction was opened twice; over one that
-- earlier runs left each settling among them explains itself and another one is left; and over one that was empty all stands for them, they keep the
-- theorem, each explains itself, reports come, and a writer leaves few messages; a blind one is asked for none
pub record Played (blind : Bool) (lines : List Line) (start now : Seen) (play : Play) : Type 0 where
  pub count : play.handled ≡ length lines
  pub first : World
  pub fresh : IsNew blind first
  pub unasked : blind ≡ true → AskNoReport lines
  pub went : WentOn start first lines now play.world
  pub kinds : (t : CloudState) → start.state ≡ Some t → WorldAdds lines t play.world now
  pub once : OpenEachOnce (events_of lines) → OpensNoneTwice start now
  pub caused : AreCaused start first lines now play.world went
  pub told : AreTold start first lines now play.world went
  pub settled : (t : CloudState) → start.state ≡ Some t → IsOfRuns t → AreSettled start first lines now play.world went
  pub left : LeavesOne start now
  pub stands : (t : CloudState) → start.state ≡ Some t → IsEmptyCloud t
      → (u : CloudState) × (now.state ≡ Some u) × WorldStands lines play.world u × ReportsAreRight lines u × IsTraced u
  pub theorem : KeepsTheTheorem lines start now
  pub explained : (t : CloudState) → start.state ≡ Some t → IsEmptyCloud t → AreExplained start first lines now play.world went
  pub metered : (t : CloudState) → start.state ≡ Some t → IsEmptyCloud t → AreMetered start first lines now play.world went
  pub reports : (t : CloudState) → start.state ≡ Some t → IsEmptyCloud t → ReportsCome lines start now

-- behind these lines memory ran out: before this event did anything, or while it was handled. What was handled keeps the theorem
pub data StoppedAt (blind : Bool) (event : Event) (lines : List Line) (start now : Seen) : Type 0 where
  stopped_before : (play : Play) → Played blind lines start now play → StoppedAt blind event lines start now
  stopped_within : IsUnanswered blind lines event world.Memory start now → KeepsTheTheorem lines start now → StoppedAt blind event lines start now
