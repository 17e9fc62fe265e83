-- What a run of made events writes and leaves.
use Rattle.std.specs.Prelude.{◌≡◌, false, List, [], ◌∷◌, ◌++◌, length, Result, Ok, Err}
use Rattle.cloud_trait.specs.Seen.{Seen}
use Rattle.db_io.specs.Writes.{AddsOne, AddsPart}
use Rattle.event_text.specs.declared.event.Event.{Event}
use Rattle.event_text.specs.declared.event.Event.TheVariants.{Report}
use Rattle.db_io.specs.declared.output.OutputFault.{OutputFault}
use Rattle.db_io.specs.declared.output.OutputFault.TheVariants.{WriteFault, Memory}
use Rattle.reply_text.specs.declared.reply.Reply.{Reply}
use Rattle.replay_meaning.specs.Standing.{Line}
use Rattle.world_core.specs.declared.world.WorldFault.{WorldFault}
use Rattle.schedule_run.specs.Outside.{Effects}
use Rattle.schedule_run.specs.Answered.{events_of}
use Rattle.schedule_run.specs.InPlay.{Play}
use Rattle.schedule_run.specs.Play.{Played, StoppedAt}
use Rattle.schedule_run.specs.Summary.{summary}
use Rattle.schedule_run.specs.Written.{NothingRan}

-- these events were handled from a new world on
pub record Handles (events : List Event) (start now : Seen) (play : Play) : Type 0 where
  pub lines : List Line
  pub asked : events_of lines ≡ events
  pub played : Played false lines start now play

-- memory ran out at one of these events, or before it
pub record StopsAmong (events : List Event) (start now : Seen) : Type 0 where
  pub lines : List Line
  pub event : Event
  pub later : List Event
  pub asked : events ≡ events_of lines ++ event ∷ later
  pub stopped : StoppedAt false event lines start now

-- the first of these events were handled from a new world on, and these are left
pub record HandlesFirst (events left : List Event) (start now : Seen) (play : Play) : Type 0 where
  pub done : List Event
  pub at : events ≡ done ++ left
  pub handles : Handles done start now play

-- these events were handled one behind another from a new world on, or memory ran out at one of them
abbrev pub TakesEach : List Event → Result (Unit {0}) WorldFault → Seen → Seen → Play → Type 0
TakesEach events (Ok done) start now play = Handles events start now play
TakesEach events (Err fault) start now play = StopsAmong events start now

-- events were handled one behind another in a new world, and then a report of tree 1: the reply to the last event, and that to the report
pub record HandlesAll (events : List Event) (settling report : Reply) (start now : Seen) : Type 0 where
  pub lines : List Line
  pub last : Event
  pub asked : events ≡ events_of lines ++ last ∷ []
  pub play : Play
  pub played : Played false ((lines ++ record { event = last; reply = settling } ∷ []) ++ record { event = Report 1; reply = report } ∷ []) start now play

abbrev pub TakesAll : List Event → Result (Reply × Reply) WorldFault → Seen → Seen → Type 0
TakesAll events (Ok replies) start now = HandlesAll events replies.0 replies.1 start now
TakesAll events (Err fault) start now = StopsAmong (events ++ Report 1 ∷ []) start now

-- all were handled, and the summary is written
pub record Summed (events : List Event) (before after : Effects) : Type 0 where
  pub settling : Reply
  pub report : Reply
  pub handled : HandlesAll events settling report before.cloud after.cloud
  pub wrote : AddsOne before.output after.output (summary (length events) settling report)

-- the first part of it is
pub record CutSum (events : List Event) (before after : Effects) : Type 0 where
  pub settling : Reply
  pub report : Reply
  pub handled : HandlesAll events settling report before.cloud after.cloud
  pub wrote : AddsPart before.output after.output (summary (length events) settling report)

-- where memory ran out: before anything, while an event was handled, or while the summary was written
pub data GenRanOut (events : List Event) (before after : Effects) : Type 0 where
  out_before : NothingRan before after → GenRanOut events before after
  out_handling : StopsAmong (events ++ Report 1 ∷ []) before.cloud after.cloud → after.output ≡ before.output → GenRanOut events before after
  out_writing : CutSum events before after → GenRanOut events before after

-- how a run of events ended
abbrev pub GenEnded : List Event → Result (Unit {0}) OutputFault → Effects → Effects → Type 0
GenEnded events (Ok done) before after = Summed events before after
GenEnded events (Err WriteFault) before after = CutSum events before after
GenEnded events (Err Memory) before after = GenRanOut events before after
