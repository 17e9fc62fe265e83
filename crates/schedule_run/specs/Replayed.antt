-- What a replay writes and leaves, line by line.
use Rattle.std.specs.Prelude.{ℕ, ◌≡◌, ◌+◌, ◌⊎◌, List, [], ◌∷◌, ◌++◌, length, Some, Result, Ok, Err, false}
use Rattle.cloud_trait.specs.State.{CloudState, IsEmptyCloud}
use Rattle.cloud_trait.specs.Seen.{Seen}
use Rattle.cloud_trait.specs.Traced.{IsTraced}
use Rattle.db_io.specs.Writes.{Written, AddsEach, AddsOne, AddsPart}
use Rattle.event_text.specs.declared.event.Event.{Event}
use Rattle.event_text.specs.Event.{IsEvent}
use Rattle.db_io.specs.Lines.{lines_of}
use Rattle.reply_text.specs.declared.reply.Reply.{Reply}
use Rattle.replay_meaning.specs.Standing.{Line}
use Rattle.world_core.specs.World.{World}
use Rattle.world_core.specs.declared.world.WorldFault.{WorldFault}
use Rattle.world_core.specs.declared.world.WorldFault.TheVariants as world
use Rattle.world_core.specs.Handled.{Handled}
use Rattle.world_core.specs.Stands.{WorldStands, StandsOn}
use Rattle.world_core.specs.Span.{Span, span_of}
use Rattle.schedule_run.specs.Outside.{Effects}
use Rattle.schedule_run.specs.declared.replay.LineFault.{LineFault}
use Rattle.schedule_run.specs.declared.replay.LineFault.TheVariants.{BadLine, WriteFault, Memory}
use Rattle.schedule_run.specs.Answered.{WentOn, AreAnswered, IsUnanswered, ReportsAreRight, KeepsTheTheorem}
use Rattle.schedule_run.specs.Written.{AddsFront, NothingRan, reply_line, bad_line, replies}

-- each text spells the event of its line
abbrev pub AreSpelled : List (List ℕ) → List Line → Type 0
AreSpelled [] [] = Unit {0}
AreSpelled [] (line ∷ lines) = ⊥
AreSpelled (text ∷ texts) [] = ⊥
AreSpelled (text ∷ texts) (line ∷ lines) = IsEvent text line.event × AreSpelled texts lines

-- ---- how the lines ended

-- the first of these texts spells this event
abbrev pub BeginsEvent : List (List ℕ) → Event → Type 0
BeginsEvent [] event = ⊥
BeginsEvent (text ∷ texts) event = IsEvent text event

-- the first of these texts is in no grammar
abbrev pub BeginsBad : List (List ℕ) → Type 0
BeginsBad [] = ⊥
BeginsBad (text ∷ texts) = (event : Event) → IsEvent text event → ⊥

-- a text was cut short: the reply to the last line, or what is written of the next text, which is in no grammar; all before it is written
pub data WroteFront (lines : List Line) (later : List (List ℕ)) (written now_written : Written) : Type 0 where
  reply_cut : (earlier : List Line) (line : Line) → lines ≡ earlier ++ line ∷ []
      → AddsFront written now_written (replies earlier) (reply_line (length lines) line.reply) → WroteFront lines later written now_written
  refusal_cut : BeginsBad later → AddsFront written now_written (replies lines) (bad_line (length lines + 1)) → WroteFront lines later written now_written

-- the lines were handled and their replies are written, and the next one was handled, has no reply by this fault, and wrote nothing
pub record EndedBy (fault : WorldFault) (lines : List Line) (later : List (List ℕ)) (before after : Effects) : Type 0 where
  pub event : Event
  pub spelled : BeginsEvent later event
  pub handled : IsUnanswered false lines event fault before.cloud after.cloud
  pub wrote : AddsEach before.output after.output (replies lines)

-- where memory ran out: before the next line did anything, while a text was written, or while the next line was handled
pub data RanOut (lines : List Line) (later : List (List ℕ)) (before after : Effects) : Type 0 where
  between : AreAnswered false lines before.cloud after.cloud → AddsEach before.output after.output (replies lines) → RanOut lines later before after
  writing : AreAnswered false lines before.cloud after.cloud → WroteFront lines later before.output after.output → RanOut lines later before after
  handling : EndedBy world.Memory lines later before after → RanOut lines later before after

-- how these lines ended, before these texts
abbrev pub Ended : Result (Unit {0}) LineFault → List Line → List (List ℕ) → Effects → Effects → Type 0
Ended (Ok done) lines later before after =
    (later ≡ []) × AreAnswered false lines before.cloud after.cloud × AddsEach before.output after.output (replies lines)
Ended (Err BadLine) lines later before after =
    BeginsBad later × AreAnswered false lines before.cloud after.cloud × AddsEach before.output after.output (replies lines ++ bad_line (length lines + 1) ∷ [])
Ended (Err WriteFault) lines later before after = AreAnswered false lines before.cloud after.cloud × WroteFront lines later before.output after.output
Ended (Err Memory) lines later before after = RanOut lines later before after

-- a text was handled line by line up to this end: the first lines of it spell the lines that were handled
pub record WentThrough (text : List ℕ) (ended : Result (Unit {0}) LineFault) (before after : Effects) : Type 0 where
  pub lines : List Line
  pub earlier : List (List ℕ)
  pub later : List (List ℕ)
  pub at : lines_of text ≡ earlier ++ later
  pub spelled : AreSpelled earlier lines
  pub so : Ended ended lines later before after
  pub theorem : KeepsTheTheorem lines before.cloud after.cloud

-- ---- between two lines

-- these texts were handled line by line from a world on: their replies are written, and over a cloud that was empty all stands and is right
pub record Handles (texts : List (List ℕ)) (before after : Effects) (first world : World) : Type 0 where
  pub lines : List Line
  pub spelled : AreSpelled texts lines
  pub wrote : AddsEach before.output after.output (replies lines)
  pub went : WentOn before.cloud first lines after.cloud world
  pub stands : (t : CloudState) → before.cloud.state ≡ Some t → IsEmptyCloud t
      → (u : CloudState) × (after.cloud.state ≡ Some u) × WorldStands lines world u × ReportsAreRight lines u × IsTraced u

-- so many lines of the text stand before the rest, and were handled
pub record HasHandledLines (text rest : List ℕ) (n : ℕ) (before after : Effects × World) : Type 0 where
  pub earlier : List (List ℕ)
  pub at : lines_of text ≡ earlier ++ lines_of rest
  pub count : length earlier ≡ n
  pub handles : Handles earlier before.0 after.0 before.1 after.1

-- ---- one line

-- an event was handled and has this reply, and what stood stands with it
pub record IsAnswered (n : ℕ) (event : Event) (span : Span) (reply : Reply) : Type 0 where
  pub handled : Handled n event span (Ok reply)
  pub stands : StandsOn n event span (Ok reply)

-- what the event of a line did: its reply is written, or a part of it, or there is none
abbrev pub LineHandled : Result (Unit {0}) LineFault → ℕ → Event → Effects × World → Effects × World → Type 0
LineHandled (Ok done) n event (before, old) (after, new) =
    (reply : Reply) × IsAnswered n event (span_of before.cloud after.cloud old new) reply × AddsOne before.output after.output (reply_line n reply)
LineHandled (Err BadLine) n event (before, old) (after, new) = ⊥
LineHandled (Err WriteFault) n event (before, old) (after, new) =
    (reply : Reply) × IsAnswered n event (span_of before.cloud after.cloud old new) reply × AddsPart before.output after.output (reply_line n reply)
LineHandled (Err Memory) n event (before, old) (after, new) =
    ((reply : Reply) × IsAnswered n event (span_of before.cloud after.cloud old new) reply × AddsPart before.output after.output (reply_line n reply))
    ⊎ (Handled n event (span_of before.cloud after.cloud old new) (Err world.Memory) × (after.output ≡ before.output))

-- what a line did whose text is in no grammar: nothing of it was handled, and its refusal is written, or a part of it
abbrev pub LineRefused : Result (Unit {0}) LineFault → ℕ → Written → Written → Type 0
LineRefused (Err BadLine) n written now_written = AddsOne written now_written (bad_line n)
LineRefused (Err WriteFault) n written now_written = AddsPart written now_written (bad_line n)
LineRefused (Err Memory) n written now_written = AddsPart written now_written (bad_line n)
LineRefused (Ok done) n written now_written = ⊥

-- what a line did: its event was handled, or it is in no grammar, or memory ran out before
pub data LineWent (result : Result (Unit {0}) LineFault) (n : ℕ) (text : List ℕ) (before after : Effects × World) : Type 0 where
  event_handled : (event : Event) → IsEvent text event → LineHandled result n event before after → LineWent result n text before after
  refused : ((event : Event) → IsEvent text event → ⊥) → after.0.cloud ≡ before.0.cloud → LineRefused result n before.0.output after.0.output → LineWent result n text before after
  unread : result ≡ Err Memory → after.0.cloud ≡ before.0.cloud → after.0.output ≡ before.0.output → LineWent result n text before after

-- ---- a whole text

-- a line of the text spells no event
pub record HasBadLine (text : List ℕ) : Type 0 where
  pub earlier : List (List ℕ)
  pub line : List ℕ
  pub later : List (List ℕ)
  pub at : lines_of text ≡ earlier ++ line ∷ later
  pub bad : (event : Event) → IsEvent line event → ⊥

-- a text was handled line by line up to this end; or there was no memory for a world, and nothing ran
abbrev pub ReplayWent : Result (Unit {0}) LineFault → List ℕ → Effects → Effects → Type 0
ReplayWent (Err Memory) text before after = NothingRan before after ⊎ WentThrough text (Err Memory) before after
ReplayWent ended text before after = WentThrough text ended before after
