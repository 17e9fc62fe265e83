-- What a shell writes and leaves, line by line.
use Rattle.std.specs.Prelude.{ℕ, ◌≡◌, Bool, true, false, if◌then◌else◌, List, [], ◌∷◌, ◌++◌, length, Result, Ok, Err}
use Rattle.cloud_trait.specs.Seen.{Seen}
use Rattle.db_io.specs.Writes.{Written, AddsEach, AddsOne, AddsPart}
use Rattle.event_text.specs.declared.event.Event.{Event}
use Rattle.event_text.specs.declared.event.Event.TheVariants.{Open, Close, Run}
use Rattle.event_text.specs.Event.{IsShellLine}
use Rattle.db_io.specs.Lines.{lines_of}
use Rattle.db_io.specs.declared.output.OutputFault.{OutputFault}
use Rattle.db_io.specs.declared.output.OutputFault.TheVariants as output
use Rattle.reply_text.specs.declared.reply.Reply.{Reply}
use Rattle.reply_text.specs.declared.reply.Reply.TheVariants.{Begun, Opened}
use Rattle.replay_meaning.specs.Standing.{Line}
use Rattle.schedule_run.specs.Outside.{Effects}
use Rattle.schedule_run.specs.Answered.{OpensNoneTwice}
use Rattle.schedule_run.specs.InPlay.{Play}
use Rattle.schedule_run.specs.declared.shell.ShellFault.{ShellFault}
use Rattle.schedule_run.specs.declared.shell.ShellFault.TheVariants.{NotOpened, BadLine, WriteFault, Memory}
use Rattle.schedule_run.specs.Play.{Played, StoppedAt, IsRun, StopsRun}
use Rattle.schedule_run.specs.Written.{AddsFront, NothingRan, reply_line, shown_from, bad_line}

-- ---- the lines of a shell

-- each text is a shell's line that spells the event beside it
abbrev pub AreShellLines : List (List ℕ) → List Event → Type 0
AreShellLines [] [] = Unit {0}
AreShellLines [] (event ∷ events) = ⊥
AreShellLines (text ∷ texts) [] = ⊥
AreShellLines (text ∷ texts) (event ∷ events) = IsShellLine text event × AreShellLines texts events

-- a text is no shell's line
abbrev pub IsBad : List ℕ → Type 0
IsBad text = (event : Event) → IsShellLine text event → ⊥

-- the first of these texts is none
abbrev pub BeginsBad : List (List ℕ) → Type 0
BeginsBad [] = ⊥
BeginsBad (text ∷ texts) = IsBad text

-- a line of the text is none
pub record HasBadShellLine (text : List ℕ) : Type 0 where
  pub earlier : List (List ℕ)
  pub line : List ℕ
  pub later : List (List ℕ)
  pub at : lines_of text ≡ earlier ++ line ∷ later
  pub bad : IsBad line

-- ---- events that are run whole

-- what was handled of an event, and its last reply: the event alone or, where it began an operation, the run of session 1 behind it
pub data IsWhole (event : Event) : List Line → Reply → Type 0 where
  alone : (reply : Reply) → (reply ≡ Begun → ⊥) → IsWhole event (record { event = event; reply = reply } ∷ []) reply
  with_run : (reply : Reply) → IsWhole event (record { event = event; reply = Begun } ∷ record { event = Run 1; reply = reply } ∷ []) reply

-- what was handled of events, each of them whole, and the last reply of each
pub data AreWhole : List Event → List Line → List Reply → Type 0 where
  no_events : AreWhole [] [] []
  more_events : (events : List Event) (event : Event) (lines of_it : List Line) (replies : List Reply) (reply : Reply)
      → AreWhole events lines replies → IsWhole event of_it reply → AreWhole (events ++ event ∷ []) (lines ++ of_it) (replies ++ reply ∷ [])

-- these events were run whole from a new world on, and these are their last replies
pub record WereRun (events : List Event) (replies : List Reply) (start now : Seen) (play : Play) : Type 0 where
  pub lines : List Line
  pub whole : AreWhole events lines replies
  pub count : length replies ≡ length events
  pub played : Played true lines start now play

-- memory ran out at an event behind these lines, or at the run of what it began
pub data StoppedIn (event : Event) (lines : List Line) (start now : Seen) : Type 0 where
  in_event : StoppedAt true event lines start now → StoppedIn event lines start now
  in_run : StoppedAt true (Run 1) (lines ++ record { event = event; reply = Begun } ∷ []) start now → StoppedIn event lines start now

-- these events were run whole, and memory ran out at this one
pub record WereStopped (events : List Event) (replies : List Reply) (event : Event) (start now : Seen) : Type 0 where
  pub lines : List Line
  pub whole : AreWhole events lines replies
  pub stopped : StoppedIn event lines start now

-- ---- how a shell ended

-- a reply says that the session is open
abbrev pub is_opened : Reply → Bool
is_opened (Opened epoch) = true
is_opened reply = false

-- the first reply says so
abbrev pub OpensFirst : List Reply → Type 0
OpensFirst [] = ⊥
OpensFirst (reply ∷ replies) = is_opened reply ≡ true

-- these events were run, the first of them opened the session, and the last replies are written, the first under 0
pub record Showed (events : List Event) (before after : Effects) : Type 0 where
  pub replies : List Reply
  pub play : Play
  pub run : WereRun events replies before.cloud after.cloud play
  pub opened : OpensFirst replies
  pub wrote : AddsEach before.output after.output (shown_from 0 replies)

-- the opening was run and did not open the session, and its reply is written
pub record WasNotOpened (client : ℕ) (before after : Effects) : Type 0 where
  pub reply : Reply
  pub play : Play
  pub run : WereRun (Open 1 client ∷ []) (reply ∷ []) before.cloud after.cloud play
  pub closed : is_opened reply ≡ false
  pub wrote : AddsOne before.output after.output (reply_line 0 reply)

-- these events were run, and behind their replies the number of a bad line is written: that of the line behind theirs
pub record ShowedBadLine (events : List Event) (before after : Effects) : Type 0 where
  pub replies : List Reply
  pub play : Play
  pub run : WereRun events replies before.cloud after.cloud play
  pub opened : OpensFirst replies
  pub wrote : AddsEach before.output after.output (shown_from 0 replies ++ bad_line (length replies) ∷ [])

-- a text was cut short, the last: the opening's reply, that of the last of these lines, that of the closing behind them all, or the refusal of the
-- next line; all before it is written
pub data WasCut (client : ℕ) (events : List Event) (later : List (List ℕ)) (before after : Effects) : Type 0 where
  cut_opening : (reply : Reply) (play : Play) → events ≡ [] → WereRun (Open 1 client ∷ []) (reply ∷ []) before.cloud after.cloud play
      → AddsPart before.output after.output (reply_line 0 reply) → WasCut client events later before after
  cut_line : (replies : List Reply) (reply : Reply) (play : Play) → WereRun (Open 1 client ∷ events) (replies ++ reply ∷ []) before.cloud after.cloud play → OpensFirst replies
      → AddsFront before.output after.output (shown_from 0 replies) (reply_line (length replies) reply) → WasCut client events later before after
  cut_closing : (replies : List Reply) (reply : Reply) (play : Play) → later ≡ []
      → WereRun (Open 1 client ∷ (events ++ Close 1 ∷ [])) (replies ++ reply ∷ []) before.cloud after.cloud play → OpensFirst replies
      → AddsFront before.output after.output (shown_from 0 replies) (reply_line (length replies) reply) → WasCut client events later before after
  cut_refusal : (replies : List Reply) (play : Play) → BeginsBad later → WereRun (Open 1 client ∷ events) replies before.cloud after.cloud play → OpensFirst replies
      → AddsFront before.output after.output (shown_from 0 replies) (bad_line (length replies)) → WasCut client events later before after

-- what a shell runs next, before these lines: the event of the first or, before none, the closing
abbrev pub IsNextOf : List (List ℕ) → Event → Type 0
IsNextOf [] event = event ≡ Close 1
IsNextOf (text ∷ texts) event = IsShellLine text event

-- where memory ran out: before anything, while a text was written, between two lines, at the opening, or at the next event
pub data ShellRanOut (client : ℕ) (events : List Event) (later : List (List ℕ)) (before after : Effects) : Type 0 where
  out_before : NothingRan before after → ShellRanOut client events later before after
  out_writing : WasCut client events later before after → ShellRanOut client events later before after
  out_between : (replies : List Reply) (play : Play) → WereRun (Open 1 client ∷ events) replies before.cloud after.cloud play → OpensFirst replies
      → AddsEach before.output after.output (shown_from 0 replies) → ShellRanOut client events later before after
  out_opening : WereStopped [] [] (Open 1 client) before.cloud after.cloud → after.output ≡ before.output → ShellRanOut client events later before after
  out_next : (replies : List Reply) (event : Event) → IsNextOf later event → WereStopped (Open 1 client ∷ events) replies event before.cloud after.cloud → OpensFirst replies
      → AddsEach before.output after.output (shown_from 0 replies) → ShellRanOut client events later before after

-- how a shell ended behind these lines and before those
abbrev pub ShellEnded : Result (Unit {0}) ShellFault → ℕ → List Event → List (List ℕ) → Effects → Effects → Type 0
ShellEnded (Ok done) client events later before after =
    (later ≡ []) × Showed (Open 1 client ∷ (events ++ Close 1 ∷ [])) before after
ShellEnded (Err NotOpened) client events later before after = WasNotOpened client before after
ShellEnded (Err BadLine) client events later before after =
    BeginsBad later × ShowedBadLine (Open 1 client ∷ events) before after
ShellEnded (Err WriteFault) client events later before after = WasCut client events later before after
ShellEnded (Err Memory) client events later before after = ShellRanOut client events later before after

-- the lines of a text were run up to this end; no two of the rows that they added to the trace of a cloud put open heads that agree in client, epoch and
-- transaction, whatever was in the cloud before
pub record ShellWent (client : ℕ) (text : List ℕ) (ended : Result (Unit {0}) ShellFault) (before after : Effects) : Type 0 where
  pub events : List Event
  pub earlier : List (List ℕ)
  pub later : List (List ℕ)
  pub at : lines_of text ≡ earlier ++ later
  pub spelled : AreShellLines earlier events
  pub so : ShellEnded ended client events later before after
  pub opens_once : OpensNoneTwice before.cloud after.cloud

-- ---- between two lines

-- so many lines of the text stand before the rest, and were run behind the opening
pub record HasRunLines (client : ℕ) (text rest : List ℕ) (n : ℕ) (before : Effects) (after : Effects × Play) : Type 0 where
  pub events : List Event
  pub earlier : List (List ℕ)
  pub at : lines_of text ≡ earlier ++ lines_of rest
  pub spelled : AreShellLines earlier events
  pub count : length events ≡ n
  pub replies : List Reply
  pub run : WereRun (Open 1 client ∷ events) replies before.cloud after.0.cloud after.1
  pub opened : OpensFirst replies
  pub wrote : AddsEach before.output after.0.output (shown_from 0 replies)

-- ---- one event

-- memory ran out while the last reply of an event was written, or at the event
pub data RanOutAt (n : ℕ) (event : Event) (before after : Effects) (old new : Play) : Type 0 where
  out_reply : (reply : Reply) → IsRun event reply before.cloud after.cloud old new → AddsPart before.output after.output (reply_line n reply)
      → RanOutAt n event before after old new
  out_event : StopsRun event before.cloud after.cloud old new → after.output ≡ before.output → RanOutAt n event before after old new

-- an event was run, and its last reply is written under the number, or a part of it; or memory ran out
abbrev pub EventRan : Result Reply ShellFault → ℕ → Event → Effects × Play → Effects × Play → Type 0
EventRan (Ok reply) n event (before, old) (after, new) = IsRun event reply before.cloud after.cloud old new × AddsOne before.output after.output (reply_line n reply)
EventRan (Err NotOpened) n event (before, old) (after, new) = ⊥
EventRan (Err BadLine) n event (before, old) (after, new) = ⊥
EventRan (Err WriteFault) n event (before, old) (after, new) =
    (reply : Reply) × IsRun event reply before.cloud after.cloud old new × AddsPart before.output after.output (reply_line n reply)
EventRan (Err Memory) n event (before, old) (after, new) = RanOutAt n event before after old new

-- the last reply of an event that was run, by how it was written
abbrev pub shown_by : Result (Unit {0}) OutputFault → Reply → Result Reply ShellFault
shown_by (Ok done) reply = Ok reply
shown_by (Err output.WriteFault) reply = Err WriteFault
shown_by (Err output.Memory) reply = Err Memory

-- the end of an event that was run, whatever its last reply
abbrev pub ended : Result Reply ShellFault → Result (Unit {0}) ShellFault
ended (Ok reply) = Ok tt
ended (Err fault) = Err fault

-- the end that the reply to an opening leads to
abbrev pub opened_by : Reply → Result (Unit {0}) ShellFault
opened_by reply = if is_opened reply then Ok tt else Err NotOpened

-- the opening was run, and its reply is written under 0: it ends well exactly where it opened the session
abbrev pub OpeningRan : Result (Unit {0}) ShellFault → ℕ → Effects × Play → Effects × Play → Type 0
OpeningRan (Ok done) client before after =
    (reply : Reply) × (is_opened reply ≡ true) × EventRan (Ok reply) 0 (Open 1 client) before after
OpeningRan (Err NotOpened) client before after =
    (reply : Reply) × (is_opened reply ≡ false) × EventRan (Ok reply) 0 (Open 1 client) before after
OpeningRan (Err BadLine) client before after = ⊥
OpeningRan (Err WriteFault) client before after = EventRan (Err WriteFault) 0 (Open 1 client) before after
OpeningRan (Err Memory) client before after = EventRan (Err Memory) 0 (Open 1 client) before after

-- the closing was run, whatever its last reply, which is written under the number
pub record ClosingRan (result : Result (Unit {0}) ShellFault) (n : ℕ) (before after : Effects) (old new : Play) : Type 0 where
  pub answer : Result Reply ShellFault
  pub ends : result ≡ ended answer
  pub ran : EventRan answer n (Close 1) (before, old) (after, new)

-- what a line did whose text is no shell's line: nothing of it was run, and its refusal is written, or a part of it
abbrev pub LineRefused : Result (Unit {0}) ShellFault → ℕ → Written → Written → Type 0
LineRefused (Ok done) n written now_written = ⊥
LineRefused (Err NotOpened) n written now_written = ⊥
LineRefused (Err BadLine) n written now_written = AddsOne written now_written (bad_line n)
LineRefused (Err WriteFault) n written now_written = AddsPart written now_written (bad_line n)
LineRefused (Err Memory) n written now_written = AddsPart written now_written (bad_line n)

-- what a line did: its event was run, or it is no shell's line, or memory ran out before
pub data LineRan (result : Result (Unit {0}) ShellFault) (n : ℕ) (text : List ℕ) (before after : Effects × Play) : Type 0 where
  event_run : (event : Event) (answer : Result Reply ShellFault) → IsShellLine text event → result ≡ ended answer
      → EventRan answer n event before after → LineRan result n text before after
  refused : IsBad text → after.0.cloud ≡ before.0.cloud → LineRefused result n before.0.output after.0.output → LineRan result n text before after
  unread : result ≡ Err Memory → after.0.cloud ≡ before.0.cloud → after.0.output ≡ before.0.output → LineRan result n text before after
