-- Lines that a world handles, one behind another.
use Rattle.std.specs.Prelude.{ℕ, ◌≡◌, ◌+◌, ◌≤◌, ◌⊎◌, Bool, List, [], ◌∷◌, ◌++◌, map, length, replicate, take, slice_get, Some, Ok, Err}
use Rattle.client_work.specs.Session.{closed_session}
use Rattle.cloud_facts.specs.Words.{IsTree, Entry, CloudState, Seen}
use Rattle.cloud_trait.specs.State.{IsEmptyCloud}
use Rattle.cloud_trait.specs.Traced.{IsTraced}
use Rattle.cloud_trait.specs.Upto.{upto}
use Rattle.event_text.specs.declared.event.Event.{Event}
use Rattle.event_text.specs.declared.event.Event.TheVariants as event
use Rattle.reply_text.specs.declared.reply.Reply.{Reply}
use Rattle.reply_text.specs.declared.reply.Reply.TheVariants as reply
use Rattle.replay_meaning.specs.Committed.{committed}
use Rattle.replay_meaning.specs.Standing.{Line, session_of, standing}
use Rattle.replay_meaning.specs.Kinds.{KeepsKinds}
use Rattle.replay_meaning.specs.Right.{ReportIsRight}
use Rattle.report_types.specs.declared.report.Report.{Report}
use Rattle.session_facts.specs.Lines.Acknowledged.{IsKeptReply, IsLandedLine}
use Rattle.session_facts.specs.Rows.Added.{AddsTo}
use Rattle.session_facts.specs.Lines.Facts.{session_at, WasLeft}
use Rattle.session_facts.specs.Lines.LeftNone.{IsLeftReply}
use Rattle.session_facts.specs.Rows.Opened.{AddsNoneTwice}
use Rattle.session_facts.specs.Sessions.Untroubled.{IsUntroubled}
use Rattle.session_notes.specs.Notebook.{blank}
use Rattle.world_core.specs.World.{World, all_sessions}
use Rattle.world_core.specs.declared.world.WorldFault.{WorldFault}
use Rattle.world_core.specs.Added.{WorldAdds}
use Rattle.world_core.specs.Alone.{LeavesAlone, StepIsUndisturbed}
use Rattle.world_core.specs.Bounded.{AnswersSoon}
use Rattle.world_core.specs.Caused.{LineHasCauses}
use Rattle.world_core.specs.Calm.{StepIsCalm, RepliesWell, hand_at, work_at}
use Rattle.world_core.specs.EachStep.{EachStep}
use Rattle.world_core.specs.Explained.{StepExplains}
use Rattle.world_core.specs.Handled.{Handled}
use Rattle.world_core.specs.LeftShort.{LeavesShort}
use Rattle.world_core.specs.Metered.{LeavesFewAt, StepGoesThrough}
use Rattle.world_core.specs.Named.{NamesAt}
use Rattle.world_core.specs.Opened.{OpenEachOnce}
use Rattle.world_core.specs.Passed.{AskedPassed}
use Rattle.world_core.specs.Shown.{StepShows}
use Rattle.world_core.specs.ShownByLines.{StepShowsBy}
use Rattle.world_core.specs.Settled.{SettledLeaves, AnswersSettled, NoLockHeld, StepGoesWell}
use Rattle.world_core.specs.Sound.{IsSoundFor}
use Rattle.world_core.specs.Spared.{StepSpendsNone, unpassed}
use Rattle.world_core.specs.Stands.{LeftIsRight}
use Rattle.world_core.specs.Tells.{Tells, TellsBy}
use Rattle.world_core.specs.UnsentPages.{LeavesUnsent}
use Rattle.world_core.specs.Writers.{stage_of}
use Rattle.world_core.specs.Span.{Span, span_of}

-- a world whose sessions are closed, and that saw nothing; blind where it looks at no put
pub record IsNew (blind : Bool) (world : World) : Type 0 where
  pub sessions : world.sessions ≡ replicate all_sessions closed_session
  pub audit : world.audit ≡ record { committed = []; order = [] }
  pub sees : world.blind ≡ blind
  pub notes : world.notes ≡ replicate all_sessions blank

-- these lines were handled one behind another: each did what its event asks for, and its reply is the reply to that
pub data WentOn (before : Seen) (old : World) : List Line → Seen → World → Type 0 where
  start : WentOn before old [] before old
  further : (lines : List Line) (line : Line) (mid after : Seen) (world new : World)
      → WentOn before old lines mid world → Handled (length lines + 1) line.event (span_of mid after world new) (Ok line.reply)
      → WentOn before old (lines ++ line ∷ []) after new

-- a settling that came to its end leaves nothing, where in no step of it a message was withheld
abbrev pub LeavesSo : (n : ℕ) (event : Event) (span : Span) (r : Reply) → Handled n event span (Ok r) → Type 0
LeavesSo n event.Settle span (reply.Settled calls) handled = SettledLeaves n calls span handled
LeavesSo n event span r handled = Unit {0}

-- where no lock was held before it and every step of it went well, a settling came to its end so, within the bound
abbrev pub EndsSo : CloudState → (n : ℕ) (event : Event) (span : Span) (r : Reply) → Handled n event span (Ok r) → Type 0
EndsSo t n event.Settle span r handled = NoLockHeld t → EachStep StepGoesWell n event.Settle span (Ok r) handled → AnswersSettled t span.after r
EndsSo t n event span r handled = Unit {0}

-- where the reply to a line says that a commit committed, each change on which its session stood by the lines before it is among the entries
abbrev pub IsKeptLine : List Entry → List Line → Line → Type 0
IsKeptLine entries before line = IsKeptReply entries (standing before (session_of line.event)).client (standing before (session_of line.event)).posture line.reply

-- a line that was handled explains the steps that it made; where its session was untroubled and each of these was calm, the session is untroubled
-- behind it, and the line is answered well, a work passes none over but for a spent counter or its page, and no page to whose queue a message was ever sent is found
-- absent, or no leaf; the calls of a checkpoint are few up to it, and that of a tree names its new pieces at its end; a settling
-- leaves nothing and comes to its end so;
-- a commit that it answers as committed is among what was committed, and landed by its own session since it began, and of one that it answers as not committed
-- nothing is among it; the two numbers of a report count what is left then; a read, a scan and a look-up show what their own calls served, by what the lines say
-- of the client; and what its reply says of the end of an operation is of the one that they say
pub record IsExplained (lines : List Line) (line : Line) (span : Span) (handled : Handled (length lines + 1) line.event span (Ok line.reply)) : Type 0 where
  pub explains : EachStep StepExplains (length lines + 1) line.event span (Ok line.reply) handled
  pub calm : EachStep StepIsCalm (length lines + 1) line.event span (Ok line.reply) handled → (t u : CloudState)
      → span.before.state ≡ Some t → span.after.state ≡ Some u → IsUntroubled t (work_at span.old (session_of line.event))
      → IsUntroubled u (work_at span.new (session_of line.event)) × RepliesWell u line.event (standing lines (session_of line.event)).posture line.reply
      × LeavesUnsent line.event (standing lines (session_of line.event)).posture (hand_at t span.old (session_of line.event)) (hand_at u span.new (session_of line.event)) line.reply
  pub passed : EachStep StepIsCalm (length lines + 1) line.event span (Ok line.reply) handled
      → AskedPassed (length lines + 1) handled.asked span (Ok line.reply) handled.answers
  pub bounded : AnswersSoon lines (length lines + 1) handled.asked span (Ok line.reply) handled.answers
  pub names : NamesAt (length lines + 1) handled.asked span (Ok line.reply) handled.answers
  pub leaves : LeavesSo (length lines + 1) line.event span line.reply handled
  pub ends : (t : CloudState) → span.before.state ≡ Some t → EndsSo t (length lines + 1) line.event span line.reply handled
  pub kept : (u : CloudState) → span.after.state ≡ Some u → IsKeptLine (committed (lines ++ line ∷ []) u) lines line
  pub landed : (u : CloudState) → span.after.state ≡ Some u → IsLandedLine lines u line
  pub left_none : (u : CloudState) → span.after.state ≡ Some u
      → IsLeftReply (committed (lines ++ line ∷ []) u) (standing lines (session_of line.event)).posture (session_at span.new.sessions (session_of line.event)).work line.reply
  pub left : (u : CloudState) → span.after.state ≡ Some u → LeftIsRight u line.reply
  pub shows : EachStep StepShows (length lines + 1) line.event span (Ok line.reply) handled
  pub shows_by : EachStep (StepShowsBy lines) (length lines + 1) line.event span (Ok line.reply) handled
  pub tells_by : TellsBy lines (length lines + 1) line.event line.reply span

-- and so does each line
abbrev pub AreExplained : (before : Seen) (old : World) (lines : List Line) (after : Seen) (new : World) → WentOn before old lines after new → Type 0
AreExplained before old lines after new start = Unit {0}
AreExplained before old _ after new (further lines line mid _ world _ went handled) =
    AreExplained before old lines mid world went × IsExplained lines line (span_of mid after world new) handled

-- in no step of these lines a call failed, and nothing was withheld
abbrev pub GoThrough : (before : Seen) (old : World) (lines : List Line) (after : Seen) (new : World) → WentOn before old lines after new → Type 0
GoThrough before old lines after new start = Unit {0}
GoThrough before old _ after new (further lines line mid _ world _ went handled) =
    GoThrough before old lines mid world went × EachStep StepGoesThrough (length lines + 1) line.event (span_of mid after world new) (Ok line.reply) handled

-- then, behind its policy and behind each work of it that passes nothing over, a session that works as a writer of k leaves at most k - 1 messages in each
-- pending update queue
abbrev pub LeavesFewSo : (before : Seen) (old : World) (lines : List Line) (after : Seen) (new : World) → WentOn before old lines after new → Type 0
LeavesFewSo before old lines after new went =
    GoThrough before old lines after new went → (session k : ℕ) (u : CloudState) → after.state ≡ Some u → LeavesFewAt (stage_of session k lines) k u

-- These lines leave a session alone: only it acts, and it does not die. In no step of them a count rose or a counter was spent, each lease lasted that its
-- call named or gave back, and memory was found.
abbrev pub GoAlone : ℕ → {before : Seen} {old : World} {lines : List Line} {after : Seen} {new : World} → WentOn before old lines after new → Type 0
GoAlone session start = Unit {0}
GoAlone session (further lines line mid after world new went handled) =
    GoAlone session went
    × LeavesAlone session line.event
    × EachStep StepIsUndisturbed (length lines + 1) line.event (span_of mid after world new) (Ok line.reply) handled
    × EachStep StepSpendsNone (length lines + 1) line.event (span_of mid after world new) (Ok line.reply) handled

-- then a session that works as a writer of k behind each commit, whatever its works tell that they passed over, leaves few behind each of them: none was passed over
abbrev pub LeavesFewAlone : (before : Seen) (old : World) (lines : List Line) (after : Seen) (new : World) → WentOn before old lines after new → Type 0
LeavesFewAlone before old lines after new went =
    (session k : ℕ) (u : CloudState) → GoAlone session went → after.state ≡ Some u
    → (stage_of session k (map unpassed lines) ≡ stage_of session k lines) × LeavesFewAt (stage_of session k (map unpassed lines)) k u

-- so it does behind each of these lines
abbrev pub AreMetered : (before : Seen) (old : World) (lines : List Line) (after : Seen) (new : World) → WentOn before old lines after new → Type 0
AreMetered before old lines after new start = Unit {0}
AreMetered before old _ after new (further lines line mid _ world _ went handled) =
    AreMetered before old lines mid world went
    × LeavesFewSo before old (lines ++ line ∷ []) after new (further lines line mid after world new went handled)
    × LeavesFewAlone before old (lines ++ line ∷ []) after new (further lines line mid after world new went handled)

-- the reply to a line is sound by how the lines before it say that its session stood: it shows no trouble that only damage could cause
abbrev pub IsSoundLine : List Line → Line → Type 0
IsSoundLine before line = IsSoundFor line.event (standing before (session_of line.event)).posture line.reply

-- a settling has a sound reply and explains itself; of other lines nothing is said
abbrev pub SettlesSo : (lines : List Line) (event : Event) (r : Reply) (span : Span) → Handled (length lines + 1) event span (Ok r) → Type 0
SettlesSo lines event.Settle r span handled =
    IsSoundLine lines (record { event = event.Settle; reply = r }) × IsExplained lines (record { event = event.Settle; reply = r }) span handled
SettlesSo lines event r span handled = Unit {0}

-- and so does each settling of these lines
abbrev pub AreSettled : (before : Seen) (old : World) (lines : List Line) (after : Seen) (new : World) → WentOn before old lines after new → Type 0
AreSettled before old lines after new start = Unit {0}
AreSettled before old _ after new (further lines line mid _ world _ went handled) =
    AreSettled before old lines mid world went × SettlesSo lines line.event line.reply (span_of mid after world new) handled

-- a cloud that was empty, or that earlier runs left
abbrev pub IsOfRuns : CloudState → Type 0
IsOfRuns t = IsEmptyCloud t ⊎ WasLeft t

-- over such a cloud that tells its state another one is left
abbrev pub LeavesOne : Seen → Seen → Type 0
LeavesOne before after = (t : CloudState) → before.state ≡ Some t → IsOfRuns t → (u : CloudState) × (after.state ≡ Some u) × WasLeft u

-- where no look failed, each of these lines that asks for the report of a tree has one
abbrev pub ReportsCome : List Line → Seen → Seen → Type 0
ReportsCome lines before after =
    after.counts.dark ≡ before.counts.dark → (k : ℕ) (line : Line) (tree : ℕ) → slice_get lines k ≡ Some line → line.event ≡ event.Report tree → IsTree tree
    → (r : Report) × (line.reply ≡ reply.Report r)

-- an event asks for no report
abbrev pub IsNoReport : Event → Type 0
IsNoReport asked = (tree : ℕ) → asked ≡ event.Report tree → ⊥

-- nor does any of these lines
abbrev pub AskNoReport : List Line → Type 0
AskNoReport lines = (k : ℕ) (line : Line) → slice_get lines k ≡ Some line → IsNoReport line.event

-- ---- over any cloud

-- what lines asked for
abbrev pub events_of : List Line → List Event
events_of lines = map (λ line. line.event) lines

-- each step of these lines has the cause that the contract of its machine names, and so has what was answered at a begin
abbrev pub AreCaused : (before : Seen) (old : World) (lines : List Line) (after : Seen) (new : World) → WentOn before old lines after new → Type 0
AreCaused before old lines after new start = Unit {0}
AreCaused before old _ after new (further lines line mid _ world _ went handled) =
    AreCaused before old lines mid world went × LineHasCauses (length lines + 1) line.event (span_of mid after world new) (Ok line.reply) handled

-- what the reply of each of these lines says is so
abbrev pub AreTold : (before : Seen) (old : World) (lines : List Line) (after : Seen) (new : World) → WentOn before old lines after new → Type 0
AreTold before old lines after new start = Unit {0}
AreTold before old _ after new (further lines line mid _ world _ went handled) =
    AreTold before old lines mid world went × Tells (length lines + 1) line.event line.reply (span_of mid after world new)

-- no two of the rows that were added to the trace of a cloud that tells its state open one transaction
abbrev pub OpensNoneTwice : Seen → Seen → Type 0
OpensNoneTwice before after = (t : CloudState) → before.state ≡ Some t → AddsNoneTwice t after

-- these lines were handled from a new world on; over a cloud that was empty and told its state each of them explains itself, reports come, and a writer
-- leaves few messages; over one that earlier runs left each settling among them explains itself; and over any one each row that they added is of a kind
-- that its session's standing by them allows, each step that they made has its cause, what each reply says is so, and where they open no client twice no
-- transaction was opened twice
pub record AreAnswered (blind : Bool) (lines : List Line) (before after : Seen) : Type 0 where
  pub first : World
  pub fresh : IsNew blind first
  pub last : World
  pub went : WentOn before first lines after last
  pub explained : (t : CloudState) → before.state ≡ Some t → IsEmptyCloud t → AreExplained before first lines after last went
  pub metered : (t : CloudState) → before.state ≡ Some t → IsEmptyCloud t → AreMetered before first lines after last went
  pub settled : (t : CloudState) → before.state ≡ Some t → IsOfRuns t → AreSettled before first lines after last went
  pub left : LeavesOne before after
  pub reports : (t : CloudState) → before.state ≡ Some t → IsEmptyCloud t → ReportsCome lines before after
  pub kinds : (t : CloudState) → before.state ≡ Some t → WorldAdds lines t last after
  pub once : OpenEachOnce (events_of lines) → OpensNoneTwice before after
  pub caused : AreCaused before first lines after last went
  pub told : AreTold before first lines after last went

-- behind these lines this event was handled, and has no reply, by this fault; the session of its operation is broken off; each step that it made has
-- its cause; and what it added to any cloud is of its kind too, whatever its reply would have been, and where it opens no client of theirs no
-- transaction was opened twice
pub record IsUnanswered (blind : Bool) (lines : List Line) (event : Event) (fault : WorldFault) (before after : Seen) : Type 0 where
  pub mid : Seen
  pub answered : AreAnswered blind lines before mid
  pub last : World
  pub handled : Handled (length lines + 1) event (span_of mid after answered.last last) (Err fault)
  pub short : LeavesShort event answered.last last (Err fault)
  pub kinds : (t : CloudState) (reply : Reply) → before.state ≡ Some t → AddsTo (length lines + 1) (lines ++ record { event = event; reply = reply } ∷ []) t after
  pub once : OpenEachOnce (events_of lines ++ event ∷ []) → OpensNoneTwice before after
  pub caused : LineHasCauses (length lines + 1) event (span_of mid after answered.last last) (Err fault) handled

-- every report is right for the lines up to its own and the state up to its line
abbrev pub ReportsAreRight : List Line → CloudState → Type 0
ReportsAreRight lines t = (k : ℕ) (line : Line) → slice_get lines k ≡ Some line → ReportIsRight (take (k + 1) lines) (upto t (k + 1)) line.reply

abbrev pub RepliesAreSound : List Line → Type 0
RepliesAreSound lines = (k : ℕ) (line : Line) → slice_get lines k ≡ Some line → IsSoundLine (take k lines) line

-- each put and send up to the last of these lines is of a kind that its session's standing allows, and no transaction was opened twice
abbrev pub ActsByTheLines : List Line → CloudState → Type 0
ActsByTheLines lines t = KeepsKinds lines (upto t (length lines)) []

-- whatever any of these lines acknowledged is among the entries
abbrev pub AreKept : List Line → List Entry → Type 0
AreKept lines entries = (k : ℕ) (line : Line) → slice_get lines k ≡ Some line → IsKeptLine entries (take k lines) line

-- and landed, by a row of its own session, made since its commit began and up to its answer, that commits it
abbrev pub AreLanded : List Line → CloudState → Type 0
AreLanded lines t = (k : ℕ) (line : Line) → slice_get lines k ≡ Some line → IsLandedLine (take k lines) t line

-- an acknowledged commit stays committed: whatever any of the first n lines acknowledged is among what was committed up to the last of them,
-- of which a report on that line shows its tree's part; and the row by which it landed is among those up to there
abbrev pub AcknowledgedStay : List Line → CloudState → Type 0
AcknowledgedStay lines t = (n : ℕ) → n ≤ length lines → AreKept (take n lines) (committed (take n lines) (upto t n)) × AreLanded (take n lines) (upto t n)

-- over a cloud that was empty and told its state, every report of these lines is right for the state in which they left it, every reply is sound,
-- what was put and sent is what the lines allow, what was acknowledged stays committed, and each version and message has its row in the trace, so that
-- the state up to a line has what the rows up to it say
abbrev pub KeepsTheTheorem : List Line → Seen → Seen → Type 0
KeepsTheTheorem lines before after =
    (t : CloudState) → before.state ≡ Some t → IsEmptyCloud t → (u : CloudState) × (after.state ≡ Some u) × ReportsAreRight lines u × RepliesAreSound lines × ActsByTheLines lines u × AcknowledgedStay lines u × IsTraced u
