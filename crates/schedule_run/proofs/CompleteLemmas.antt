-- A run in which no read and no write failed.
use Rattle.std.proofs.Common.{◌≡◌, ◌<◌, ◌≤◌, ℕ, List, [], ◌∷◌, ◌++◌, ◌⊎◌, Option, Some, None, Result, Ok, Err, refl, sym, ap, subst, ◌∙◌, inl, inr, arith}
use Rattle.std.proofs.lemmas.List.{append-nil, append_cancel_right}
use Rattle.cloud_trait.specs.Seen.{Seen}
use Rattle.command_words.specs.declared.shape.Shape.{Shape}
use Rattle.command_words.specs.declared.shape.Shape.TheVariants.{Replay, Gen, Shell, Settle, Dump, Load}
use Rattle.db_io.specs.Content.{Told, Takes}
use Rattle.db_io.specs.Writes.{Written}
use Rattle.event_text.specs.declared.event.Event.{Event}
use Rattle.event_text.specs.Event.{IsEvent, IsShellLine}
use Rattle.db_io.specs.declared.input.InputFault.{InputFault}
use Rattle.db_io.specs.declared.input.InputFault.TheVariants as input
use Rattle.db_io.specs.Lines.{lines_of}
use Rattle.replay_meaning.specs.Standing.{Line}
use Rattle.schedule_run.specs.Outside.{effects, outside}
use Rattle.schedule_run.specs.declared.replay.LineFault.{LineFault}
use Rattle.schedule_run.specs.declared.replay.LineFault.TheVariants as line
use Rattle.schedule_run.specs.declared.dumping.DumpingFault.{DumpingFault}
use Rattle.schedule_run.specs.declared.dumping.DumpingFault.TheVariants as dump
use Rattle.schedule_run.specs.Dumping.{DumpEnded}
use Rattle.schedule_run.specs.declared.settling.SettleFault.{SettleFault}
use Rattle.schedule_run.specs.declared.settling.SettleFault.TheVariants as settle
use Rattle.schedule_run.specs.declared.shell.ShellFault.{ShellFault}
use Rattle.schedule_run.specs.declared.shell.ShellFault.TheVariants as shell
use Rattle.schedule_run.specs.Replayed.{AreSpelled, HasBadLine, ReplayWent}
use Rattle.schedule_run.specs.Settling.{SettleEnded}
use Rattle.schedule_run.specs.Shell.{AreShellLines, HasBadShellLine, ShellWent, WasNotOpened}
use Rattle.schedule_run.specs.declared.status.Status.{Status}
use Rattle.schedule_run.specs.declared.status.Status.TheVariants as status
use Rattle.schedule_run.specs.Status.{ended_as, status_of_input, status_of_line, status_of_settle, status_of_shell, status_of_dump, status_of_load}
use Rattle.schedule_run.specs.Run.{IsOfShape, limit_of, Replays, replay_unread, replay_went, RunsShell, shell_unread, shell_went, RunsDump, dump_unasked, dump_went, RunsLoad, load_unread, load_went, Ran, WasBad, WasTooLong}
use Rattle.schedule_run.specs.Loading.{SpellsNoDump, FillEnded, fill_went, fill_bad, fill_unread}
use Rattle.schedule_run.specs.declared.loading.LoadingFault.{LoadingFault}
use Rattle.schedule_run.specs.declared.loading.LoadingFault.TheVariants as load
use Rattle.schedule_run.specs.Written.{bad_line}
use Rattle.schedule_run.proofs.FallenLemmas.{Falls, Fallen, fallen}
use Rattle.schedule_run.specs.Complete.{WentInOrder, ReadBadLine, IsKnown, EndsWith, IsComplete, StopsAtBadLine}

-- ---- what was read

-- a source that tells what it holds gave these bytes and no others
same_bytes : (left rest : Told) (bytes others : List ℕ) → IsKnown left → Takes left rest bytes → Takes left rest others → others ≡ bytes
same_bytes left rest bytes others known taken taken_too =
    let a = taken known.0 known.1 in
    let b = taken_too known.0 known.1 in
    let clash : Some a.0 ≡ Some b.0 = sym a.1 ∙ b.1 in
    let same : b.0 ≡ a.0 = cc in
    let both : others ++ b.0 ≡ bytes ++ a.0 = sym b.2 ∙ a.2 in
    append_cancel_right others bytes a.0 (ap (λ r. others ++ r) (sym same) ∙ both)

-- where nothing is behind the first lines, each line is among them
all_of : (lines earlier later ahead behind : List (List ℕ)) (text : List ℕ) → lines ≡ earlier ++ later → later ≡ [] → lines ≡ ahead ++ text ∷ behind
    → earlier ≡ ahead ++ text ∷ behind
all_of lines earlier later ahead behind text split none at = sym (append-nil earlier) ∙ ap (λ l. earlier ++ l) (sym none) ∙ sym split ∙ at

spelled_at : (ahead behind : List (List ℕ)) (text : List ℕ) (lines : List Line) → AreSpelled (ahead ++ text ∷ behind) lines → (event : Event) × IsEvent text event
spelled_at [] behind text [] s = absurd s
spelled_at [] behind text (l ∷ lines) s = (l.event, s.0)
spelled_at (t ∷ ahead) behind text [] s = absurd s
spelled_at (t ∷ ahead) behind text (l ∷ lines) s = spelled_at ahead behind text lines s.1

shell_at : (ahead behind : List (List ℕ)) (text : List ℕ) (events : List Event) → AreShellLines (ahead ++ text ∷ behind) events → (event : Event) × IsShellLine text event
shell_at [] behind text [] s = absurd s
shell_at [] behind text (e ∷ events) s = (e, s.0)
shell_at (t ∷ ahead) behind text [] s = absurd s
shell_at (t ∷ ahead) behind text (e ∷ events) s = shell_at ahead behind text events s.1

-- ---- a run that is done has read no bad line

unread_not_done : (fault : InputFault) → status.Done ≡ status_of_input fault → ⊥
unread_not_done input.ReadFault e = absurd (cc)
unread_not_done input.TooLong e = absurd (cc)
unread_not_done input.Memory e = absurd (cc)

replay_lines_good : (ended : Result (Unit {0}) LineFault) (text : List ℕ) (w u : Written) (s t : Seen) → status.Done ≡ ended_as status_of_line ended
    → ReplayWent ended text (effects w s) (effects u t) → HasBadLine text → ⊥
replay_lines_good (Ok done) text w u s t e went bad =
    let all = all_of (lines_of text) went.earlier went.later bad.earlier bad.later bad.line went.at went.so.0 bad.at in
    let event = spelled_at bad.earlier bad.later bad.line went.lines (subst (λ l. AreSpelled l went.lines) all went.spelled) in
    bad.bad event.0 event.1
replay_lines_good (Err line.BadLine) text w u s t e went bad = absurd (cc)
replay_lines_good (Err line.WriteFault) text w u s t e went bad = absurd (cc)
replay_lines_good (Err line.Memory) text w u s t e went bad = absurd (cc)

shell_lines_good : (client : ℕ) (ended : Result (Unit {0}) ShellFault) (text : List ℕ) (w u : Written) (s t : Seen) → status.Done ≡ ended_as status_of_shell ended
    → ShellWent client text ended (effects w s) (effects u t) → HasBadShellLine text → ⊥
shell_lines_good client (Ok done) text w u s t e went bad =
    let all = all_of (lines_of text) went.earlier went.later bad.earlier bad.later bad.line went.at went.so.0 bad.at in
    let event = shell_at bad.earlier bad.later bad.line went.events (subst (λ l. AreShellLines l went.events) all went.spelled) in
    bad.bad event.0 event.1
shell_lines_good client (Err shell.NotOpened) text w u s t e went bad = absurd (cc)
shell_lines_good client (Err shell.BadLine) text w u s t e went bad = absurd (cc)
shell_lines_good client (Err shell.WriteFault) text w u s t e went bad = absurd (cc)
shell_lines_good client (Err shell.Memory) text w u s t e went bad = absurd (cc)

replay_good : (left rest : Told) (w u : Written) (s t : Seen) → IsKnown left → Replays status.Done (outside left w s) (outside rest u t) → WasBad HasBadLine left rest → ⊥
replay_good left rest w u s t known (replay_unread fault e nothing) bad = unread_not_done fault e
replay_good left rest w u s t known (replay_went read ended e went) bad =
    replay_lines_good ended read.bytes w u s t e went (subst HasBadLine (same_bytes left rest read.bytes bad.bytes known read.taken bad.taken) bad.bad)

shell_good : (client : ℕ) (left rest : Told) (w u : Written) (s t : Seen) → IsKnown left → RunsShell client status.Done (outside left w s) (outside rest u t) → WasBad HasBadShellLine left rest → ⊥
shell_good client left rest w u s t known (shell_unread fault e nothing) bad = unread_not_done fault e
shell_good client left rest w u s t known (shell_went read ended e went) bad =
    shell_lines_good client ended read.bytes w u s t e went (subst HasBadShellLine (same_bytes left rest read.bytes bad.bytes known read.taken bad.taken) bad.bad)

-- a text that spells a dump is not bad
fill_good : (ended : Result (Unit {0}) LoadingFault) (text : List ℕ) (w u : Written) (s t : Seen) → status.Done ≡ ended_as status_of_load ended
    → FillEnded text ended (effects w s) (effects u t) → SpellsNoDump text → ⊥
fill_good (Ok done) text w u s t e (fill_went trees spelled went) bad = bad trees spelled
fill_good (Ok done) text w u s t e (fill_bad number is told still) bad = let clash = told.0 in absurd (cc)
fill_good (Ok done) text w u s t e (fill_unread out nothing) bad = absurd (cc)
fill_good (Err load.BadLine) text w u s t e went bad = absurd (cc)
fill_good (Err load.NotEmpty) text w u s t e went bad = absurd (cc)
fill_good (Err load.Stopped) text w u s t e went bad = absurd (cc)
fill_good (Err load.NotOpened) text w u s t e went bad = absurd (cc)
fill_good (Err load.NotLoaded) text w u s t e went bad = absurd (cc)
fill_good (Err load.NotSettled) text w u s t e went bad = absurd (cc)
fill_good (Err load.WriteFault) text w u s t e went bad = absurd (cc)
fill_good (Err load.Memory) text w u s t e went bad = absurd (cc)

load_good : (left rest : Told) (w u : Written) (s t : Seen) → IsKnown left → RunsLoad status.Done (outside left w s) (outside rest u t) → WasBad SpellsNoDump left rest → ⊥
load_good left rest w u s t known (load_unread fault e nothing) bad = unread_not_done fault e
load_good left rest w u s t known (load_went read ended e went) bad =
    fill_good ended read.bytes w u s t e went (subst SpellsNoDump (same_bytes left rest read.bytes bad.bytes known read.taken bad.taken) bad.bad)

all_good : (shape : Shape) (left rest : Told) (w u : Written) (s t : Seen) → IsKnown left → Ran (Some shape) status.Done (outside left w s) (outside rest u t) → ReadBadLine (Some shape) left rest → ⊥
all_good Replay left rest w u s t known ran bad = replay_good left rest w u s t known ran bad
all_good (Gen number count) left rest w u s t known ran bad = bad.bad
all_good (Shell client dir) left rest w u s t known ran bad = shell_good client left rest w u s t known ran bad
all_good (Settle dir) left rest w u s t known ran bad = bad.bad
all_good (Dump dir) left rest w u s t known ran bad = bad.bad
all_good (Load dir) left rest w u s t known ran bad = load_good left rest w u s t known ran bad

-- ---- what each status but Done comes of

-- the causes of the statuses
pub record Caused (asked : Option Shape) (result : Status) (left rest : Told) (written now_written : Written) : Type 0 where
  pub only : IsOfShape asked result
  pub read_fault : result ≡ status.ReadFault → left.faults < rest.faults
  pub too_long : result ≡ status.TooLong → WasTooLong (limit_of asked) left rest
  pub bad_line : result ≡ status.BadLine → ReadBadLine asked left rest
  pub write_fault : result ≡ status.WriteFault → written.faults < now_written.faults

-- this status is one of those with which it may end
is_one : (wanted : Status) (shape : Shape) (result : Status) (w u : Written) (s t : Seen) → result ≡ wanted → EndsWith wanted (Some shape) result (effects w s) (effects u t)
is_one wanted Replay result w u s t e = inl e
is_one wanted (Gen number count) result w u s t e = inl e
is_one wanted (Shell client dir) result w u s t e = inl (inl e)
is_one wanted (Settle dir) result w u s t e = inl (inl e)
is_one wanted (Dump dir) result w u s t e = inl (inl e)
is_one wanted (Load dir) result w u s t e = inl (inl e)

-- so is want of memory
pub out_of_memory : (wanted : Status) (asked : Option Shape) (w u : Written) (s t : Seen) → EndsWith wanted asked status.Memory (effects w s) (effects u t)
out_of_memory wanted (Some Replay) w u s t = inr refl
out_of_memory wanted (Some (Gen number count)) w u s t = inr refl
out_of_memory wanted (Some (Shell client dir)) w u s t = inl (inr refl)
out_of_memory wanted (Some (Settle dir)) w u s t = inl (inr refl)
out_of_memory wanted (Some (Dump dir)) w u s t = inl (inr refl)
out_of_memory wanted (Some (Load dir)) w u s t = inl (inr refl)
out_of_memory wanted None w u s t = tt

-- a run is to be done, or a line of what it reads is bad
abbrev Fit : Status → Shape → Told → Told → Type 0
Fit wanted shape left rest = (wanted ≡ status.Done) ⊎ (IsKnown left × ReadBadLine (Some shape) left rest)

-- a load that ended so stopped, and what it read is not bad
load_stops : (wanted result : Status) (dir : List ℕ) (left rest : Told) (w u : Written) (s t : Seen) → Falls result → Fit wanted (Load dir) left rest
    → RunsLoad result (outside left w s) (outside rest u t) → EndsWith wanted (Some (Load dir)) result (effects w s) (effects u t)
load_stops wanted result dir left rest w u s t f fit ran = on (fallen result left rest w u s t f ran) fit
  where
    on : Fallen result (outside left w s) (outside rest u t) → Fit wanted (Load dir) left rest → EndsWith wanted (Some (Load dir)) result (effects w s) (effects u t)
    on it (inl e) = inr (e, it.stopped)
    on it (inr both) =
        let read = it.input in
        let bad = both.1 in
        absurd ((subst SpellsNoDump (same_bytes left rest read.bytes bad.bytes both.0 read.taken bad.taken) bad.bad) it.spells.0 it.spells.1)

-- a settling that ended so stopped
stopped : (ended : Result (Unit {0}) SettleFault) (w u : Written) (s t : Seen) → status.NotSettled ≡ ended_as status_of_settle ended
    → SettleEnded ended (effects w s) (effects u t) → SettleEnded (Err settle.NotSettled) (effects w s) (effects u t)
stopped (Ok done) w u s t e so = absurd (cc)
stopped (Err settle.NotSettled) w u s t e so = so
stopped (Err settle.WriteFault) w u s t e so = absurd (cc)
stopped (Err settle.Memory) w u s t e so = absurd (cc)

unsettled : (wanted : Status) (shape : Shape) (left rest : Told) (w u : Written) (s t : Seen) → Fit wanted shape left rest → IsOfShape (Some shape) status.NotSettled → Ran (Some shape) status.NotSettled (outside left w s) (outside rest u t)
    → EndsWith wanted (Some shape) status.NotSettled (effects w s) (effects u t)
unsettled wanted Replay left rest w u s t fit asks ran = absurd asks
unsettled wanted (Gen number count) left rest w u s t fit asks ran = absurd asks
unsettled wanted (Shell client dir) left rest w u s t fit asks ran = absurd asks
unsettled wanted (Dump dir) left rest w u s t fit asks ran = absurd asks
unsettled wanted (Load dir) left rest w u s t fit asks ran = load_stops wanted status.NotSettled dir left rest w u s t tt fit ran
unsettled wanted (Settle dir) left rest w u s t fit asks ran = inr (refl, stopped ran.1.ended w u s t ran.1.leads ran.1.went)

-- a shell that ended so was not opened
unread_not_opened : (fault : InputFault) → status.NotOpened ≡ status_of_input fault → ⊥
unread_not_opened input.ReadFault e = absurd (cc)
unread_not_opened input.TooLong e = absurd (cc)
unread_not_opened input.Memory e = absurd (cc)

closed : (client : ℕ) (ended : Result (Unit {0}) ShellFault) (text : List ℕ) (w u : Written) (s t : Seen) → status.NotOpened ≡ ended_as status_of_shell ended
    → ShellWent client text ended (effects w s) (effects u t) → WasNotOpened client (effects w s) (effects u t)
closed client (Ok done) text w u s t e went = absurd (cc)
closed client (Err shell.NotOpened) text w u s t e went = went.so
closed client (Err shell.BadLine) text w u s t e went = absurd (cc)
closed client (Err shell.WriteFault) text w u s t e went = absurd (cc)
closed client (Err shell.Memory) text w u s t e went = absurd (cc)

not_opened : (client : ℕ) (left rest : Told) (w u : Written) (s t : Seen) → RunsShell client status.NotOpened (outside left w s) (outside rest u t) → WasNotOpened client (effects w s) (effects u t)
not_opened client left rest w u s t (shell_unread fault e nothing) = absurd (unread_not_opened fault e)
not_opened client left rest w u s t (shell_went read ended e went) = closed client ended read.bytes w u s t e went

unopened : (wanted : Status) (shape : Shape) (left rest : Told) (w u : Written) (s t : Seen) → Fit wanted shape left rest → IsOfShape (Some shape) status.NotOpened → Ran (Some shape) status.NotOpened (outside left w s) (outside rest u t)
    → EndsWith wanted (Some shape) status.NotOpened (effects w s) (effects u t)
unopened wanted Replay left rest w u s t fit asks ran = absurd asks
unopened wanted (Gen number count) left rest w u s t fit asks ran = absurd asks
unopened wanted (Shell client dir) left rest w u s t fit asks ran = inr (refl, not_opened client left rest w u s t ran)
unopened wanted (Dump dir) left rest w u s t fit asks ran = absurd asks
unopened wanted (Load dir) left rest w u s t fit asks ran = load_stops wanted status.NotOpened dir left rest w u s t tt fit ran
unopened wanted (Settle dir) left rest w u s t fit asks ran = absurd asks

-- a dump that ended so was not quiet, or stopped
not_quiet : (ended : Result (Unit {0}) DumpingFault) (w u : Written) (s t : Seen) → status.NotQuiet ≡ ended_as status_of_dump ended → DumpEnded ended (effects w s) (effects u t)
    → DumpEnded (Err dump.NotQuiet) (effects w s) (effects u t)
not_quiet (Ok done) w u s t e so = absurd (cc)
not_quiet (Err dump.NotQuiet) w u s t e so = so
not_quiet (Err dump.Stopped) w u s t e so = absurd (cc)
not_quiet (Err dump.WriteFault) w u s t e so = absurd (cc)
not_quiet (Err dump.Memory) w u s t e so = absurd (cc)

looks_stopped : (ended : Result (Unit {0}) DumpingFault) (w u : Written) (s t : Seen) → status.Stopped ≡ ended_as status_of_dump ended → DumpEnded ended (effects w s) (effects u t)
    → DumpEnded (Err dump.Stopped) (effects w s) (effects u t)
looks_stopped (Ok done) w u s t e so = absurd (cc)
looks_stopped (Err dump.NotQuiet) w u s t e so = absurd (cc)
looks_stopped (Err dump.Stopped) w u s t e so = so
looks_stopped (Err dump.WriteFault) w u s t e so = absurd (cc)
looks_stopped (Err dump.Memory) w u s t e so = absurd (cc)

dump_not_quiet : (w u : Written) (s t : Seen) → RunsDump status.NotQuiet (effects w s) (effects u t) → DumpEnded (Err dump.NotQuiet) (effects w s) (effects u t)
dump_not_quiet w u s t (dump_unasked e nothing) = absurd (cc)
dump_not_quiet w u s t (dump_went ended e went) = not_quiet ended w u s t e went

dump_stopped : (w u : Written) (s t : Seen) → RunsDump status.Stopped (effects w s) (effects u t) → DumpEnded (Err dump.Stopped) (effects w s) (effects u t)
dump_stopped w u s t (dump_unasked e nothing) = absurd (cc)
dump_stopped w u s t (dump_went ended e went) = looks_stopped ended w u s t e went

unquiet : (wanted : Status) (shape : Shape) (left rest : Told) (w u : Written) (s t : Seen) → IsOfShape (Some shape) status.NotQuiet → Ran (Some shape) status.NotQuiet (outside left w s) (outside rest u t)
    → EndsWith wanted (Some shape) status.NotQuiet (effects w s) (effects u t)
unquiet wanted Replay left rest w u s t asks ran = absurd asks
unquiet wanted (Gen number count) left rest w u s t asks ran = absurd asks
unquiet wanted (Shell client dir) left rest w u s t asks ran = absurd asks
unquiet wanted (Settle dir) left rest w u s t asks ran = absurd asks
unquiet wanted (Dump dir) left rest w u s t asks ran = inr (inl (refl, dump_not_quiet w u s t ran.1))
unquiet wanted (Load dir) left rest w u s t asks ran = absurd asks

looked : (wanted : Status) (shape : Shape) (left rest : Told) (w u : Written) (s t : Seen) → Fit wanted shape left rest → IsOfShape (Some shape) status.Stopped → Ran (Some shape) status.Stopped (outside left w s) (outside rest u t)
    → EndsWith wanted (Some shape) status.Stopped (effects w s) (effects u t)
looked wanted Replay left rest w u s t fit asks ran = absurd asks
looked wanted (Gen number count) left rest w u s t fit asks ran = absurd asks
looked wanted (Shell client dir) left rest w u s t fit asks ran = absurd asks
looked wanted (Settle dir) left rest w u s t fit asks ran = absurd asks
looked wanted (Dump dir) left rest w u s t fit asks ran = inr (inr (refl, dump_stopped w u s t ran.1))
looked wanted (Load dir) left rest w u s t fit asks ran = load_stops wanted status.Stopped dir left rest w u s t tt fit ran

abbrev IsLoad : Shape → Type 0
IsLoad (Load dir) = Unit {0}
IsLoad shape = ⊥

empty_loads : (shape : Shape) → IsOfShape (Some shape) status.NotEmpty → IsLoad shape
empty_loads Replay none = none
empty_loads (Gen number count) none = none
empty_loads (Shell client dir) none = none
empty_loads (Settle dir) none = none
empty_loads (Dump dir) none = none
empty_loads (Load dir) is = tt

commit_loads : (shape : Shape) → IsOfShape (Some shape) status.NotLoaded → IsLoad shape
commit_loads Replay none = none
commit_loads (Gen number count) none = none
commit_loads (Shell client dir) none = none
commit_loads (Settle dir) none = none
commit_loads (Dump dir) none = none
commit_loads (Load dir) is = tt

-- a load whose cloud was not empty, or that did not commit
unloaded : (wanted result : Status) (shape : Shape) (left rest : Told) (w u : Written) (s t : Seen) → Falls result → Fit wanted shape left rest
    → IsLoad shape → Ran (Some shape) result (outside left w s) (outside rest u t) → EndsWith wanted (Some shape) result (effects w s) (effects u t)
unloaded wanted result Replay left rest w u s t f fit asks ran = absurd asks
unloaded wanted result (Gen number count) left rest w u s t f fit asks ran = absurd asks
unloaded wanted result (Shell client dir) left rest w u s t f fit asks ran = absurd asks
unloaded wanted result (Settle dir) left rest w u s t f fit asks ran = absurd asks
unloaded wanted result (Dump dir) left rest w u s t f fit asks ran = absurd asks
unloaded wanted result (Load dir) left rest w u s t f fit asks ran = load_stops wanted result dir left rest w u s t f fit ran

pub of_words : (shape : Shape) → IsOfShape (Some shape) status.BadWords → ⊥
of_words Replay none = none
of_words (Gen number count) none = none
of_words (Shell client dir) none = none
of_words (Settle dir) none = none
of_words (Dump dir) none = none
of_words (Load dir) none = none

-- memory may run out whatever is asked
pub memory_of : (asked : Option Shape) → IsOfShape asked status.Memory
memory_of (Some Replay) = tt
memory_of (Some (Gen number count)) = tt
memory_of (Some (Shell client dir)) = tt
memory_of (Some (Settle dir)) = tt
memory_of (Some (Dump dir)) = tt
memory_of (Some (Load dir)) = tt
memory_of None = tt

-- where all went in order, a run is done or ended by a bad line, unless it ends as it may
in_order : (wanted : Status) (shape : Shape) (result : Status) (left rest : Told) (w u : Written) (s t : Seen) → Caused (Some shape) result left rest w u
    → Ran (Some shape) result (outside left w s) (outside rest u t) → WentInOrder (Some shape) (outside left w s) (outside rest u t) → Fit wanted shape left rest → (result ≡ status.Done → EndsWith wanted (Some shape) result (effects w s) (effects u t))
    → (result ≡ status.BadLine → EndsWith wanted (Some shape) result (effects w s) (effects u t)) → EndsWith wanted (Some shape) result (effects w s) (effects u t)
in_order wanted shape status.Done left rest w u s t c ran order fit done bad = done refl
in_order wanted shape status.BadLine left rest w u s t c ran order fit done bad = bad refl
in_order wanted shape status.BadWords left rest w u s t c ran order fit done bad = absurd (of_words shape c.only)
in_order wanted shape status.ReadFault left rest w u s t c ran order fit done bad =
    let more : left.faults < rest.faults = c.read_fault refl in
    let no_more : rest.faults ≤ left.faults = order.reads in absurd (omega arith)
in_order wanted shape status.WriteFault left rest w u s t c ran order fit done bad =
    let more : w.faults < u.faults = c.write_fault refl in
    let no_more : u.faults ≤ w.faults = order.writes in absurd (omega arith)
in_order wanted shape status.NotSettled left rest w u s t c ran order fit done bad = unsettled wanted shape left rest w u s t fit c.only ran
in_order wanted shape status.TooLong left rest w u s t c ran order fit done bad = absurd (order.within (c.too_long refl))
in_order wanted shape status.NotOpened left rest w u s t c ran order fit done bad = unopened wanted shape left rest w u s t fit c.only ran
in_order wanted shape status.Memory left rest w u s t c ran order fit done bad = out_of_memory wanted (Some shape) w u s t
in_order wanted shape status.NotQuiet left rest w u s t c ran order fit done bad = unquiet wanted shape left rest w u s t c.only ran
in_order wanted shape status.NotEmpty left rest w u s t c ran order fit done bad = unloaded wanted status.NotEmpty shape left rest w u s t tt fit (empty_loads shape c.only) ran
in_order wanted shape status.NotLoaded left rest w u s t c ran order fit done bad = unloaded wanted status.NotLoaded shape left rest w u s t tt fit (commit_loads shape c.only) ran
in_order wanted shape status.Stopped left rest w u s t c ran order fit done bad = looked wanted shape left rest w u s t fit c.only ran

pub completes : (shape : Shape) (result : Status) (left rest : Told) (w u : Written) (s t : Seen) → Caused (Some shape) result left rest w u
    → Ran (Some shape) result (outside left w s) (outside rest u t) → IsComplete (Some shape) result (outside left w s) (outside rest u t)
completes shape result left rest w u s t c ran order good =
    in_order status.Done shape result left rest w u s t c ran order (inl refl) (is_one status.Done shape result w u s t) (λ e. absurd (good (c.bad_line e)))

pub stops_at_bad_line : (shape : Shape) (result : Status) (left rest : Told) (w u : Written) (s t : Seen) → Caused (Some shape) result left rest w u
    → Ran (Some shape) result (outside left w s) (outside rest u t) → StopsAtBadLine (Some shape) result (outside left w s) (outside rest u t)
stops_at_bad_line shape result left rest w u s t c ran order known bad =
    in_order status.BadLine shape result left rest w u s t c ran order (inr (known, bad))
    (λ e. absurd (all_good shape left rest w u s t known (subst (λ r. Ran (Some shape) r (outside left w s) (outside rest u t)) e ran) bad))
    (is_one status.BadLine shape result w u s t)
