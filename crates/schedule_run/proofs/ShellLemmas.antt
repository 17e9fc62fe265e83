-- The lines of a shell, one after another.
use Rattle.std.proofs.Common.{◌≡◌, ◌+◌, ℕ, List, [], ◌∷◌, ◌++◌, length, Result, Ok, Err, Bool, true, false, if◌then◌else◌, refl, sym, ap, subst, ◌∙◌, append_assoc, inl, inr, arith, length-append}
use Rattle.cloud_trait.specs.Seen.{Seen}
use Rattle.db_io.specs.Writes.{Written, AddsEach, AddsOne, AddsPart}
use Rattle.db_io.proofs.WriteLemmas.{each_more}
use Rattle.event_text.specs.declared.event.Event.{Event}
use Rattle.event_text.specs.declared.event.Event.TheVariants.{Open, Close, Run}
use Rattle.event_text.specs.Event.{IsShellLine}
use Rattle.db_io.specs.Lines.{lines_of}
use Rattle.db_io.specs.declared.output.OutputFault.{OutputFault}
use Rattle.db_io.specs.declared.output.OutputFault.TheVariants as output
use Rattle.db_io.specs.Output.{WasWritten}
use Rattle.reply_text.specs.declared.reply.Reply.{Reply}
use Rattle.reply_text.specs.declared.reply.Reply.TheVariants.{Begun}
use Rattle.replay_meaning.specs.Standing.{Line}
use Rattle.words.specs.Word.{IsReadTo}
use Rattle.words.specs.declared.fault.TextFault.TheVariants.{NotInGrammar}
use Rattle.schedule_run.specs.Outside.{Effects, effects}
use Rattle.schedule_run.proofs.Cuts.{TextCut, text_cut}
use Rattle.schedule_run.specs.InPlay.{Play}
use Rattle.schedule_run.specs.declared.shell.ShellFault.{ShellFault}
use Rattle.schedule_run.specs.declared.shell.ShellFault.TheVariants.{NotOpened, BadLine, WriteFault, Memory}
use Rattle.schedule_run.specs.Play.{IsFresh, IsRun, answered, answered_run, StopsRun, stops_event, stops_run, Played}
use Rattle.schedule_run.specs.Written.{AddsFront, NothingRan, reply_line, shown_from, bad_line}
use Rattle.schedule_run.specs.Shell.{AreShellLines, IsBad, alone, with_run, no_events, more_events, WereRun, in_event, in_run, WereStopped, OpensFirst, WasCut, cut_opening, cut_line, cut_closing, cut_refusal, ShellRanOut, out_before, out_writing, out_between, out_opening, out_next, ShellEnded, ShellWent, HasRunLines, RanOutAt, out_reply, out_event, EventRan, shown_by, ended, is_opened, opened_by, OpeningRan, ClosingRan, LineRefused, LineRan, event_run, refused, unread}
use Rattle.schedule_run.specs.Answered.{IsNoReport, OpensNoneTwice}
use Rattle.schedule_run.proofs.OnceLemmas.{OpenNone, none_more, one_none, once_nothing}
use Rattle.schedule_run.proofs.ShellOnce.{no_report_shells, all_shells, next_shells, shell_once, once_whole, stopped_in_once}
use Rattle.schedule_run.proofs.PlayLemmas.{played_nothing, played_more, stopped_at}

-- ---- what a shell runs asks for no report

no_report_runs : IsNoReport (Run 1)
no_report_runs tree asked = absurd (cc)

no_report_opens : (client : ℕ) → IsNoReport (Open 1 client)
no_report_opens client tree asked = absurd (cc)

no_report_closes : IsNoReport (Close 1)
no_report_closes tree asked = absurd (cc)

-- ---- events that are run whole

pub run_nothing : (s : Seen) (play : Play) → IsFresh true play → WereRun [] [] s s play
run_nothing s play fresh = record {
  lines = [];
  whole = no_events;
  count = refl;
  played = played_nothing s play fresh;
}

pub run_more : (events : List Event) (replies : List Reply) (event : Event) (reply : Reply) (s t z : Seen) (old new : Play)
    → WereRun events replies s t old → IsNoReport event → IsRun event reply t z old new → WereRun (events ++ event ∷ []) (replies ++ reply ∷ []) s z new
run_more events replies event reply s t z old new w none (answered other next) = record {
  lines = w.lines ++ record { event = event; reply = reply } ∷ [];
  whole = more_events events event w.lines (record { event = event; reply = reply } ∷ []) replies reply w.whole (alone reply other);
  count = omega (arith, length-append replies (reply ∷ []), length-append events (event ∷ []), w.count);
  played = played_more w.lines event reply s t z old new w.played (λ b. none) next;
}
run_more events replies event reply s t z old new w none (answered_run mid play first last) =
    let began : Line = record { event = event; reply = Begun } in
    let ran : Line = record { event = Run 1; reply = reply } in
    record {
      lines = w.lines ++ began ∷ ran ∷ [];
      whole = more_events events event w.lines (began ∷ ran ∷ []) replies reply w.whole (with_run reply);
      count = omega (arith, length-append replies (reply ∷ []), length-append events (event ∷ []), w.count);
      played = subst (λ ls. Played true ls s z new) (append_assoc w.lines (began ∷ []) (ran ∷ []))
          (played_more (w.lines ++ began ∷ []) (Run 1) reply s mid z play new (played_more w.lines event Begun s t mid old play w.played (λ b. none) first) (λ b. no_report_runs) last);
    }

pub run_stopped : (events : List Event) (replies : List Reply) (event : Event) (s t z : Seen) (old new : Play)
    → WereRun events replies s t old → IsNoReport event → StopsRun event t z old new → WereStopped events replies event s z
run_stopped events replies event s t z old new w none (stops_event out) = record {
  lines = w.lines;
  whole = w.whole;
  stopped = in_event (stopped_at w.lines event s t z old new w.played out);
}
run_stopped events replies event s t z old new w none (stops_run mid play first out) = record {
  lines = w.lines;
  whole = w.whole;
  stopped = in_run (stopped_at began (Run 1) s mid z play new so_far out);
}
  where
    began : List Line
    began = w.lines ++ record { event = event; reply = Begun } ∷ []

    so_far : Played true began s mid play
    so_far = played_more w.lines event Begun s t mid old play w.played (λ b. none) first

run_same : (events : List Event) (replies : List Reply) (s t z : Seen) (play : Play) → z ≡ t → WereRun events replies s t play → WereRun events replies s z play
run_same events replies s t z play same w = subst (λ x. WereRun events replies s x play) (sym same) w

-- ---- replies and texts

shown_more : (n m : ℕ) (replies : List Reply) (reply : Reply) → m ≡ n + length replies → shown_from n (replies ++ reply ∷ []) ≡ shown_from n replies ++ reply_line m reply ∷ []
shown_more n m [] reply e =
    let f : m ≡ n = omega arith in ap (λ k. reply_line k reply ∷ []) (sym f)
shown_more n m (r ∷ replies) reply e =
    let f : m ≡ (n + 1) + length replies = omega arith in
    ap (λ xs. reply_line n r ∷ xs) (shown_more (n + 1) m replies reply f)

shows_more : (w v u : Written) (replies : List Reply) (reply : Reply) (m : ℕ) → m ≡ length replies → AddsEach w v (shown_from 0 replies) → AddsOne v u (reply_line m reply)
    → AddsEach w u (shown_from 0 (replies ++ reply ∷ []))
shows_more w v u replies reply m e all one =
    let f : m ≡ 0 + length replies = omega arith in
    subst (λ xs. AddsEach w u xs) (sym (shown_more 0 m replies reply f)) (each_more w v u (shown_from 0 replies) (reply_line m reply ∷ []) all one)

-- a text under the next number is cut, behind replies that are written
cut_behind : (w v u : Written) (replies : List Reply) (text : ℕ → List ℕ) (m : ℕ) → m ≡ length replies → AddsEach w v (shown_from 0 replies) → AddsPart v u (text m)
    → AddsFront w u (shown_from 0 replies) (text (length replies))
cut_behind w v u replies text m e all front = record { between = v; each = all; front = subst (λ j. AddsPart v u (text j)) e front }

opens_more : (replies more : List Reply) → OpensFirst replies → OpensFirst (replies ++ more)
opens_more [] more opens = absurd opens
opens_more (reply ∷ replies) more opens = opens

shell_more : (texts : List (List ℕ)) (events : List Event) (text : List ℕ) (event : Event) → AreShellLines texts events → IsShellLine text event
    → AreShellLines (texts ++ text ∷ []) (events ++ event ∷ [])
shell_more [] [] text event s is = (is, tt)
shell_more [] (e ∷ events) text event s is = absurd s
shell_more (t ∷ texts) [] text event s is = absurd s
shell_more (t ∷ texts) (e ∷ events) text event s is = (s.0, shell_more texts events text event s.1 is)

-- where a reading answers that no shell's line is there, none is
never_read : (event : Event) → IsReadTo (Err NotInGrammar) event → ⊥
never_read event (inl e) = absurd (cc)
never_read event (inr e) = absurd (cc)

pub is_bad : (text : List ℕ) → ((event : Event) → IsShellLine text event → IsReadTo (Err NotInGrammar) event) → IsBad text
is_bad text only event is = never_read event (only event is)

-- ---- the whole

module _ (client : ℕ) (events : List Event) (s z : Seen) (shells : OpenNone events) where
  run_once : (later : List Event) (replies : List Reply) (play : Play) → OpenNone later → WereRun (Open 1 client ∷ later) replies s z play → OpensNoneTwice s z
  run_once later replies play none run = run.played.once (once_whole (Open 1 client ∷ later) run.lines replies run.whole (shell_once client later none))

  closed_behind : OpenNone (events ++ Close 1 ∷ [])
  closed_behind = none_more events (Close 1 ∷ []) shells (one_none (Close 1) (λ other h. h))

  stop_once : (later : List Event) (replies : List Reply) (event : Event) → OpenNone (later ++ event ∷ []) → WereStopped (Open 1 client ∷ later) replies event s z → OpensNoneTwice s z
  stop_once later replies event none stop =
      stopped_in_once (Open 1 client ∷ later) stop.lines replies event s z stop.whole stop.stopped (shell_once client (later ++ event ∷ []) none)

  cut_once : (later : List (List ℕ)) (w u : Written) → WasCut client events later (effects w s) (effects u z) → OpensNoneTwice s z
  cut_once later w u (cut_opening reply play none run front) = run_once [] (reply ∷ []) play (λ other h. h) run
  cut_once later w u (cut_line replies reply play run opens front) = run_once events (replies ++ reply ∷ []) play shells run
  cut_once later w u (cut_closing replies reply play none run opens front) = run_once (events ++ Close 1 ∷ []) (replies ++ reply ∷ []) play closed_behind run
  cut_once later w u (cut_refusal replies play bad run opens front) = run_once events replies play shells run

  -- where memory ran out
  out_once : (later : List (List ℕ)) (w u : Written) → ShellRanOut client events later (effects w s) (effects u z) → OpensNoneTwice s z
  out_once later w u (out_before nothing) = once_nothing s z nothing.seen
  out_once later w u (out_writing cut) = cut_once later w u cut
  out_once later w u (out_between replies play run opens wrote) = run_once events replies play shells run
  out_once later w u (out_opening stopped same) = stopped_in_once [] stopped.lines [] (Open 1 client) s z stopped.whole stopped.stopped (shell_once client [] (λ other h. h))
  out_once later w u (out_next replies event next stopped opens wrote) =
      stop_once events replies event (none_more events (event ∷ []) shells (one_none event (next_shells later event next))) stopped

  ended_once : (result : Result (Unit {0}) ShellFault) (later : List (List ℕ)) (w u : Written) → ShellEnded result client events later (effects w s) (effects u z) → OpensNoneTwice s z
  ended_once (Ok done) later w u so = run_once (events ++ Close 1 ∷ []) so.1.replies so.1.play closed_behind so.1.run
  ended_once (Err NotOpened) later w u so = run_once [] (so.reply ∷ []) so.play (λ other h. h) so.run
  ended_once (Err BadLine) later w u so = run_once events so.1.replies so.1.play shells so.1.run
  ended_once (Err WriteFault) later w u so = cut_once later w u so
  ended_once (Err Memory) later w u so = out_once later w u so

-- how it went, by how it ended
shell_went : {client : ℕ} {text : List ℕ} {result : Result (Unit {0}) ShellFault} {w u : Written} {s z : Seen} → (events : List Event) (earlier later : List (List ℕ))
    → lines_of text ≡ earlier ++ later → AreShellLines earlier events → ShellEnded result client events later (effects w s) (effects u z) → ShellWent client text result (effects w s) (effects u z)
shell_went {client} {text} {result} {w} {u} {s} {z} events earlier later at spelled so = record {
  events = events;
  earlier = earlier;
  later = later;
  at = at;
  spelled = spelled;
  so = so;
  opens_once = ended_once client events s z (all_shells earlier events spelled) result later w u so;
}

-- ---- one event

-- an event that was run, and whose last reply was written, or a part of it
pub event_shown : (event : Event) (n : ℕ) (reply : Reply) (w u : Written) (s t : Seen) (old new : Play) (written : Result (Unit {0}) OutputFault) → IsRun event reply s t old new
    → WasWritten w u (reply_line n reply) written → EventRan (shown_by written reply) n event (effects w s, old) (effects u t, new)
event_shown event n reply w u s t old new (Ok done) run p = (run, p.0)
event_shown event n reply w u s t old new (Err output.WriteFault) run p = (reply, run, p.0)
event_shown event n reply w u s t old new (Err output.Memory) run p = out_reply reply run p.0

-- an opening whose reply was written ends as the reply says
pub opening_shown : (client : ℕ) (reply : Reply) (w u : Written) (s t : Seen) (old new : Play) → EventRan (Ok reply) 0 (Open 1 client) (effects w s, old) (effects u t, new)
    → OpeningRan (opened_by reply) client (effects w s, old) (effects u t, new)
opening_shown client reply w u s t old new ran = on (is_opened reply) refl where
  on : (b : Bool) → is_opened reply ≡ b → OpeningRan (if b then Ok tt else Err NotOpened) client (effects w s, old) (effects u t, new)
  on true is = (reply, is, ran)
  on false is = (reply, is, ran)

-- ---- the opening

pub at_open : (client : ℕ) (text : List ℕ) (w u : Written) (s t : Seen) (old new : Play) → IsFresh true old
    → OpeningRan (Ok tt) client (effects w s, old) (effects u t, new) → HasRunLines client text text 0 (effects w s) (effects u t, new)
at_open client text w u s t old new fresh p = record {
  events = [];
  earlier = [];
  at = refl;
  spelled = tt;
  count = refl;
  replies = p.0 ∷ [];
  run = run_more [] [] (Open 1 client) p.0 s s t old new (run_nothing s old fresh) (no_report_opens client) p.2.0;
  opened = p.1;
  wrote = p.2.1;
}

open_out : (client : ℕ) (text : List ℕ) (w u : Written) (s t : Seen) (old new : Play) → IsFresh true old
    → RanOutAt 0 (Open 1 client) (effects w s) (effects u t) old new → ShellEnded (Err Memory) client [] (lines_of text) (effects w s) (effects u t)
open_out client text w u s t old new fresh (out_reply reply ran front) =
    out_writing (cut_opening reply new refl (run_more [] [] (Open 1 client) reply s s t old new (run_nothing s old fresh) (no_report_opens client) ran) front)
open_out client text w u s t old new fresh (out_event stops same) =
    out_opening (run_stopped [] [] (Open 1 client) s s t old new (run_nothing s old fresh) (no_report_opens client) stops) same

open_ended : (client : ℕ) (text : List ℕ) (w u : Written) (s t : Seen) (old new : Play) (fault : ShellFault) → IsFresh true old
    → OpeningRan (Err fault) client (effects w s, old) (effects u t, new) → ShellEnded (Err fault) client [] (lines_of text) (effects w s) (effects u t)
open_ended client text w u s t old new NotOpened fresh p = record {
  reply = p.0;
  play = new;
  run = run_more [] [] (Open 1 client) p.0 s s t old new (run_nothing s old fresh) (no_report_opens client) p.2.0;
  closed = p.1;
  wrote = p.2.1;
}
open_ended client text w u s t old new BadLine fresh p = absurd p
open_ended client text w u s t old new WriteFault fresh p =
    cut_opening p.0 new refl (run_more [] [] (Open 1 client) p.0 s s t old new (run_nothing s old fresh) (no_report_opens client) p.1) p.2
open_ended client text w u s t old new Memory fresh p = open_out client text w u s t old new fresh p

pub open_fault : (client : ℕ) (text : List ℕ) (w u : Written) (s t : Seen) (old new : Play) (fault : ShellFault) → IsFresh true old
    → OpeningRan (Err fault) client (effects w s, old) (effects u t, new) → ShellWent client text (Err fault) (effects w s) (effects u t)
open_fault client text w u s t old new fault fresh p = shell_went [] [] (lines_of text) refl tt
    (open_ended client text w u s t old new fault fresh p)

-- where there is no memory for a world
pub out_first : (client : ℕ) (text : List ℕ) (w u : Written) (s t : Seen) → NothingRan (effects w s) (effects u t) → ShellWent client text (Err Memory) (effects w s) (effects u t)
out_first client text w u s t nothing = shell_went [] [] (lines_of text) refl tt
    (out_before nothing)

-- ---- one line more

replies_count : (client : ℕ) (text rest : List ℕ) (n m : ℕ) (w v : Written) (s t : Seen) (play : Play)
    → (is : HasRunLines client text rest n (effects w s) (effects v t, play)) → m ≡ n + 1 → m ≡ length is.replies
replies_count client text rest n m w v s t play is next =
    let c : length is.events ≡ n = is.count in
    let d : length is.replies ≡ length (Open 1 client ∷ is.events) = is.run.count in
    omega arith

pub at_more : (client : ℕ) (text rest behind line : List ℕ) (n m : ℕ) (w v u : Written) (s t z : Seen) (old new : Play)
    → HasRunLines client text rest n (effects w s) (effects v t, old) → lines_of rest ≡ line ∷ lines_of behind → m ≡ n + 1 → LineRan (Ok tt) m line (effects v t, old) (effects u z, new)
    → HasRunLines client text behind m (effects w s) (effects u z, new)
at_more client text rest behind line n m w v u s t z old new is split next (event_run event (Ok reply) spells e ran) = record {
  events = is.events ++ event ∷ [];
  earlier = is.earlier ++ line ∷ [];
  at = is.at ∙ ap (λ ls. is.earlier ++ ls) split ∙ sym (append_assoc is.earlier (line ∷ []) (lines_of behind));
  spelled = shell_more is.earlier is.events line event is.spelled spells;
  count = omega (arith, length-append is.events (event ∷ []), is.count);
  replies = is.replies ++ reply ∷ [];
  run = run_more (Open 1 client ∷ is.events) is.replies event reply s t z old new is.run (no_report_shells line event spells) ran.0;
  opened = opens_more is.replies (reply ∷ []) is.opened;
  wrote = shows_more w v u is.replies reply m (replies_count client text rest n m w v s t old is next) is.wrote ran.1;
}
at_more client text rest behind line n m w v u s t z old new is split next (event_run event (Err fault) spells e ran) = absurd (cc)
at_more client text rest behind line n m w v u s t z old new is split next (refused bad e p) = absurd p
at_more client text rest behind line n m w v u s t z old new is split next (unread e f same) = absurd (cc)

-- where a shell stops between two lines for want of memory
pub at_stop : (client : ℕ) (text rest : List ℕ) (n : ℕ) (w v : Written) (s t : Seen) (play : Play)
    → HasRunLines client text rest n (effects w s) (effects v t, play) → ShellWent client text (Err Memory) (effects w s) (effects v t)
at_stop client text rest n w v s t play is = shell_went is.events is.earlier (lines_of rest) is.at is.spelled
    (out_between is.replies play is.run is.opened is.wrote)

-- ---- the end

close_out : (client : ℕ) (text rest : List ℕ) (n m : ℕ) (w v u : Written) (s t z : Seen) (old new : Play)
    → (is : HasRunLines client text rest n (effects w s) (effects v t, old)) → m ≡ n + 1 → RanOutAt m (Close 1) (effects v t) (effects u z) old new → ShellEnded (Err Memory) client is.events [] (effects w s) (effects u z)
close_out client text rest n m w v u s t z old new is next (out_reply reply ran front) =
    out_writing
    (cut_closing is.replies reply new refl (run_more (Open 1 client ∷ is.events) is.replies (Close 1) reply s t z old new is.run no_report_closes ran) is.opened
    (cut_behind w v u is.replies (λ j. reply_line j reply) m (replies_count client text rest n m w v s t old is next) is.wrote front))
close_out client text rest n m w v u s t z old new is next (out_event stops same) =
    out_next is.replies (Close 1) refl (run_stopped (Open 1 client ∷ is.events) is.replies (Close 1) s t z old new is.run no_report_closes stops) is.opened
    (subst (λ x. AddsEach w x (shown_from 0 is.replies)) (sym same) is.wrote)

close_ended : (client : ℕ) (text rest : List ℕ) (n m : ℕ) (w v u : Written) (s t z : Seen) (old new : Play)
    → (is : HasRunLines client text rest n (effects w s) (effects v t, old)) → m ≡ n + 1 → (answer : Result Reply ShellFault) → EventRan answer m (Close 1) (effects v t, old) (effects u z, new)
    → ShellEnded (ended answer) client is.events [] (effects w s) (effects u z)
close_ended client text rest n m w v u s t z old new is next (Ok reply) ran = (
  refl,
  record {
    replies = is.replies ++ reply ∷ [];
    play = new;
    run = run_more (Open 1 client ∷ is.events) is.replies (Close 1) reply s t z old new is.run no_report_closes ran.0;
    opened = opens_more is.replies (reply ∷ []) is.opened;
    wrote = shows_more w v u is.replies reply m (replies_count client text rest n m w v s t old is next) is.wrote ran.1;
  },
)
close_ended client text rest n m w v u s t z old new is next (Err NotOpened) ran = absurd ran
close_ended client text rest n m w v u s t z old new is next (Err BadLine) ran = absurd ran
close_ended client text rest n m w v u s t z old new is next (Err WriteFault) ran =
    cut_closing is.replies ran.0 new refl (run_more (Open 1 client ∷ is.events) is.replies (Close 1) ran.0 s t z old new is.run no_report_closes ran.1) is.opened
    (cut_behind w v u is.replies (λ j. reply_line j ran.0) m (replies_count client text rest n m w v s t old is next) is.wrote ran.2)
close_ended client text rest n m w v u s t z old new is next (Err Memory) ran = close_out client text rest n m w v u s t z old new is next ran

pub at_end : (client : ℕ) (text rest : List ℕ) (n m : ℕ) (w v u : Written) (s t z : Seen) (old new : Play) (result : Result (Unit {0}) ShellFault)
    → HasRunLines client text rest n (effects w s) (effects v t, old) → rest ≡ [] → m ≡ n + 1 → ClosingRan result m (effects v t) (effects u z) old new → ShellWent client text result (effects w s) (effects u z)
at_end client text rest n m w v u s t z old new result is none next closing = shell_went is.events is.earlier [] (is.at ∙ ap (λ r. is.earlier ++ lines_of r) none) is.spelled
    (subst (λ r. ShellEnded r client is.events [] (effects w s) (effects u z)) (sym closing.ends) (close_ended client text rest n m w v u s t z old new is next closing.answer closing.ran))

-- ---- a line that ends the shell

-- a line was met
pub record IsMet (client : ℕ) (cut : TextCut) (n m : ℕ) (start : Effects) (now : Effects × Play) : Type 0 where
  pub is : HasRunLines client cut.whole cut.rest n start now
  pub split : lines_of cut.rest ≡ cut.line ∷ lines_of cut.behind
  pub next : m ≡ n + 1

met_count : {client : ℕ} {text rest behind line : List ℕ} {n m : ℕ} {w v : Written} {s t : Seen} {old : Play}
    → (met : IsMet client (text_cut text rest behind line) n m (effects w s) (effects v t, old)) → m ≡ length met.is.replies
met_count {client} {text} {rest} {behind} {line} {n} {m} {w} {v} {s} {t} {old} met = replies_count client text rest n m w v s t old met.is met.next

-- the shell ends before it
ends_before : {client : ℕ} {text rest behind line : List ℕ} {n m : ℕ} {w v : Written} {s t : Seen} {old : Play}
    → (result : Result (Unit {0}) ShellFault) (u : Written) (z : Seen) → (met : IsMet client (text_cut text rest behind line) n m (effects w s) (effects v t, old))
    → ShellEnded result client met.is.events (line ∷ lines_of behind) (effects w s) (effects u z) → ShellWent client text result (effects w s) (effects u z)
ends_before {client} {text} {rest} {behind} {line} {n} {m} {w} {v} {s} {t} {old} result u z met so = shell_went met.is.events met.is.earlier (line ∷ lines_of behind) (met.is.at ∙ ap (λ ls. met.is.earlier ++ ls) met.split) met.is.spelled
    so

-- its reply is cut
ends_cut : {client : ℕ} {text rest behind line : List ℕ} {n m : ℕ} {w v : Written} {s t : Seen} {old : Play}
    → (met : IsMet client (text_cut text rest behind line) n m (effects w s) (effects v t, old)) (event : Event) (reply : Reply) (u : Written) (z : Seen) (new : Play)
    → IsShellLine line event → IsRun event reply t z old new → AddsPart v u (reply_line m reply)
    → ShellWent client text (Err WriteFault) (effects w s) (effects u z) × ShellWent client text (Err Memory) (effects w s) (effects u z)
ends_cut {client} {text} {rest} {behind} {line} {n} {m} {w} {v} {s} {t} {old} met event reply u z new spells ran front =
    let is = met.is in
    let at : lines_of text ≡ (is.earlier ++ line ∷ []) ++ lines_of behind =
    is.at ∙ ap (λ ls. is.earlier ++ ls) met.split ∙ sym (append_assoc is.earlier (line ∷ []) (lines_of behind)) in
    let run : WereRun (Open 1 client ∷ (is.events ++ event ∷ [])) (is.replies ++ reply ∷ []) s z new =
    run_more (Open 1 client ∷ is.events) is.replies event reply s t z old new is.run (no_report_shells line event spells) ran in
    let wrote : AddsFront w u (shown_from 0 is.replies) (reply_line (length is.replies) reply) =
    cut_behind w v u is.replies (λ j. reply_line j reply) m (met_count met) is.wrote front in
    let spelled : AreShellLines (is.earlier ++ line ∷ []) (is.events ++ event ∷ []) = shell_more is.earlier is.events line event is.spelled spells in (
      shell_went (is.events ++ event ∷ []) (is.earlier ++ line ∷ []) (lines_of behind) at spelled (cut_line is.replies reply new run is.opened wrote),
      shell_went (is.events ++ event ∷ []) (is.earlier ++ line ∷ []) (lines_of behind) at spelled
          (out_writing (cut_line is.replies reply new run is.opened wrote)),
    )

event_out : {client : ℕ} {text rest behind line : List ℕ} {n m : ℕ} {w v : Written} {s t : Seen} {old : Play}
    → (met : IsMet client (text_cut text rest behind line) n m (effects w s) (effects v t, old)) (event : Event) (u : Written) (z : Seen) (new : Play) → IsShellLine line event
    → RanOutAt m event (effects v t) (effects u z) old new → ShellWent client text (Err Memory) (effects w s) (effects u z)
event_out {client} {text} {rest} {behind} {line} {n} {m} {w} {v} {s} {t} {old} met event u z new spells (out_reply reply ran front) =
    (ends_cut met event reply u z new spells ran front).1
event_out {client} {text} {rest} {behind} {line} {n} {m} {w} {v} {s} {t} {old} met event u z new spells (out_event stops same) =
    let is = met.is in
    ends_before (Err Memory) u z met
    (out_next is.replies event spells (run_stopped (Open 1 client ∷ is.events) is.replies event s t z old new is.run (no_report_shells line event spells) stops) is.opened
    (subst (λ x. AddsEach w x (shown_from 0 is.replies)) (sym same) is.wrote))

event_fault : {client : ℕ} {text rest behind line : List ℕ} {n m : ℕ} {w v : Written} {s t : Seen} {old : Play}
    → (met : IsMet client (text_cut text rest behind line) n m (effects w s) (effects v t, old)) (event : Event) (u : Written) (z : Seen) (new : Play) (fault : ShellFault)
    → IsShellLine line event → EventRan (Err fault) m event (effects v t, old) (effects u z, new) → ShellWent client text (Err fault) (effects w s) (effects u z)
event_fault met event u z new NotOpened spells ran = absurd ran
event_fault met event u z new BadLine spells ran = absurd ran
event_fault met event u z new WriteFault spells ran = (ends_cut met event ran.0 u z new spells ran.1 ran.2).0
event_fault met event u z new Memory spells ran = event_out met event u z new spells ran

-- its refusal is written, or a part of it
line_refused : {client : ℕ} {text rest behind line : List ℕ} {n m : ℕ} {w v : Written} {s t : Seen} {old : Play}
    → (met : IsMet client (text_cut text rest behind line) n m (effects w s) (effects v t, old)) (u : Written) (z : Seen) (fault : ShellFault)
    → IsBad line → z ≡ t → LineRefused (Err fault) m v u → ShellEnded (Err fault) client met.is.events (line ∷ lines_of behind) (effects w s) (effects u z)
line_refused {client} {text} {rest} {behind} {line} {n} {m} {w} {v} {s} {t} {old} met u z NotOpened bad same p = absurd p
line_refused {client} {text} {rest} {behind} {line} {n} {m} {w} {v} {s} {t} {old} met u z BadLine bad same p =
    let is = met.is in (
      bad,
      record {
        replies = is.replies;
        play = old;
        run = run_same (Open 1 client ∷ is.events) is.replies s t z old same is.run;
        opened = is.opened;
        wrote = subst (λ j. AddsEach w u (shown_from 0 is.replies ++ bad_line j ∷ [])) (met_count met)
            (each_more w v u (shown_from 0 is.replies) (bad_line m ∷ []) is.wrote p);
      },
    )
line_refused {client} {text} {rest} {behind} {line} {n} {m} {w} {v} {s} {t} {old} met u z WriteFault bad same p =
    let is = met.is in
    cut_refusal is.replies old bad (run_same (Open 1 client ∷ is.events) is.replies s t z old same is.run) is.opened
    (cut_behind w v u is.replies bad_line m (met_count met) is.wrote p)
line_refused {client} {text} {rest} {behind} {line} {n} {m} {w} {v} {s} {t} {old} met u z Memory bad same p =
    let is = met.is in
    out_writing
    (cut_refusal is.replies old bad (run_same (Open 1 client ∷ is.events) is.replies s t z old same is.run) is.opened
    (cut_behind w v u is.replies bad_line m (met_count met) is.wrote p))

-- it was not read for want of memory
line_unread : {client : ℕ} {text rest behind line : List ℕ} {n m : ℕ} {w v : Written} {s t : Seen} {old : Play}
    → (met : IsMet client (text_cut text rest behind line) n m (effects w s) (effects v t, old)) (u : Written) (z : Seen) → z ≡ t → u ≡ v
    → ShellWent client text (Err Memory) (effects w s) (effects u z)
line_unread {client} {text} {rest} {behind} {line} {n} {m} {w} {v} {s} {t} {old} met u z same told =
    let is = met.is in
    ends_before (Err Memory) u z met
    (out_between is.replies old (run_same (Open 1 client ∷ is.events) is.replies s t z old same is.run) is.opened
    (subst (λ x. AddsEach w x (shown_from 0 is.replies)) (sym told) is.wrote))

by_fault : {client : ℕ} {text rest behind line : List ℕ} {n m : ℕ} {w v : Written} {s t : Seen} {old : Play}
    → (met : IsMet client (text_cut text rest behind line) n m (effects w s) (effects v t, old)) (u : Written) (z : Seen) (new : Play) (fault : ShellFault)
    → LineRan (Err fault) m line (effects v t, old) (effects u z, new) → ShellWent client text (Err fault) (effects w s) (effects u z)
by_fault met u z new fault (event_run event (Ok reply) spells e ran) = absurd (cc)
by_fault {client} {text} {rest} {behind} {line} {n} {m} {w} {v} {s} {t} {old} met u z new fault (event_run event (Err why) spells e ran) =
    subst (λ r. ShellWent client text r (effects w s) (effects u z)) (sym e) (event_fault met event u z new why spells ran)
by_fault met u z new fault (refused bad same p) = ends_before (Err fault) u z met (line_refused met u z fault bad same p)
by_fault {client} {text} {rest} {behind} {line} {n} {m} {w} {v} {s} {t} {old} met u z new fault (unread e same told) =
    subst (λ r. ShellWent client text r (effects w s) (effects u z)) (sym e) (line_unread met u z same told)

pub at_fault : (client : ℕ) (text rest behind line : List ℕ) (n m : ℕ) (w v u : Written) (s t z : Seen) (old new : Play) (fault : ShellFault)
    → HasRunLines client text rest n (effects w s) (effects v t, old) → lines_of rest ≡ line ∷ lines_of behind → m ≡ n + 1 → LineRan (Err fault) m line (effects v t, old) (effects u z, new)
    → ShellWent client text (Err fault) (effects w s) (effects u z)
at_fault client text rest behind line n m w v u s t z old new fault is split next ran =
    let met : IsMet client (text_cut text rest behind line) n m (effects w s) (effects v t, old) = record { is = is; split = split; next = next } in
    by_fault met u z new fault ran
