-- Events that are handled one behind another in a new world.
use Rattle.std.proofs.Common.{zero, suc, ◌≡◌, ◌+◌, ℕ, List, [], ◌∷◌, ◌++◌, length, Result, Ok, Err, Bool, true, false, if◌then◌else◌, refl, sym, ap, subst, ◌∙◌, append_assoc, inl, inr, arith, length-append}
use Rattle.std.specs.Prelude.{◌%◌, ◌==◌, nat_le, None}
use Rattle.std.specs.Int.{to_be_bytes, w64}
use Rattle.std.proofs.lemmas.List.{append-nil}
use Rattle.cloud_trait.specs.Seen.{Seen}
use Rattle.db_io.specs.Writes.{Written}
use Rattle.event_text.specs.declared.event.Event.{Event}
use Rattle.event_text.specs.declared.event.Event.TheVariants.{Open, Close, Insert, Update, Delete, Commit, Page, Tree, Run, Report, Settle}
use Rattle.db_io.specs.Output.{WasWritten}
use Rattle.db_io.specs.declared.output.OutputFault.{OutputFault}
use Rattle.db_io.specs.declared.output.OutputFault.TheVariants.{WriteFault, Memory}
use Rattle.reply_text.specs.declared.reply.Reply.{Reply}
use Rattle.replay_meaning.specs.Standing.{Line}
use Rattle.schedule_run.specs.Outside.{effects}
use Rattle.schedule_run.specs.InPlay.{Play}
use Rattle.schedule_run.specs.Play.{IsFresh, IsNext, RanOut}
use Rattle.schedule_run.specs.Answered.{events_of, OpensNoneTwice}
use Rattle.schedule_run.specs.Generated.{Handles, StopsAmong, HandlesAll, HandlesFirst, GenEnded, out_before, out_handling, out_writing}
use Rattle.schedule_run.specs.Summary.{summary}
use Rattle.sched_gen.specs.Schedule.{next_state, drawn, key_of, change_event, checkpoint_events, round_events, state_after, rounds, openings, closings, schedule}
use Rattle.schedule_run.specs.Run.{Generates}
use Rattle.schedule_run.specs.Status.{status_of_output, ended_as}
use Rattle.world_core.specs.Opened.{IsOpenedIn, OpenEachOnce}
use Rattle.world_core.proofs.OpenedLines.{once_before}
use Rattle.schedule_run.proofs.OnceLemmas.{OpenNone, events_more, none_more, one_none, none_once, once_nothing, stopped_once}
use Rattle.schedule_run.proofs.PlayLemmas.{played_nothing, played_more, stopped_at}

-- ---- one event behind another

-- its world looks at puts
sees : {P : Type 0} → false ≡ true → P
sees e = absurd (cc)

pub among_none : (events : List Event) (s : Seen) (play : Play) → IsFresh false play → HandlesFirst events events s s play
among_none events s play fresh = record { done = []; at = refl; handles = record { lines = []; asked = refl; played = played_nothing s play fresh } }

handles_more : (events : List Event) (event : Event) (reply : Reply) (s t z : Seen) (old new : Play)
    → Handles events s t old → IsNext event reply t z old new → Handles (events ++ event ∷ []) s z new
handles_more events event reply s t z old new h next = record {
  lines = h.lines ++ record { event = event; reply = reply } ∷ [];
  asked = events_more h.lines (record { event = event; reply = reply } ∷ []) ∙ ap (λ es. es ++ event ∷ []) h.asked;
  played = played_more h.lines event reply s t z old new h.played sees next;
}

pub among_more : (events left rest : List Event) (event : Event) (reply : Reply) (s t z : Seen) (old new : Play)
    → HandlesFirst events left s t old → left ≡ event ∷ rest → IsNext event reply t z old new → HandlesFirst events rest s z new
among_more events left rest event reply s t z old new is split next = record {
  done = is.done ++ event ∷ [];
  at = is.at ∙ ap (λ es. is.done ++ es) split ∙ sym (append_assoc is.done (event ∷ []) rest);
  handles = handles_more is.done event reply s t z old new is.handles next;
}

pub among_all : (events left : List Event) (s t : Seen) (play : Play) → HandlesFirst events left s t play → left ≡ [] → Handles events s t play
among_all events left s t play is none =
    let all : events ≡ is.done = is.at ∙ ap (λ es. is.done ++ es) none ∙ append-nil is.done in
    subst (λ es. Handles es s t play) (sym all) is.handles

pub among_stop : (events left rest : List Event) (event : Event) (s t z : Seen) (old new : Play)
    → HandlesFirst events left s t old → left ≡ event ∷ rest → RanOut event t z old new → StopsAmong events s z
among_stop events left rest event s t z old new is split out = record {
  lines = is.handles.lines;
  event = event;
  later = rest;
  asked = is.at ∙ ap (λ es. is.done ++ es) split ∙ ap (λ es. es ++ event ∷ rest) (sym is.handles.asked);
  stopped = stopped_at is.handles.lines event s t z old new is.handles.played out;
}

-- ---- the last event, and the report

-- where memory ran out among the earlier events, it did among all
pub stop_earlier : (events more : List Event) (s t : Seen) → StopsAmong events s t → StopsAmong (events ++ more) s t
stop_earlier events more s t stop = record {
  lines = stop.lines;
  event = stop.event;
  later = stop.later ++ more;
  asked = ap (λ es. es ++ more) stop.asked ∙ append_assoc (events_of stop.lines) (stop.event ∷ stop.later) more;
  stopped = stop.stopped;
}

pub stop_next : (events : List Event) (event : Event) (s t z : Seen) (old new : Play) → Handles events s t old → RanOut event t z old new
    → StopsAmong (events ++ event ∷ []) s z
stop_next events event s t z old new h out = record {
  lines = h.lines;
  event = event;
  later = [];
  asked = ap (λ es. es ++ event ∷ []) (sym h.asked);
  stopped = stopped_at h.lines event s t z old new h.played out;
}

pub stop_report : (events : List Event) (last : Event) (settling : Reply) (s t y z : Seen) (old mid new : Play)
    → Handles events s t old → IsNext last settling t y old mid → RanOut (Report 1) y z mid new → StopsAmong ((events ++ last ∷ []) ++ Report 1 ∷ []) s z
stop_report events last settling s t y z old mid new h next out =
    stop_next (events ++ last ∷ []) (Report 1) s y z mid new (handles_more events last settling s t y old mid h next) out

pub handles_all : (events : List Event) (last : Event) (settling report : Reply) (s t y z : Seen) (old mid new : Play)
    → Handles events s t old → IsNext last settling t y old mid → IsNext (Report 1) report y z mid new → HandlesAll (events ++ last ∷ []) settling report s z
handles_all events last settling report s t y z old mid new h next shown = record {
  lines = h.lines;
  last = last;
  asked = ap (λ es. es ++ last ∷ []) (sym h.asked);
  play = new;
  played = played_more (h.lines ++ record { event = last; reply = settling } ∷ []) (Report 1) report s y z mid new
      (played_more h.lines last settling s t y old mid h.played sees next) sees shown;
}

-- what is written of them
gen_ended : (events : List Event) (settling report : Reply) (w u : Written) (s t : Seen) (result : Result (Unit {0}) OutputFault)
    → HandlesAll events settling report s t → WasWritten w u (summary (length events) settling report) result → GenEnded events result (effects w s) (effects u t)
gen_ended events settling report w u s t (Ok done) all written = record { settling = settling; report = report; handled = all; wrote = written.0 }
gen_ended events settling report w u s t (Err WriteFault) all written = record { settling = settling; report = report; handled = all; wrote = written.0 }
gen_ended events settling report w u s t (Err Memory) all written =
    out_writing (record { settling = settling; report = report; handled = all; wrote = written.0 })

pub gen_written : (earlier : List Event) (last : Event) (settling report : Reply) (w u : Written) (s t : Seen) (result : Result (Unit {0}) OutputFault)
    → HandlesAll (earlier ++ last ∷ []) settling report s t → WasWritten w u (summary (length earlier + 1) settling report) result
    → GenEnded (earlier ++ last ∷ []) result (effects w s) (effects u t)
gen_written earlier last settling report w u s t result all written =
    let count : length earlier + 1 ≡ length (earlier ++ last ∷ []) = omega (arith, length-append earlier (last ∷ [])) in
    gen_ended (earlier ++ last ∷ []) settling report w u s t result all (subst (λ n. WasWritten w u (summary n settling report) result) count written)

-- ---- no transaction is opened twice

all_once : (events : List Event) (settling report : Reply) (s t : Seen) → OpenEachOnce (events ++ Report 1 ∷ []) → HandlesAll events settling report s t → OpensNoneTwice s t
all_once events settling report s t once h = h.played.once (subst OpenEachOnce (sym same) once)
  where
    shown : Line
    shown = record { event = Report 1; reply = report }

    last : Line
    last = record { event = h.last; reply = settling }

    same : events_of ((h.lines ++ last ∷ []) ++ shown ∷ []) ≡ events ++ Report 1 ∷ []
    same = events_more (h.lines ++ last ∷ []) (shown ∷ []) ∙ ap (λ es. es ++ Report 1 ∷ []) (events_more h.lines (last ∷ []) ∙ sym h.asked)

among_once : (events : List Event) (s t : Seen) → OpenEachOnce events → StopsAmong events s t → OpensNoneTwice s t
among_once events s t once stop =
    let all : OpenEachOnce ((events_of stop.lines ++ stop.event ∷ []) ++ stop.later) =
    subst OpenEachOnce (stop.asked ∙ sym (append_assoc (events_of stop.lines) (stop.event ∷ []) stop.later)) once in
    stopped_once stop.event stop.lines s t stop.stopped (once_before (events_of stop.lines ++ stop.event ∷ []) stop.later all)

gen_once : (events : List Event) (result : Result (Unit {0}) OutputFault) (w u : Written) (s t : Seen) → OpenEachOnce (events ++ Report 1 ∷ []) → GenEnded events result (effects w s) (effects u t) → OpensNoneTwice s t
gen_once events (Ok done) w u s t once h = all_once events h.settling h.report s t once h.handled
gen_once events (Err WriteFault) w u s t once h = all_once events h.settling h.report s t once h.handled
gen_once events (Err Memory) w u s t once (out_before nothing) = once_nothing s t nothing.seen
gen_once events (Err Memory) w u s t once (out_handling stop same) = among_once (events ++ Report 1 ∷ []) s t once stop
gen_once events (Err Memory) w u s t once (out_writing cut) = all_once events cut.settling cut.report s t once cut.handled

-- ---- a schedule opens no client twice

change_none : (session place kind round : ℕ) → OpenNone (change_event session place kind round ∷ [])
change_none session place kind round client h = on (kind % 8 == 7) (nat_le (kind % 8) 3) h
  where
    on : (b c : Bool)
        → IsOpenedIn ((if b then Delete session 1 (key_of place) else (if c then Insert session 1 (key_of place) (to_be_bytes w64 round) None else Update session 1 (key_of place) (to_be_bytes w64 round))) ∷ []) client
        → ⊥
    on true c (inl h) = absurd h
    on true c (inr h) = absurd h
    on false true (inl h) = absurd h
    on false true (inr h) = absurd h
    on false false (inl h) = absurd h
    on false false (inr h) = absurd h

tree_none : (k : ℕ) → OpenNone (Tree k 1 ∷ Run k ∷ [])
tree_none k client (inl h) = absurd h
tree_none k client (inr (inl h)) = absurd h
tree_none k client (inr (inr h)) = absurd h

page_none : (k page : ℕ) → OpenNone (Page k 1 page ∷ Run k ∷ [])
page_none k page client (inl h) = absurd h
page_none k page client (inr (inl h)) = absurd h
page_none k page client (inr (inr h)) = absurd h

commit_none : (k : ℕ) → OpenNone (Commit k ∷ Run k ∷ [])
commit_none k client (inl h) = absurd h
commit_none k client (inr (inl h)) = absurd h
commit_none k client (inr (inr h)) = absurd h

checkpoint_none : (session round x : ℕ) → OpenNone (checkpoint_events session round x)
checkpoint_none session round x = on (round % 16 == 0) (round % 16 == 8)
  where
    on : (b c : Bool)
        → OpenNone (if b then Tree session 1 ∷ Run session ∷ [] else (if c then Page session 1 (1 + drawn (next_state x) % 64) ∷ Run session ∷ [] else []))
    on true c = tree_none session
    on false true = page_none session (1 + drawn (next_state x) % 64)
    on false false = λ client h. absurd h

round_none : (round x : ℕ) → OpenNone (round_events round x)
round_none round x =
    let first = next_state x in
    let second = next_state first in
    let third = next_state second in
    let session = 1 + drawn first % 4 in
    none_more (change_event session (drawn second) (drawn third) round ∷ []) (Commit session ∷ Run session ∷ checkpoint_events session round third)
    (change_none session (drawn second) (drawn third) round)
    (none_more (Commit session ∷ Run session ∷ []) (checkpoint_events session round third) (commit_none session) (checkpoint_none session round third))

rounds_none : (left round x : ℕ) → OpenNone (rounds left round x)
unfolding rounds
rounds_none zero round x = λ client h. absurd h
rounds_none (suc left) round x = none_more (round_events round x) (rounds left (round + 1) (state_after round x)) (round_none round x) (rounds_none left (round + 1) (state_after round x))

closing_none : (k : ℕ) → OpenNone (Close k ∷ Run k ∷ [])
closing_none k client (inl h) = absurd h
closing_none k client (inr (inl h)) = absurd h
closing_none k client (inr (inr h)) = absurd h

closings_none : OpenNone closings
closings_none =
    let four : List Event = Close 4 ∷ Run 4 ∷ Settle ∷ [] in
    let three : List Event = Close 3 ∷ Run 3 ∷ four in
    let two : List Event = Close 2 ∷ Run 2 ∷ three in
    none_more (Close 1 ∷ Run 1 ∷ []) two (closing_none 1)
    (none_more (Close 2 ∷ Run 2 ∷ []) three (closing_none 2)
    (none_more (Close 3 ∷ Run 3 ∷ []) four (closing_none 3)
    (none_more (Close 4 ∷ Run 4 ∷ []) (Settle ∷ []) (closing_none 4) (one_none Settle (λ client h. h)))))

-- a client that is opened, and run, before others
open_first : (k : ℕ) (events : List Event) → (IsOpenedIn events k → ⊥) → OpenEachOnce events → OpenEachOnce (Open k k ∷ Run k ∷ events)
open_first k events new once = (λ client opens h. new (subst (IsOpenedIn events) (sym opens) (behind client h)), (λ client never h. never, once))
  where
    behind : (client : ℕ) → IsOpenedIn (Run k ∷ events) client → IsOpenedIn events client
    behind client (inl h) = absurd h
    behind client (inr h) = h

-- it is not another one
open_other : (k client : ℕ) (events : List Event) → (k ≡ client → ⊥) → (IsOpenedIn events client → ⊥) → IsOpenedIn (Open k k ∷ Run k ∷ events) client → ⊥
open_other k client events ne new (inl h) = ne h
open_other k client events ne new (inr (inl h)) = absurd h
open_other k client events ne new (inr (inr h)) = new h

openings_once : (rest : List Event) → OpenNone rest → OpenEachOnce (openings ++ rest)
openings_once rest none =
    let three : List Event = Open 4 4 ∷ Run 4 ∷ rest in
    let two : List Event = Open 3 3 ∷ Run 3 ∷ three in
    let one : List Event = Open 2 2 ∷ Run 2 ∷ two in
    open_first 1 one (open_other 2 1 two (λ e. absurd (omega (arith, e))) (open_other 3 1 three (λ e. absurd (omega (arith, e))) (open_other 4 1 rest (λ e. absurd (omega (arith, e))) (none 1))))
    (open_first 2 two (open_other 3 2 three (λ e. absurd (omega (arith, e))) (open_other 4 2 rest (λ e. absurd (omega (arith, e))) (none 2)))
    (open_first 3 three (open_other 4 3 rest (λ e. absurd (omega (arith, e))) (none 3))
    (open_first 4 rest (none 4) (none_once rest none))))

schedule_once : (number count : ℕ) → OpenEachOnce (schedule number count ++ Report 1 ∷ [])
schedule_once number count =
    let middle : List Event = rounds count 1 number in
    let last : List Event = closings ++ (Report 1 ∷ []) in
    subst OpenEachOnce (sym (append_assoc (openings ++ middle) closings (Report 1 ∷ []) ∙ append_assoc openings middle last))
    (openings_once (middle ++ last)
    (none_more middle last (rounds_none count 1 number) (none_more closings (Report 1 ∷ []) closings_none (one_none (Report 1) (λ client h. h)))))

-- a generated schedule, by how it ended
pub gen_ran : (number count : ℕ) (ended : Result (Unit {0}) OutputFault) (w u : Written) (s t : Seen) → GenEnded (schedule number count) ended (effects w s) (effects u t)
    → Generates number count (ended_as status_of_output ended) (effects w s) (effects u t)
gen_ran number count ended w u s t went = record {
  ended = ended;
  leads = refl;
  went = went;
  opens_once = gen_once (schedule number count) ended w u s t (schedule_once number count) went;
}
