-- The events of a shell open one client, once.
use Rattle.std.proofs.Common.{◌≡◌, ℕ, List, [], ◌∷◌, ◌++◌, Some, true, false, refl, sym, ap, subst, ◌∙◌, append_assoc, ◌⊎◌, inl, inr}
use Rattle.cloud_trait.specs.Seen.{Seen}
use Rattle.event_text.specs.declared.event.Event.{Event}
use Rattle.event_text.specs.declared.event.Event.TheVariants as event
use Rattle.event_text.specs.declared.keyword.Keyword.{Keyword}
use Rattle.event_text.specs.declared.keyword.Keyword.TheVariants as word
use Rattle.event_text.specs.Keyword.{keyword_text, keyword_of, is_shell}
use Rattle.event_text.specs.Event.{IsShellLine}
use Rattle.reply_text.specs.declared.reply.Reply.{Reply}
use Rattle.reply_text.specs.declared.reply.Reply.TheVariants.{Begun}
use Rattle.replay_meaning.specs.Standing.{Line}
use Rattle.world_core.specs.Opened.{AsksToOpen, IsOpenedIn, OpenEachOnce}
use Rattle.world_core.proofs.OpenedLines.{once_before, opened_new, opened_more, opened_last}
use Rattle.schedule_run.specs.Answered.{IsNoReport, events_of, OpensNoneTwice}
use Rattle.schedule_run.specs.Shell.{AreShellLines, IsWhole, alone, with_run, AreWhole, no_events, more_events, StoppedIn, in_event, in_run, IsNextOf}
use Rattle.schedule_run.proofs.OnceLemmas.{OpenNone, events_more, opened_either, none_once, once_push, stopped_once}

-- ---- a shell's line opens no client

keyword_again : (keyword : Keyword) → keyword_of (keyword_text keyword) ≡ Some keyword
keyword_again word.Settle = refl
keyword_again keyword = refl

first_word : List (List ℕ) → List ℕ
first_word [] = []
first_word (w ∷ ws) = w

-- a word of no shell's line does not begin one
never_first : (own keyword : Keyword) → is_shell own ≡ false → keyword_text own ≡ keyword_text keyword → is_shell keyword ≡ true → ⊥
never_first own keyword other e shell =
    let found : Some own ≡ Some keyword = sym (keyword_again own) ∙ ap keyword_of e ∙ keyword_again keyword in
    let same : own ≡ keyword = cc in
    let never : false ≡ true = sym other ∙ ap is_shell same ∙ shell in
    absurd (cc)

pub of_shell : (text : List ℕ) (e : Event) → IsShellLine text e → (client : ℕ) → AsksToOpen e client → ⊥
unfolding first_word
of_shell text (event.Open session own) line client opens = never_first word.Open line.keyword refl (ap first_word line.words) line.shell
of_shell text e line client opens = absurd opens

-- and asks for no report
pub no_report_shells : (text : List ℕ) (e : Event) → IsShellLine text e → IsNoReport e
unfolding first_word
no_report_shells text e line tree asked =
    let report : IsShellLine text (event.Report tree) = subst (IsShellLine text) asked line in
    never_first word.Report report.keyword refl (ap first_word report.words) report.shell

-- the events of these lines
pub all_shells : (texts : List (List ℕ)) (events : List Event) → AreShellLines texts events → OpenNone events
all_shells [] [] spelled client h = absurd h
all_shells [] (e ∷ events) spelled client h = absurd spelled
all_shells (t ∷ texts) [] spelled client h = absurd h
all_shells (t ∷ texts) (e ∷ events) spelled client (inl h) = of_shell t e spelled.0 client h
all_shells (t ∷ texts) (e ∷ events) spelled client (inr h) = all_shells texts events spelled.1 client h

-- what a shell runs next
pub next_shells : (later : List (List ℕ)) (e : Event) → IsNextOf later e → (client : ℕ) → AsksToOpen e client → ⊥
next_shells [] e is client opens = subst (λ (x : Event). AsksToOpen x client) is opens
next_shells (text ∷ texts) e is client opens = of_shell text e is client opens

-- behind its opening
pub shell_once : (client : ℕ) (later : List Event) → OpenNone later → OpenEachOnce (event.Open 1 client ∷ later)
shell_once client later none = (λ other opens h. none other h, none_once later none)

-- ---- events that are run whole

-- what is handled of one opens what it opens
in_it : (e : Event) (of_it : List Line) (reply : Reply) → IsWhole e of_it reply → (client : ℕ) → IsOpenedIn (events_of of_it) client → AsksToOpen e client
in_it e _ reply (alone _ other) client (inl h) = h
in_it e _ reply (alone _ other) client (inr h) = absurd h
in_it e _ reply (with_run _) client (inl h) = h
in_it e _ reply (with_run _) client (inr (inl h)) = absurd h
in_it e _ reply (with_run _) client (inr (inr h)) = absurd h

in_whole : (events : List Event) (lines : List Line) (replies : List Reply) → AreWhole events lines replies → (client : ℕ) → IsOpenedIn (events_of lines) client → IsOpenedIn events client
in_whole _ _ _ no_events client h = absurd h
in_whole _ _ _ (more_events events e lines of_it replies reply whole it) client h =
    on (in_whole events lines replies whole client) (opened_either (events_of lines) (events_of of_it) client (subst (λ es. IsOpenedIn es client) (events_more lines of_it) h))
  where
    on : (IsOpenedIn (events_of lines) client → IsOpenedIn events client) → IsOpenedIn (events_of lines) client ⊎ IsOpenedIn (events_of of_it) client
        → IsOpenedIn (events ++ e ∷ []) client
    on so (inl k) = opened_more events e client (so k)
    on so (inr k) = opened_last events e client (in_it e of_it reply it client k)

-- an event behind lines that are whole
whole_push : (events : List Event) (lines : List Line) (replies : List Reply) (e : Event) → AreWhole events lines replies → OpenEachOnce (events ++ e ∷ []) → OpenEachOnce (events_of lines)
    → OpenEachOnce (events_of lines ++ e ∷ [])
whole_push events lines replies e whole once so =
    once_push (events_of lines) e so (λ client opens h. opened_new events e client once opens (in_whole events lines replies whole client h))

run_push : (events : List Event) → OpenEachOnce events → OpenEachOnce (events ++ event.Run 1 ∷ [])
run_push events once = once_push events (event.Run 1) once (λ client opens h. opens)

it_push : (e : Event) (lines of_it : List Line) (reply : Reply) → IsWhole e of_it reply → OpenEachOnce (events_of lines ++ e ∷ []) → OpenEachOnce (events_of (lines ++ of_it))
it_push e lines _ reply (alone _ other) once = subst OpenEachOnce (sym (events_more lines (record { event = e; reply = reply } ∷ []))) once
it_push e lines _ reply (with_run _) once =
    subst OpenEachOnce
    (sym (events_more lines (record { event = e; reply = Begun } ∷ record { event = event.Run 1; reply = reply } ∷ [])
    ∙ sym (append_assoc (events_of lines) (e ∷ []) (event.Run 1 ∷ []))))
    (run_push (events_of lines ++ e ∷ []) once)

pub once_whole : (events : List Event) (lines : List Line) (replies : List Reply) → AreWhole events lines replies → OpenEachOnce events → OpenEachOnce (events_of lines)
once_whole _ _ _ no_events once = tt
once_whole _ _ _ (more_events events e lines of_it replies reply whole it) once =
    it_push e lines of_it reply it (whole_push events lines replies e whole once (once_whole events lines replies whole (once_before events (e ∷ []) once)))

-- memory ran out at an event behind them
pub stopped_in_once : (events : List Event) (lines : List Line) (replies : List Reply) (e : Event) (s z : Seen) → AreWhole events lines replies → StoppedIn e lines s z
    → OpenEachOnce (events ++ e ∷ []) → OpensNoneTwice s z
stopped_in_once events lines replies e s z whole (in_event stopped) once =
    stopped_once e lines s z stopped (whole_push events lines replies e whole once (once_whole events lines replies whole (once_before events (e ∷ []) once)))
stopped_in_once events lines replies e s z whole (in_run stopped) once =
    let began : List Line = lines ++ record { event = e; reply = Begun } ∷ [] in
    let so : OpenEachOnce (events_of lines ++ e ∷ []) =
    whole_push events lines replies e whole once (once_whole events lines replies whole (once_before events (e ∷ []) once)) in
    stopped_once (event.Run 1) began s z stopped
    (run_push (events_of began) (subst OpenEachOnce (sym (events_more lines (record { event = e; reply = Begun } ∷ []))) so))
