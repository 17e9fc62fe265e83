-- What lines add to any cloud is of its kind, and opens no transaction twice where they open no client twice.
use Rattle.std.proofs.Common.{◌≡◌, ◌+◌, ℕ, List, [], ◌∷◌, ◌++◌, length, Some, Ok, Err, Bool, false, refl, sym, ap, subst, ◌∙◌, ◌⊎◌, inl, inr}
use Rattle.cloud_trait.specs.State.{CloudState}
use Rattle.cloud_trait.specs.Seen.{Seen}
use Rattle.client_work.specs.Session.{Acting, closed_session}
use Rattle.event_text.specs.declared.event.Event.{Event}
use Rattle.reply_text.specs.declared.reply.Reply.{Reply}
use Rattle.replay_meaning.specs.Standing.{Line, unnamed}
use Rattle.session_facts.specs.Rows.Added.{AddsTo}
use Rattle.session_facts.specs.Lines.Facts.{session_at, ActsAs}
use Rattle.session_facts.specs.Rows.Opened.{AddsNoneTwice}
use Rattle.session_facts.proofs.Rows.Added.{adds_nothing as nothing_added}
use Rattle.session_facts.proofs.Rows.Opened.{apart_nothing}
use Rattle.session_facts.proofs.Lines.Start.{closed_at}
use Rattle.world_core.specs.World.{World, all_sessions}
use Rattle.world_core.specs.declared.world.WorldFault.{WorldFault}
use Rattle.world_core.specs.Added.{WorldAdds}
use Rattle.world_core.specs.Handled.{Handled}
use Rattle.world_core.specs.LeftShort.{LeavesShort}
use Rattle.world_core.specs.Opened.{AsksToOpen, IsOpenedIn, OpenEachOnce, WorldApart}
use Rattle.world_core.specs.Span.{span_of}
use Rattle.world_core.proofs.AddedLines.{handled_adds}
use Rattle.world_core.proofs.AddedShort.{handled_rows}
use Rattle.world_core.proofs.LeftShort.{left_short}
use Rattle.world_core.proofs.OpenedLines.{handled_apart, none_twice, once_before}
use Rattle.schedule_run.specs.Answered.{IsNew, WentOn, start, further, events_of, OpensNoneTwice}
use Rattle.schedule_run.specs.Play.{StoppedAt, stopped_before, stopped_within}

-- ---- lists of events

pub events_more : (lines more : List Line) → events_of (lines ++ more) ≡ events_of lines ++ events_of more
events_more [] more = refl
events_more (l ∷ lines) more = ap (λ es. l.event ∷ es) (events_more lines more)

pub opened_either : (events more : List Event) (client : ℕ) → IsOpenedIn (events ++ more) client → IsOpenedIn events client ⊎ IsOpenedIn more client
opened_either [] more client h = inr h
opened_either (e ∷ events) more client (inl h) = inl (inl h)
opened_either (e ∷ events) more client (inr h) = on (opened_either events more client h)
  where
    on : IsOpenedIn events client ⊎ IsOpenedIn more client → IsOpenedIn (e ∷ events) client ⊎ IsOpenedIn more client
    on (inl k) = inl (inr k)
    on (inr k) = inr k

-- none of these asks for the opening of a client
abbrev pub OpenNone : List Event → Type 0
OpenNone events = (client : ℕ) → IsOpenedIn events client → ⊥

pub none_more : (events more : List Event) → OpenNone events → OpenNone more → OpenNone (events ++ more)
none_more events more none also client h = on (opened_either events more client h)
  where
    on : IsOpenedIn events client ⊎ IsOpenedIn more client → ⊥
    on (inl k) = none client k
    on (inr k) = also client k

pub one_none : (e : Event) → ((client : ℕ) → AsksToOpen e client → ⊥) → OpenNone (e ∷ [])
one_none e none client (inl h) = none client h
one_none e none client (inr h) = absurd h

pub none_once : (events : List Event) → OpenNone events → OpenEachOnce events
none_once [] none = tt
none_once (e ∷ events) none = (λ client opens h. none client (inl opens), none_once events (λ client h. none client (inr h)))

-- an event behind others opens none of their clients
pub once_push : (events : List Event) (e : Event) → OpenEachOnce events → ((client : ℕ) → AsksToOpen e client → IsOpenedIn events client → ⊥) → OpenEachOnce (events ++ e ∷ [])
once_push [] e once new = (λ client opens h. h, tt)
once_push (x ∷ events) e once new =
    (λ client opens h. on client opens (opened_either events (e ∷ []) client h), once_push events e once.1 (λ client opens h. new client opens (inr h)))
  where
    on : (client : ℕ) → AsksToOpen x client → IsOpenedIn events client ⊎ IsOpenedIn (e ∷ []) client → ⊥
    on client opens (inl h) = once.0 client opens h
    on client opens (inr (inl h)) = new client h (inl opens)
    on client opens (inr (inr h)) = absurd h

-- ---- from a new world on

fresh_closed : {blind : Bool} → (world : World) → IsNew blind world → (n : ℕ) → session_at world.sessions n ≡ closed_session
fresh_closed world fresh n = ap (λ (l : List Acting). session_at l n) fresh.sessions ∙ closed_at all_sessions n

-- a new world added nothing to any cloud
fresh_adds : {blind : Bool} → (s : Seen) (world : World) (t : CloudState) → s.state ≡ Some t → IsNew blind world → WorldAdds [] t world s
fresh_adds s world t told fresh = record {
  rows = record { state = t; told = told; adds = nothing_added 0 [] t };
  acts = λ n. subst (λ (a : Acting). ActsAs a unnamed) (sym (fresh_closed world fresh n)) (record { buffer = refl; work = refl });
  rests = fresh_closed world fresh 0;
}

module _ {blind : Bool} (s : Seen) (first : World) (x : CloudState) (told : s.state ≡ Some x) (fresh : IsNew blind first) where
  pub went_adds : (lines : List Line) (t : Seen) (world : World) → WentOn s first lines t world → WorldAdds lines x world t
  went_adds _ t world start = fresh_adds s first x told fresh
  went_adds _ t world (further lines line mid _ old _ went handled) =
      handled_adds (length lines + 1) line.event mid t old world line.reply lines x refl handled (went_adds lines mid old went)

  pub went_apart : (lines : List Line) (t : Seen) (world : World) → WentOn s first lines t world → OpenEachOnce (events_of lines) → WorldApart (events_of lines) x world t
  went_apart _ t world start once = apart_nothing _ x _ s told (fresh_closed first fresh)
  went_apart _ t world (further lines line mid _ old _ went handled) once =
      let more : OpenEachOnce (events_of lines ++ line.event ∷ []) = subst OpenEachOnce (events_more lines (line ∷ [])) once in
      subst (λ es. WorldApart es x world t) (sym (events_more lines (line ∷ [])))
      (handled_apart (length lines + 1) line.event mid t old world (Ok line.reply) (events_of lines) lines x refl more handled (went_adds lines mid old went)
      (went_apart lines mid old went (once_before (events_of lines) (line.event ∷ []) more)))

-- lines that were handled
pub lines_once : {blind : Bool} → (lines : List Line) (s t : Seen) (first world : World) → WentOn s first lines t world → IsNew blind first → OpenEachOnce (events_of lines) → OpensNoneTwice s t
lines_once lines s t first world went fresh once x told = none_twice (events_of lines) x world t (went_apart s first x told fresh lines t world went once)

-- and behind them an event that has no reply
module _ {blind : Bool} (lines : List Line) (event : Event) (fault : WorldFault) (s t z : Seen) (first old new : World) (went : WentOn s first lines t old) (fresh : IsNew blind first)
    (handled : Handled (length lines + 1) event (span_of t z old new) (Err fault)) where
  pub unanswered_short : LeavesShort event old new (Err fault)
  unanswered_short = left_short (length lines + 1) event t z old new (Err fault) handled

  pub unanswered_kinds : (x : CloudState) (reply : Reply) → s.state ≡ Some x → AddsTo (length lines + 1) (lines ++ record { event = event; reply = reply } ∷ []) x z
  unanswered_kinds x reply told = handled_rows (length lines + 1) event t z old new (Err fault) lines x refl handled (went_adds s first x told fresh lines t old went) reply

  pub unanswered_once : OpenEachOnce (events_of lines ++ event ∷ []) → OpensNoneTwice s z
  unanswered_once once x told =
      none_twice (events_of lines ++ event ∷ []) x new z
      (handled_apart (length lines + 1) event t z old new (Err fault) (events_of lines) lines x refl once handled (went_adds s first x told fresh lines t old went)
      (went_apart s first x told fresh lines t old went (once_before (events_of lines) (event ∷ []) once)))

-- where nothing ran nothing was opened
pub once_nothing : (s z : Seen) → z ≡ s → OpensNoneTwice s z
once_nothing s z same x told =
    subst (AddsNoneTwice x) (sym same) (none_twice [] x (record { sessions = []; audit = record { committed = []; order = [] }; blind = false; notes = [] }) s
    (apart_nothing _ x _ s told (λ j. refl)))

-- where memory ran out behind lines
pub stopped_once : {blind : Bool} → (event : Event) (lines : List Line) (s z : Seen) → StoppedAt blind event lines s z → OpenEachOnce (events_of lines ++ event ∷ []) → OpensNoneTwice s z
stopped_once event lines s z (stopped_before play played) once = played.once (once_before (events_of lines) (event ∷ []) once)
stopped_once event lines s z (stopped_within out theorem) once = out.once once
