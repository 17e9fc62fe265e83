-- What a session's call adds to a trace is of its kind, whatever cloud it is made on.
use Rattle.std.proofs.Common.{◌≡◌, ◌≤◌, ◌+◌, ℕ, List, [], ◌∷◌, ◌++◌, length, Some, refl, sym, ap, subst, ◌∙◌, arith, append_assoc}
use Rattle.std.specs.Prelude.{All}
use Rattle.std.proofs.lemmas.List.{append-nil}
use Rattle.std.proofs.lemmas.List.Elements.{All-nil, All-push, All-same, All-weaker}
use Rattle.cloud_trait.specs.declared.state.Landing.{Landing}
use Rattle.cloud_trait.specs.declared.state.Site.TheVariants.{Object, Queue}
use Rattle.cloud_facts.specs.Words.{Turn, CloudState, called, Caller, Seen, Ask, Get, GetHeld, PutHeld, Send, Receive, Delete, Take, Renew, Release}
use Rattle.cloud_trait.specs.Ask.{ListHeld, RemoveHeld, effect}
use Rattle.cloud_trait.specs.Weather.{counted, Leaves}
use Rattle.cloud_trait.proofs.EffectLemmas.{effect_versions, effect_trace}
use Rattle.cloud_trait.proofs.RowLemmas.{row_by}
use Rattle.client_work.specs.declared.answer.Answer.{Answer}
use Rattle.client_work.specs.declared.work.Work.{Work}
use Rattle.client_work.specs.Session.{StepsAt, ask_of_work}
use Rattle.replay_meaning.specs.Standing.{Line, standing}
use Rattle.replay_meaning.specs.Committed.{Versions}
use Rattle.replay_meaning.specs.Kinds.{IsOfKind}
use Rattle.session_facts.specs.Rows.Asks.{MayAsk}
use Rattle.session_facts.specs.Rows.Added.{AddsKinds, AddsTo}
use Rattle.session_facts.specs.Lines.Facts.{IsPlaced, WorksAs}
use Rattle.session_facts.proofs.Rows.CallKinds.{HasCheckpoint, IsWorkersRow, checkpoint_asks, errand_asks, call_kind}
use Rattle.session_facts.specs.Lines.Errands.{Errand, WorksOn, AreRowsOf}
use Rattle.recover_run.specs.declared.home.Home.{Home}
use Rattle.session_facts.proofs.Lines.Committed.{placed_effect}
use Rattle.session_facts.proofs.Rows.Lines.{kinds_effect, rows_line, rows_same}
use Rattle.session_facts.proofs.Lines.Outcome.{MadeCall, made_call}
use Rattle.session_facts.proofs.Sessions.Led.{sound_of}

-- ---- nothing is added

pub adds_nothing : (n : ℕ) (lines : List Line) (t : CloudState) → AddsKinds n lines t t
adds_nothing n lines t = record {
  added = [];
  trace = sym (append-nil t.trace);
  placed = All-nil (IsPlaced t.versions);
  early = All-nil (λ (row : Landing). row.who.event ≤ n);
  kinds = All-nil (IsOfKind lines t);
}

-- a state of the same versions and rows
pub adds_same : (n : ℕ) (lines : List Line) (start s t : CloudState) → t.versions ≡ s.versions → t.trace ≡ s.trace → AddsKinds n lines start s → AddsKinds n lines start t
adds_same n lines start s t v e h = record {
  added = h.added;
  trace = e ∙ h.trace;
  placed = subst (λ (vs : Versions). All (IsPlaced vs) h.added) (sym v) h.placed;
  early = h.early;
  kinds = rows_same lines s t h.added v h.kinds;
}

-- one line more
pub adds_line : (n : ℕ) (lines : List Line) (line : Line) (start t : CloudState) → length lines + 1 ≡ n → AddsKinds n lines start t → AddsKinds n (lines ++ line ∷ []) start t
adds_line n lines line start t at h = record {
  added = h.added;
  trace = h.trace;
  placed = h.placed;
  early = h.early;
  kinds = rows_line lines line t h.added (subst (λ m. All (λ (row : Landing). row.who.event ≤ m) h.added) (sym at) h.early) h.kinds;
}

pub adds_later : (n m : ℕ) (lines : List Line) (start t : CloudState) → n ≤ m → AddsKinds n lines start t → AddsKinds m lines start t
adds_later n m lines start t le h = record {
  added = h.added;
  trace = h.trace;
  placed = h.placed;
  early = All-weaker (λ (row : Landing). row.who.event ≤ n) (λ (row : Landing). row.who.event ≤ m) (λ row k. omega (arith, k, le)) h.added h.early;
  kinds = h.kinds;
}

-- ---- a call that lands

-- a state with these rows alone
abbrev with_rows : CloudState → List Landing → CloudState
with_rows b rows = record b { trace = rows }

-- the rows that a call leaves are those from before with what it adds to the others
pub effect_rows : (who : Caller) (ask : Ask) (b : CloudState) (before added : List Landing) → b.trace ≡ before ++ added
    → (effect who ask b).trace ≡ before ++ (effect who ask (with_rows b added)).trace
effect_rows who (PutHeld name bytes one two) b before added e =
    let row : Landing = record { who = who; site = Object name; position = length (b.versions name) + 1 } in
    ap (λ rows. rows ++ row ∷ []) e ∙ append_assoc before added (row ∷ [])
effect_rows who (RemoveHeld name l) b before added e =
    let row : Landing = record { who = who; site = Object name; position = length (b.versions name) + 1 } in
    ap (λ rows. rows ++ row ∷ []) e ∙ append_assoc before added (row ∷ [])
effect_rows who (Send queue bytes) b before added e =
    let row : Landing = record { who = who; site = Queue queue; position = length (b.messages queue) + 1 } in
    ap (λ rows. rows ++ row ∷ []) e ∙ append_assoc before added (row ∷ [])
effect_rows who (Get name) b before added e = e
effect_rows who (GetHeld name l) b before added e = e
effect_rows who (ListHeld tree l) b before added e = e
effect_rows who (Receive queue most) b before added e = e
effect_rows who (Delete queue id) b before added e = e
effect_rows who (Take lock ticks) b before added e = e
effect_rows who (Renew l ticks) b before added e =
    effect_trace who (Renew l ticks) b tt ∙ e ∙ ap (λ rows. before ++ rows) (sym (effect_trace who (Renew l ticks) (with_rows b added) tt))
effect_rows who (Release l) b before added e =
    effect_trace who (Release l) b tt ∙ e ∙ ap (λ rows. before ++ rows) (sym (effect_trace who (Release l) (with_rows b added) tt))

-- and the versions do not look at them
pub effect_same : (who : Caller) (ask : Ask) (b : CloudState) (rows : List Landing) → (effect who ask b).versions ≡ (effect who ask (with_rows b rows)).versions
effect_same who (PutHeld name bytes one two) b rows = refl
effect_same who (Send queue bytes) b rows = refl
effect_same who (Get name) b rows = refl
effect_same who (GetHeld name l) b rows = refl
effect_same who (ListHeld tree l) b rows = refl
effect_same who (RemoveHeld name l) b rows = refl
effect_same who (Receive queue most) b rows = refl
effect_same who (Delete queue id) b rows = refl
effect_same who (Take lock ticks) b rows = refl
effect_same who (Renew l ticks) b rows = effect_versions who (Renew l ticks) b tt ∙ sym (effect_versions who (Renew l ticks) (with_rows b rows) tt)
effect_same who (Release l) b rows = effect_versions who (Release l) b tt ∙ sym (effect_versions who (Release l) (with_rows b rows) tt)

abbrev By : ℕ → Landing → Type 0
By n row = row.who.event ≤ n

-- a row of a call at event n landed by event n
early_effect : (n : ℕ) (who : Caller) (ask : Ask) (b : CloudState) → who.event ≤ n → All (By n) b.trace → All (By n) (effect who ask b).trace
early_effect n who (PutHeld name bytes one two) b le h = All-push (By n) b.trace (record { who = who; site = Object name; position = length (b.versions name) + 1 }) h le
early_effect n who (RemoveHeld name l) b le h = All-push (By n) b.trace (record { who = who; site = Object name; position = length (b.versions name) + 1 }) h le
early_effect n who (Send queue bytes) b le h = All-push (By n) b.trace (record { who = who; site = Queue queue; position = length (b.messages queue) + 1 }) h le
early_effect n who (Get name) b le h = h
early_effect n who (GetHeld name l) b le h = h
early_effect n who (ListHeld tree l) b le h = h
early_effect n who (Receive queue most) b le h = h
early_effect n who (Delete queue id) b le h = h
early_effect n who (Take lock ticks) b le h = h
early_effect n who (Renew l ticks) b le h = All-same (By n) (effect who (Renew l ticks) b).trace b.trace (effect_trace who (Renew l ticks) b tt) h
early_effect n who (Release l) b le h = All-same (By n) (effect who (Release l) b).trace b.trace (effect_trace who (Release l) b tt) h

-- a call that its session may make adds a row of its kind
adds_effect : (n : ℕ) (lines : List Line) (who : Caller) (ask : Ask) (start b : CloudState) → who.event ≤ n → ((row : Landing) → row.who ≡ who → MayAsk lines row ask)
    → AddsKinds n lines start b → AddsKinds n lines start (effect who ask b)
adds_effect n lines who ask start b le may h = record {
  added = (effect who ask v).trace;
  trace = effect_rows who ask b start.trace h.added h.trace;
  placed = subst (λ (vs : Versions). All (IsPlaced vs) (effect who ask v).trace) (sym same) (placed_effect who ask v h.placed);
  early = early_effect n who ask v le h.early;
  kinds = rows_same lines (effect who ask v) (effect who ask b) (effect who ask v).trace same
      (kinds_effect lines who ask v h.placed may (rows_same lines b v h.added refl h.kinds));
}
  where
    v : CloudState
    v = with_rows b h.added

    same : (effect who ask b).versions ≡ (effect who ask v).versions
    same = effect_same who ask b h.added

-- ---- a step of a session

-- whatever is at work, where its call may be made
call_adds : (n : ℕ) (lines : List Line) (who : Caller) (before after : Seen) (start x : CloudState) (w new : Work) (turn : Turn Answer) → who.event ≤ n → before.state ≡ Some x
    → ((ask : Ask) → ask_of_work w ≡ Some ask → (row : Landing) → row.who ≡ who → MayAsk lines row ask) → StepsAt who before after w new turn
    → AddsKinds n lines start x → AddsTo n lines start after
call_adds n lines who before after start x w new turn le told may p h = record {
  state = l.after;
  told = l.told;
  adds = row_by (AddsKinds n lines start) who call.ask call.answer before.counts after.counts b0 l.after l.row begun
      (λ permits. adds_effect n lines who call.ask start b0 le (may call.ask call.hand) begun);
}
  where
    call : MadeCall who before after w
    call = made_call who before after w new turn p

    l : Leaves who call.ask call.answer (counted before.counts x) after.counts after.state
    l = call.made.state x told

    b0 : CloudState
    b0 = called who l.after.now x

    begun : AddsKinds n lines start b0
    begun = adds_same n lines start x b0 refl refl h

-- a session that works as the lines say
pub session_adds : (lines : List Line) (who : Caller) (before after : Seen) (start x : CloudState) (w new : Work) (turn : Turn Answer) → who.event ≡ length lines + 1
    → before.state ≡ Some x → WorksAs w (standing lines who.session) → StepsAt who before after w new turn → AddsKinds (length lines + 1) lines start x
    → AddsTo (length lines + 1) lines start after
session_adds lines who before after start x w new turn event told acts p h =
    call_adds (length lines + 1) lines who before after start x w new turn (omega (arith, event)) told
    (λ ask hand. call_kind lines who w ask event acts (sound_of who before after w new turn p) hand) p h

-- and session 0 on an errand within its line, which is one of the lines
pub errand_adds : (errand : Errand) (n : ℕ) (lines : List Line) (who : Caller) (before after : Seen) (start x : CloudState) (w new : Work) (turn : Turn Answer) → who.event ≤ n
    → before.state ≡ Some x → WorksOn errand w → AreRowsOf errand lines who → StepsAt who before after w new turn → AddsKinds n lines start x → AddsTo n lines start after
errand_adds errand n lines who before after start x w new turn le told works own p h =
    call_adds n lines who before after start x w new turn le told
    (λ ask hand row is. errand_asks errand lines row w works (own row is) (sound_of who before after w new turn p) ask hand) p h

-- and a checkpoint within a line that works, which is one of the lines
pub worker_adds : (n : ℕ) (lines : List Line) (who : Caller) (home : Home) (before after : Seen) (start x : CloudState) (w new : Work) (turn : Turn Answer) → who.event ≤ n
    → before.state ≡ Some x → HasCheckpoint home w → IsWorkersRow lines who → StepsAt who before after w new turn → AddsKinds n lines start x → AddsTo n lines start after
worker_adds n lines who home before after start x w new turn le told checkpoint worker p h =
    call_adds n lines who before after start x w new turn le told (λ ask hand row is. checkpoint_asks lines row home w checkpoint (worker row is) ask hand) p h
