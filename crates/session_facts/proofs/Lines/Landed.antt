-- What a session landed since its commit began, by the lines.
use Rattle.std.proofs.Common.{◌≡◌, ◌≢◌, ◌≤◌, ◌+◌, ◌-◌, ℕ, zero, suc, List, [], ◌∷◌, ◌++◌, length, take, Some, sym, ap, subst, ◌∙◌, ◌⊎◌, inl, inr, arith}
use Rattle.std.specs.Prelude.{All, slice_get}
use Rattle.std.proofs.lemmas.Bool.{cases_eq}
use Rattle.std.proofs.lemmas.List.{take-append-le}
use Rattle.std.proofs.lemmas.Option.{slice_get_within}
use Rattle.client_work.specs.Session.{Acting, committing_of}
use Rattle.client_work.specs.declared.work.Work.{Work}
use Rattle.client_work.specs.declared.work.Work.TheVariants as work
use Rattle.cloud_facts.proofs.Book.Names.{at_same, at_other}
use Rattle.cloud_facts.proofs.Book.Places.{get_cases}
use Rattle.cloud_facts.specs.Words.{CloudState, Caller, at}
use Rattle.cloud_trait.specs.declared.state.Landing.{Landing}
use Rattle.replay_meaning.specs.Standing.{Line, Standing, Working, Committing, standing}
use Rattle.session_facts.proofs.Lines.Committed.{now_standing}
use Rattle.session_facts.proofs.Rows.Once.{at_place}
use Rattle.session_facts.proofs.Sessions.Landed.{IsBehind, for_wider}
use Rattle.session_facts.specs.Lines.Facts.{BeginsCommit, BeganBefore, IsOfCommit, AllLanded, WorksAs}
use Rattle.session_facts.specs.Sessions.Knows.{Sessions}
use Rattle.session_facts.specs.Sessions.Landed.{LandedFor}
use Rattle.txn_buffer.specs.Noted.{Noted}

-- ---- one more line

-- a line that begins no commit of the session
began_more : (lines : List Line) (line : Line) (session number : ℕ) → BeganBefore lines session number → (BeginsCommit session line → ⊥) → BeganBefore (lines ++ line ∷ []) session number
began_more lines line session number before none k other there within begins = on (get_cases lines (line ∷ []) k other there)
  where
    on : (slice_get lines k ≡ Some other) ⊎ ((j : ℕ) × (k ≡ length lines + j) × (slice_get (line ∷ []) j ≡ Some other)) → ⊥
    on (inl old) = before k other old within begins
    on (inr (zero, place, e)) = let same : other ≡ line = cc (e) in none (subst (BeginsCommit session) same begins)
    on (inr (suc j, place, e)) = absurd (cc (e))

-- a row of a commit stays one of it
of_commit_more : (lines : List Line) (line : Line) (session : ℕ) (changes : List Noted) (place : ℕ) (row : Landing) → row.who.event ≤ length lines + 1 → (BeginsCommit session line → ⊥)
    → IsOfCommit lines session changes place row → IsOfCommit (lines ++ line ∷ []) session changes place row
of_commit_more lines line session changes place row upto none is = record {
  own = is.own;
  since = began_more lines line session row.who.event is.since none;
  stood =
      let before : row.who.event - 1 ≤ length lines = omega arith in
      ap (λ (ls : List Line). (standing ls row.who.session).posture) (take-append-le (row.who.event - 1) lines (line ∷ []) before) ∙ is.stood;
}

-- no commit that is behind the put of its open head began with the line
abbrev pub BeginsNoneBehind : Line → Sessions → Type 0
BeginsNoneBehind line sessions = (session : ℕ) → BeginsCommit session line → IsBehind (sessions session).work → ⊥

pub landed_line : (lines : List Line) (line : Line) (sessions : Sessions) (t : CloudState) → All (λ (r : Landing). r.who.event ≤ length lines + 1) t.trace → BeginsNoneBehind line sessions
    → AllLanded lines sessions t → AllLanded (lines ++ line ∷ []) sessions t
landed_line lines line sessions t upto fresh all session =
    for_wider (IsOfCommit lines session) (IsOfCommit (lines ++ line ∷ []) session) t (sessions session).work
    (λ behind changes place row there is.
    of_commit_more lines line session changes place row (at_place (λ (r : Landing). r.who.event ≤ length lines + 1) t.trace place row upto there) (λ begins. fresh session begins behind) is)
    (all session)

-- ---- one session changes

pub landed_set : (lines : List Line) (k : ℕ) (sessions : Sessions) (new : Acting) (t : CloudState) → LandedFor (IsOfCommit lines k) t new.work → AllLanded lines sessions t
    → AllLanded lines (at k new sessions) t
landed_set lines k sessions new t mine all n = on (cases_eq n k)
  where
    on : (n ≡ k) ⊎ (n ≢ k) → LandedFor (IsOfCommit lines n) t (at k new sessions n).work
    on (inl e) =
        subst (λ (a : Acting). LandedFor (IsOfCommit lines n) t a.work) (sym (at_same k new sessions n e))
        (subst (λ (j : ℕ). LandedFor (IsOfCommit lines j) t new.work) (sym e) mine)
    on (inr ne) = subst (λ (a : Acting). LandedFor (IsOfCommit lines n) t a.work) (sym (at_other k new sessions n ne)) (all n)

-- ---- the row of a call

-- the session stands on the changes that it commits
working_commit : (w : Work) (s : Standing) (changes : List Noted) → WorksAs w s → committing_of w ≡ Some changes → s.posture ≡ Working (Committing changes)
working_commit (work.Committing m) s changes acts e = let same : m.draft.writes.changes ≡ changes = cc (e) in acts.0 ∙ ap (λ (c : List Noted). Working (Committing c)) same
working_commit w s changes acts e = absurd (cc (e))

-- within a line the row of its call is of its commit
pub own_row : (lines : List Line) (who : Caller) (w : Work) → who.event ≡ length lines + 1 → WorksAs w (standing lines who.session) → (changes : List Noted) → committing_of w ≡ Some changes
    → (place : ℕ) (row : Landing) → row.who ≡ who → IsOfCommit lines who.session changes place row
own_row lines who w event acts changes committing place row is = record {
  own = ap (λ (c : Caller). c.session) is;
  since = λ k line there within begins.
      let before = slice_get_within lines k line there in
      let number : row.who.event ≡ who.event = ap (λ (c : Caller). c.event) is in
      absurd (omega (arith, before, within, number, event));
  stood =
      ap (λ (c : Caller). (standing (take (c.event - 1) lines) c.session).posture) is ∙ ap (λ (s : Standing). s.posture) (now_standing lines who event)
      ∙ working_commit w (standing lines who.session) changes acts committing;
}
