-- A line of session 0 is one of the lines from its begin on: it changes no session's standing, and the rows of session 0 are told by it.
use Rattle.std.proofs.Common.{◌≡◌, ◌+◌, ℕ, suc, List, [], ◌∷◌, ◌++◌, length, refl, sym, ap, subst, ◌∙◌, Bool, arith, length-append}
use Rattle.cloud_facts.specs.Words.{Entry, CloudState, Caller}
use Rattle.cloud_trait.proofs.StateLemmas.{slice_get-push}
use Rattle.event_text.specs.declared.event.Event.TheVariants as event
use Rattle.history.specs.Audited.{Audited}
use Rattle.reply_text.specs.declared.reply.Reply.{Reply}
use Rattle.session_facts.specs.Sessions.Knows.{Sessions}
use Rattle.replay_meaning.specs.Standing.{Line, Standing, after_own}
use Rattle.session_facts.specs.Lines.Facts.{ActsAs, AllAct, CloudHolds, IsFrontOf, SettlerRests, Stands}
use Rattle.session_facts.specs.Lines.Errands.{Errand, settles, sweeps, event_for, AreRowsOf}
use Rattle.session_facts.proofs.Lines.Committed.{committed_line, standing_line}
use Rattle.session_facts.proofs.Lines.Landed.{landed_line}
use Rattle.session_facts.proofs.Lines.More.{line_of, still_line}
use Rattle.session_facts.proofs.Reports.Order.{reported_line}
use Rattle.session_facts.proofs.Rows.Lines.{kinds_line}

-- the line begins no commit
begins_none : (errand : Errand) (n : ℕ) → event_for errand ≡ event.Commit n → ⊥
begins_none settles n e = absurd (cc (e))
begins_none (sweeps tree) n e = absurd (cc (e))

-- what holds within it holds of it too, whatever its reply, where that is no report
pub errand_begins : (errand : Errand) (lines : List Line) (r : Reply) (sessions : Sessions) (a : Audited) (blind : Bool) (t : CloudState) → ((order : List Entry) → IsFrontOf order r)
    → CloudHolds (length lines + 1) lines sessions a blind t → CloudHolds (length lines + 1) (lines ++ line_of (event_for errand) r ∷ []) sessions a blind t
errand_begins errand lines r sessions a blind t front h = record {
  book = h.book;
  order = h.order;
  stand = h.stand;
  cloud = record {
    placed = h.cloud.placed;
    upto = h.cloud.upto;
    committed = h.cloud.committed ∙ sym (committed_line lines (line_of (event_for errand) r) t h.cloud.upto.trace);
    kinds = kinds_line lines (line_of (event_for errand) r) t h.cloud.upto.trace h.cloud.kinds;
    once = h.cloud.once;
  };
  seen = h.seen;
  reported = reported_line lines (line_of (event_for errand) r) h.order h.reported (front h.order);
  landed = landed_line lines (line_of (event_for errand) r) sessions t h.cloud.upto.trace (λ n begins behind. begins_none errand n begins.asks) h.landed;
}

-- the line changes nothing of how a session stands
still_stands : (errand : Errand) (r : Reply) (s : Standing) → after_own (event_for errand) r s ≡ s
still_stands settles r s = refl
still_stands (sweeps tree) r s = refl

-- and it is through with its last call
pub errand_ends : (errand : Errand) (lines : List Line) (r : Reply) (sessions : Sessions) (a : Audited) (blind : Bool) (t : CloudState) → CloudHolds (length lines + 1) (lines ++ line_of (event_for errand) r ∷ []) sessions a blind t
    → AllAct lines sessions → SettlerRests sessions → Stands (lines ++ line_of (event_for errand) r ∷ []) sessions a blind t
errand_ends errand lines r sessions a blind t h acts rests = record {
  holds = subst (λ n. CloudHolds n (lines ++ line_of (event_for errand) r ∷ []) sessions a blind t) whole h;
  acts = λ n. subst (λ z. ActsAs (sessions n) z) (sym (standing_line lines (line_of (event_for errand) r) n)) (still_line lines (event_for errand) r sessions (still_stands errand r) acts n);
  rests = rests;
}
  where
    whole : length lines + 1 ≡ length (lines ++ line_of (event_for errand) r ∷ [])
    whole = omega (arith, length-append lines (line_of (event_for errand) r ∷ []))

-- a row of session 0 at such a line
pub errand_row : (errand : Errand) (lines : List Line) (r : Reply) (who : Caller) → who.session ≡ 0 → who.event ≡ length lines + 1 → AreRowsOf errand (lines ++ line_of (event_for errand) r ∷ []) who
errand_row settles lines r who zeroth at row is =
    let last : who.event ≡ suc (length lines) = omega (arith, at) in
    record {
      session = ap (λ (w : Caller). w.session) is ∙ zeroth;
      place = length lines;
      event = ap (λ (w : Caller). w.event) is ∙ last;
      line = line_of event.Settle r;
      there = slice_get-push lines (line_of event.Settle r) (length lines) refl;
      settles = refl;
    }
errand_row (sweeps tree) lines r who zeroth at row is =
    let last : who.event ≡ suc (length lines) = omega (arith, at) in
    record {
      session = ap (λ (w : Caller). w.session) is ∙ zeroth;
      place = length lines;
      event = ap (λ (w : Caller). w.event) is ∙ last;
      line = line_of (event.Sweep tree) r;
      there = slice_get-push lines (line_of (event.Sweep tree) r) (length lines) refl;
      sweeps = refl;
    }
