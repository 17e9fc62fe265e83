-- A line that works is one of the lines from its begin on: it leaves each session as it stood, and the rows of its session are told by it.
use Rattle.std.proofs.Common.{◌≡◌, ◌+◌, suc, ℕ, List, [], ◌∷◌, ◌++◌, length, refl, sym, ap, subst, ◌∙◌, Bool, arith, length-append}
use Rattle.cloud_facts.specs.Words.{Entry, CloudState, Caller}
use Rattle.cloud_trait.proofs.StateLemmas.{slice_get-push}
use Rattle.event_text.specs.declared.event.Event.TheVariants as event
use Rattle.history.specs.Audited.{Audited}
use Rattle.reply_text.specs.declared.reply.Reply.{Reply}
use Rattle.session_facts.specs.Sessions.Knows.{Sessions}
use Rattle.replay_meaning.specs.Standing.{Line}
use Rattle.session_facts.specs.Lines.Facts.{ActsAs, AllAct, CloudHolds, IsFrontOf, SettlerRests, Stands}
use Rattle.session_facts.proofs.Rows.CallKinds.{IsWorkersRow}
use Rattle.session_facts.proofs.Lines.Committed.{committed_line, standing_line}
use Rattle.session_facts.proofs.Lines.Landed.{landed_line}
use Rattle.session_facts.proofs.Lines.More.{line_of, still_line}
use Rattle.session_facts.proofs.Reports.Order.{reported_line}
use Rattle.session_facts.proofs.Rows.Lines.{kinds_line}

-- what holds within it holds of it too, whatever its reply, where that is no report
pub work_begins : (lines : List Line) (k : ℕ) (r : Reply) (sessions : Sessions) (a : Audited) (blind : Bool) (t : CloudState) → ((order : List Entry) → IsFrontOf order r)
    → CloudHolds (length lines + 1) lines sessions a blind t → CloudHolds (length lines + 1) (lines ++ line_of (event.Work k) r ∷ []) sessions a blind t
work_begins lines k r sessions a blind t front h = record {
  book = h.book;
  order = h.order;
  stand = h.stand;
  cloud = record {
    placed = h.cloud.placed;
    upto = h.cloud.upto;
    committed = h.cloud.committed ∙ sym (committed_line lines (line_of (event.Work k) r) t h.cloud.upto.trace);
    kinds = kinds_line lines (line_of (event.Work k) r) t h.cloud.upto.trace h.cloud.kinds;
    once = h.cloud.once;
  };
  seen = h.seen;
  reported = reported_line lines (line_of (event.Work k) r) h.order h.reported (front h.order);
  landed = landed_line lines (line_of (event.Work k) r) sessions t h.cloud.upto.trace (λ n begins behind. let is : event.Work k ≡ event.Commit n = begins.asks in absurd (cc (is))) h.landed;
}

-- and it is through with its last call
pub work_ends : (lines : List Line) (k : ℕ) (r : Reply) (sessions : Sessions) (a : Audited) (blind : Bool) (t : CloudState)
    → CloudHolds (length lines + 1) (lines ++ line_of (event.Work k) r ∷ []) sessions a blind t → AllAct lines sessions → SettlerRests sessions
    → Stands (lines ++ line_of (event.Work k) r ∷ []) sessions a blind t
work_ends lines k r sessions a blind t h acts rests = record {
  holds = subst (λ n. CloudHolds n (lines ++ line_of (event.Work k) r ∷ []) sessions a blind t) whole h;
  acts = λ n. subst (λ z. ActsAs (sessions n) z) (sym (standing_line lines (line_of (event.Work k) r) n)) (still_line lines (event.Work k) r sessions (λ s. refl) acts n);
  rests = rests;
}
  where
    whole : length lines + 1 ≡ length (lines ++ line_of (event.Work k) r ∷ [])
    whole = omega (arith, length-append lines (line_of (event.Work k) r ∷ []))

-- a row of the session at such a line
pub worker_row : (lines : List Line) (r : Reply) (who : Caller) → who.event ≡ length lines + 1 → IsWorkersRow (lines ++ line_of (event.Work who.session) r ∷ []) who
worker_row lines r who at row is =
    let last : who.event ≡ suc (length lines) = omega (arith, at) in
    record {
      place = length lines;
      event = ap (λ (w : Caller). w.event) is ∙ last;
      line = line_of (event.Work who.session) r;
      there = slice_get-push lines (line_of (event.Work who.session) r) (length lines) refl;
      works = ap (λ (w : Caller). event.Work w.session) (sym is);
    }
