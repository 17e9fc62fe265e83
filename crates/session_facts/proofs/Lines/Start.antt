-- What stands before the first line.
use Rattle.std.proofs.Common.{◌≡◌, ℕ, zero, suc, [], refl, sym, subst, false}
use Rattle.std.specs.Prelude.{replicate, slice_get, unwrap_or}
use Rattle.cloud_trait.specs.State.{CloudState, IsEmptyCloud}
use Rattle.client_work.specs.Session.{Acting, closed_session}
use Rattle.cloud_facts.specs.Book.Book.{empty_book}
use Rattle.replay_meaning.specs.Standing.{unnamed}
use Rattle.session_facts.proofs.Sessions.Laws.{starts}
use Rattle.session_facts.specs.Lines.Facts.{session_at, ActsAs, Stands}
use Rattle.session_facts.proofs.Lines.Committed.{empty_committed, empty_placed, empty_upto}
use Rattle.session_facts.proofs.Lines.More.{holds_same}
use Rattle.session_facts.proofs.Rows.Once.{empty_once}
use Rattle.session_facts.proofs.Rows.Lines.{empty_kinds}

-- of closed sessions each is closed
all_closed : (count place : ℕ) → unwrap_or (slice_get (replicate count closed_session) place) closed_session ≡ closed_session
all_closed zero place = refl
all_closed (suc count) zero = refl
all_closed (suc count) (suc place) = all_closed count place

pub closed_at : (count n : ℕ) → session_at (replicate count closed_session) n ≡ closed_session
closed_at count n = all_closed count n

-- over an empty cloud closed sessions and an empty audit stand for no lines
pub nothing_stands_yet : (count : ℕ) (t : CloudState) → IsEmptyCloud t → Stands [] (session_at (replicate count closed_session)) (record { committed = []; order = [] }) false t
nothing_stands_yet count t empty = record {
  holds = holds_same _ [] (λ n. closed_session) (session_at (replicate count closed_session)) _ false t (closed_at count) (record {
    book = empty_book;
    order = [];
    stand = starts t empty;
    cloud = record { placed = empty_placed t empty; upto = empty_upto t empty; committed = sym (empty_committed [] t empty); kinds = empty_kinds [] t empty; once = empty_once t empty };
    seen = λ e. refl;
    reported = λ k line at. absurd (cc);
    landed = λ n. tt;
  });
  acts = λ n. subst (λ (a : Acting). ActsAs a unnamed) (sym (closed_at count n)) (record { buffer = refl; work = refl });
  rests = closed_at count 0;
}
