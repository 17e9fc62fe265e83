-- What the work of a session adds to the trace of any cloud is of its kind.
use Rattle.std.proofs.Common.{◌≡◌, ◌+◌, ◌≤◌, ◌⊎◌, inl, inr, ℕ, List, [], ◌∷◌, ◌++◌, length, Result, Ok, refl, sym, subst, arith, length-append}
use Rattle.client_work.specs.declared.answer.Answer.{Answer}
use Rattle.client_work.specs.Session.{StepsSession}
use Rattle.cloud_facts.specs.Words.{QueueName, Turn, More, Ended, CloudState, Seen}
use Rattle.db_base.specs.declared.wish.Wish.TheVariants.{Plain}
use Rattle.event_text.specs.declared.event.Event.TheVariants as event
use Rattle.recover_run.specs.declared.home.Home.{Home}
use Rattle.replay_meaning.specs.Standing.{Line}
use Rattle.reply_text.specs.declared.reply.Reply.{Reply}
use Rattle.session_facts.proofs.Rows.Added.{adds_line, worker_adds}
use Rattle.session_facts.proofs.Rows.CallKinds.{IsWorkersRow}
use Rattle.session_facts.proofs.Lines.Committed.{standing_line}
use Rattle.session_facts.proofs.Lines.More.{line_of, still_line}
use Rattle.session_facts.specs.Rows.Added.{AddsTo}
use Rattle.session_facts.specs.Lines.Facts.{session_at, ActsAs}
use Rattle.session_facts.specs.Sessions.Knows.{Sessions}
use Rattle.world_audit.specs.Look.{Looked}
use Rattle.world_core.specs.Added.{WorldAdds}
use Rattle.world_core.specs.Handled.{SetsWish, StepsLooked, Went, start, further, RunsShort, StopsShort, FallsShort, Checkpoints, CheckpointFails, FailsAt, KnowsNoDue, Works, no_checkpoint, checkpoint_more, WorksDown, WorksShort, WorksThrough, gone_through}
use Rattle.world_core.specs.Sessions.{Changes}
use Rattle.world_core.specs.World.{World}
use Rattle.world_core.specs.declared.world.WorldFault.{WorldFault}
use Rattle.world_core.specs.Span.{span_of}
use Rattle.session_facts.proofs.Lines.Worker.{worker_row}
use Rattle.world_core.proofs.AddedSteps.{adds_declined, rows_begin, rows_seen, rows_stay, rows_wished}
use Rattle.world_core.proofs.StandsLemmas.{changed_was, no_memory}
use Rattle.world_core.proofs.Workers.{IsInside, IsBetween, open_rests, within_begun, within_went, within_works, worker, worker_acts, worker_settler}

-- its rows before it are of their kind by the lines with its own
pub worker_rows_begin : (lines : List Line) (first : CloudState) (k n : ℕ) (r : Reply) (seen : Seen) → length lines + 1 ≡ n → AddsTo (length lines) lines first seen
    → AddsTo n (lines ++ line_of (event.Work k) r ∷ []) first seen
worker_rows_begin lines first k n r seen number rows =
    let a = rows_begin lines first seen rows in
    subst (λ m. AddsTo m (lines ++ line_of (event.Work k) r ∷ []) first seen) number
    (record { state = a.state; told = a.told; adds = adds_line (length lines + 1) lines (line_of (event.Work k) r) first a.state refl a.adds })

module _ (n k : ℕ) (lines : List Line) (first : CloudState) (home : Home) (others : Sessions) (row : IsWorkersRow lines (worker k n)) where
  abbrev Rows : Seen → Type 0
  Rows seen = AddsTo n lines first seen

  -- a call of it, between two looks
  pub worker_called : (before from under to after : Seen) (old new : World) (turn : Turn Answer) → IsInside k home others old → Looked before from → SetsWish Plain from under
      → Changes k (λ a b. StepsSession (worker k n) under to a b (Ok turn)) old.sessions new.sessions → Looked to after → Rows before → Rows after
  worker_called before from under to after old new turn w look_before wishes session look_after rows =
      rows_stay n lines first to after look_after.stays
      (worker_adds n lines (worker k n) home under to first wished.state (session_at old.sessions k).work session.after.work turn (omega arith) wished.told w.works row own.work wished.adds)
    where
      own : StepsSession (worker k n) under to (session_at old.sessions k) session.after (Ok turn)
      own = subst (λ a. StepsSession (worker k n) under to a session.after (Ok turn)) (sym (changed_was k _ old.sessions new.sessions session)) session.does

      wished : Rows under
      wished = rows_wished n lines first Plain from under wishes (rows_stay n lines first before from look_before.stays rows)

  worker_stepped : (before after : Seen) (old new : World) (turn : Turn Answer) → IsInside k home others old → StepsLooked (worker k n) Plain (span_of before after old new) turn → Rows before → Rows after
  worker_stepped before after old new turn w p rows = worker_called before p.from p.under p.to after old new turn w p.look_before p.wishes p.session p.look_after rows

  worker_went : (before : Seen) (old : World) (after : Seen) (new : World) → IsInside k home others old → Went (worker k n) before old after new → Rows before → Rows after
  worker_went before old after new w start rows = rows
  worker_went before old after new w (further mid _ world _ went step) rows =
      worker_stepped mid after world new More (within_went (worker k n) home others before old mid world w went) step (worker_went before old mid world w went rows)

  worker_made : (queue : QueueName) (before after : Seen) (old new : World) (a : Answer) → IsBetween k home others old → Checkpoints (worker k n) queue (span_of before after old new) a → Rows before
      → Rows after
  worker_made queue before after old new a w c rows =
      let begun = within_begun k home others queue old c.begun w c.begins in
      worker_stepped c.comes.mid after c.comes.world new (Ended a) (within_went (worker k n) home others before c.begun c.comes.mid c.comes.world begun c.comes.went) c.comes.steps
      (worker_went before c.begun c.comes.mid c.comes.world begun c.comes.went rows)

  worker_works : (before : Seen) (old : World) (queues : List QueueName) (done passed : ℕ) (after : Seen) (new : World) → IsBetween k home others old
      → Works (worker k n) before old (gone_through queues done passed) after new → Rows before → Rows after
  worker_works before old queues done passed after new w no_checkpoint rows = rows
  worker_works before old queues done passed after new w (checkpoint_more earlier kept left mid world queue a _ _ works makes passes) rows =
      worker_made queue mid after world new a (within_works (worker k n) home others before old earlier kept left mid world w works) makes
      (worker_works before old earlier kept left mid world w works rows)

  -- memory ran out beside a step
  worker_short : (before after : Seen) (old new : World) → IsInside k home others old → RunsShort (worker k n) Plain (span_of before after old new) → Rows before → Rows after
  worker_short before after old new w s rows = falls s.falls
    where
      falls : FallsShort (worker k n) Plain (span_of before after old s.left) → Rows after
      falls (inl un) = rows_stay n lines first before after un.looked.stays rows
      falls (inr p) = worker_called before p.from p.under p.to after old s.left p.turn w p.look_before p.wishes p.session p.look_after rows

  worker_stops : (before after : Seen) (old new : World) → IsInside k home others old → StopsShort (worker k n) (span_of before after old new) → Rows before → Rows after
  worker_stops before after old new w s rows =
      worker_short s.mid after s.world new (within_went (worker k n) home others before old s.mid s.world w s.went) s.short (worker_went before old s.mid s.world w s.went rows)

  worker_fails : (before after : Seen) (begun new : World) → IsInside k home others begun → CheckpointFails (worker k n) (span_of before after begun new) → Rows before → Rows after
  worker_fails before after begun new w (inl s) rows = worker_stops before after begun new w s rows
  worker_fails before after begun new w (inr (left, c, breaks)) rows =
      worker_stepped c.mid after c.world left _ (within_went (worker k n) home others before begun c.mid c.world w c.went) c.steps (worker_went before begun c.mid c.world w c.went rows)

  pub worker_falls : (before after : Seen) (old new : World) → IsBetween k home others old → KnowsNoDue k (span_of before after old new) ⊎ FailsAt (worker k n) (span_of before after old new) → Rows before
      → Rows after
  worker_falls before after old new w (inl none) rows = rows_seen n lines first before after none.seen rows
  worker_falls before after old new w (inr fails) rows =
      worker_fails before after fails.begun new (within_begun k home others fails.queue old fails.begun w fails.begins) fails.fails rows

-- ---- a line that works

works_adding : (lines : List Line) (first : CloudState) (k n : ℕ) (r : Reply) (before after : Seen) (old new : World) → length lines + 1 ≡ n → 1 ≤ k
    → WorldAdds lines first old before → WorksDown (record { session = k; event = n }) (span_of before after old new) (Ok r) → WorldAdds (lines ++ line_of (event.Work k) r ∷ []) first new after
works_adding lines first k n r before after old new number some w d = record {
  rows = subst (λ m. AddsTo m all first after) whole
      (worker_works n k all first rest.0 (session_at old.sessions) (worker_row lines r (worker k n) (sym number)) before old d.queues d.done d.passed after new rest.2 d.works
      (worker_rows_begin lines first k n r before number w.rows));
  acts = λ m. subst (λ z. ActsAs (session_at new.sessions m) z) (sym (standing_line lines (line_of (event.Work k) r) m))
      (still_line lines (event.Work k) r (session_at new.sessions) (λ z. refl) (worker_acts lines k rest.0 old new w.acts rest.2 last) m);
  rests = worker_settler k rest.0 (session_at old.sessions) new some w.rests last;
}
  where
    all : List Line
    all = lines ++ line_of (event.Work k) r ∷ []

    whole : n ≡ length all
    whole = omega (arith, number, length-append lines (line_of (event.Work k) r ∷ []))

    rest : (home : Home) × (home.client ≡ d.opened.client) × IsBetween k home (session_at old.sessions) old
    rest = open_rests k old d.opened

    last : IsBetween k rest.0 (session_at old.sessions) new
    last = within_works (worker k n) rest.0 (session_at old.sessions) before old d.queues d.done d.passed after new rest.2 d.works

pub adds_work : (lines : List Line) (first : CloudState) (k n : ℕ) (r : Reply) (before after : Seen) (old new : World) → length lines + 1 ≡ n → 1 ≤ k
    → WorldAdds lines first old before → WorksThrough (record { session = k; event = n }) (span_of before after old new) (Ok r) → WorldAdds (lines ++ line_of (event.Work k) r ∷ []) first new after
adds_work lines first k n r before after old new number some w (inl refuses) = adds_declined lines (event.Work k) r _ first before after old new refuses.declines w
adds_work lines first k n r before after old new number some w (inr (inl down)) = works_adding lines first k n r before after old new number some w down
adds_work lines first k n r before after old new number some w (inr (inr memory)) = absurd (no_memory r memory.0)

-- whatever its result
pub work_rows : (lines : List Line) (first : CloudState) (k n : ℕ) (r : Reply) (before after : Seen) (old new : World) (result : Result Reply WorldFault) → length lines + 1 ≡ n
    → WorldAdds lines first old before → WorksThrough (record { session = k; event = n }) (span_of before after old new) result → AddsTo n (lines ++ line_of (event.Work k) r ∷ []) first after
work_rows lines first k n r before after old new result number w (inl refuses) =
    rows_seen n (lines ++ line_of (event.Work k) r ∷ []) first before after refuses.declines.seen (worker_rows_begin lines first k n r before number w.rows)
work_rows lines first k n r before after old new result number w (inr (inl d)) =
    let rest = open_rests k old d.opened in
    worker_works n k (lines ++ line_of (event.Work k) r ∷ []) first rest.0 (session_at old.sessions) (worker_row lines r (worker k n) (sym number)) before old d.queues d.done d.passed after new
    rest.2 d.works (worker_rows_begin lines first k n r before number w.rows)
work_rows lines first k n r before after old new result number w (inr (inr memory)) =
    let s : WorksShort (worker k n) (span_of before after old new) = memory.1 in
    let rest = open_rests k old s.opened in
    let row = worker_row lines r (worker k n) (sym number) in
    worker_falls n k (lines ++ line_of (event.Work k) r ∷ []) first rest.0 (session_at old.sessions) row s.mid after s.world new
    (within_works (worker k n) rest.0 (session_at old.sessions) before old s.queues s.done s.passed s.mid s.world rest.2 s.works) s.falls
    (worker_works n k (lines ++ line_of (event.Work k) r ∷ []) first rest.0 (session_at old.sessions) row before old s.queues s.done s.passed s.mid s.world rest.2 s.works
    (worker_rows_begin lines first k n r before number w.rows))
