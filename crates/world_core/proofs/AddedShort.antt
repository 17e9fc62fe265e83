-- What a line adds to the trace of any cloud for which memory ran out is of its kind too.
use Rattle.std.proofs.Common.{◌≡◌, ◌+◌, ℕ, List, [], ◌∷◌, ◌++◌, length, Bool, true, false, Result, Ok, Err, refl, sym, ap, subst, inl, inr}
use Rattle.cloud_facts.specs.Words.{CloudState, Caller, Seen}
use Rattle.client_work.specs.declared.answer.Answer.{Answer}
use Rattle.db_base.specs.declared.wish.Wish.{Wish}
use Rattle.db_base.specs.declared.wish.Wish.TheVariants.{Plain}
use Rattle.event_text.specs.declared.event.Event.{Event}
use Rattle.event_text.specs.declared.event.Event.TheVariants as event
use Rattle.replay_meaning.specs.Standing.{Line}
use Rattle.reply_text.specs.declared.reply.Reply.{Reply}
use Rattle.session_facts.specs.Rows.Added.{AddsTo}
use Rattle.session_facts.specs.Lines.Facts.{session_at}
use Rattle.session_facts.specs.Sessions.Knows.{Sessions}
use Rattle.session_facts.proofs.Rows.Added.{adds_same, adds_line}
use Rattle.session_facts.proofs.Lines.More.{line_of}
use Rattle.session_facts.proofs.Lines.Settler.{errand_row}
use Rattle.session_facts.specs.Lines.Errands.{Errand, settles, sweeps, event_for, session_for, AreRowsOf}
use Rattle.ckpt_policy.specs.declared.role.Role.{Role}
use Rattle.world_core.specs.World.{World}
use Rattle.world_core.specs.declared.asked.Asked.{Asked}
use Rattle.world_core.specs.declared.asked.Asked.TheVariants.{Session, Wait, Report, Settle, Sweep}
use Rattle.world_core.specs.declared.asked.Request.{Request}
use Rattle.world_core.specs.declared.asked.Request.TheVariants.{Begin, Note, Abort, Policy, Work as WorksDue, Step, Run, Crash}
use Rattle.world_core.specs.declared.world.WorldFault.{WorldFault}
use Rattle.world_core.specs.Added.{WorldAdds}
use Rattle.world_core.specs.Asked.{Asks}
use Rattle.world_core.specs.Handled.{Has, FallsShort, RunsShort, StepsTo, MakesStep, StopsShort, ComesTo, RunsTo, Runs, SettlesOn, Settles, Crashes, Does, Answers, Handled, Policies}
use Rattle.world_core.specs.Span.{span_of}
use Rattle.world_core.proofs.WorkerRows.{work_rows}
use Rattle.world_core.proofs.AddedSteps.{outset, IsAdding, SettlerAdds, adding_begins, begun_way, rows_called, rows_seen, rows_stay, rows_stepped, settler_rows, settler_rows_called, settler_went, went_adding}
use Rattle.world_core.proofs.StandsLemmas.{settler}

-- ---- a session

module _ (lines : List Line) (first : CloudState) (who : Caller) (number : who.event ≡ length lines + 1) where
  abbrev Rows : Seen → Type 0
  Rows seen = AddsTo (length lines + 1) lines first seen

  short_rows : (wish : Wish) (before after : Seen) (old new : World) → IsAdding lines first old before → RunsShort who wish (span_of before after old new) → Rows after
  short_rows wish before after old new way s = falls s.falls
    where
      falls : FallsShort who wish (span_of before after old s.left) → Rows after
      falls (inl un) = rows_stay (length lines + 1) lines first before after un.looked.stays way.rows
      falls (inr p) = rows_called lines first who wish before p.from p.under p.to after old s.left p.turn number way p.look_before p.wishes p.session p.look_after

  stops_rows : (before after : Seen) (old new : World) → IsAdding lines first old before → StopsShort who (span_of before after old new) → Rows after
  stops_rows before after old new way s = short_rows Plain s.mid after s.world new (went_adding lines first who before old s.mid s.world number way s.went) s.short

-- the line that asks to work
asks_work : (e : Event) (k : ℕ) → Asks e (Session k (Ok WorksDue)) → e ≡ event.Work k
asks_work (event.Work session) k asks = ap event.Work (sym asks.0)
asks_work (event.Policy session role kept) k asks = absurd (cc (asks.1))
asks_work (event.Open session client) k asks = absurd (cc (asks.1.1))
asks_work (event.Close session) k asks = absurd (cc (asks.1))
asks_work (event.Renew session) k asks = absurd (cc (asks.1))
asks_work (event.Commit session) k asks = absurd (cc (asks.1))
asks_work (event.Abort session) k asks = absurd (cc (asks.1))
asks_work (event.Read session tree key) k asks = absurd (cc (asks.1.2))
asks_work (event.Scan session tree from to) k asks = absurd (cc (asks.1.3))
asks_work (event.Lookup session tree attr) k asks = absurd (cc (asks.1.2))
asks_work (event.Page session tree page) k asks = absurd (cc (asks.1.2))
asks_work (event.Tree session tree) k asks = absurd (cc (asks.1.1))
asks_work (event.Run session) k asks = absurd (cc (asks.1))
asks_work (event.Step session wish) k asks = absurd (cc (asks.1))
asks_work (event.Crash session done) k asks = absurd (cc (asks.1))
asks_work (event.Wait ticks) k asks = absurd (cc)
asks_work (event.Report tree) k asks = absurd (cc)
asks_work event.Settle k asks = absurd (cc)
asks_work (event.Sweep tree) k asks = absurd asks
asks_work e k asks = absurd asks.1

module _ (lines : List Line) (first : CloudState) (n : ℕ) (before after : Seen) (old new : World) (result : Result Reply WorldFault) (number : length lines + 1 ≡ n)
    (w : WorldAdds lines first old before) where
  abbrev RowsNow : Type 0
  RowsNow = AddsTo (length lines + 1) lines first after

  way : IsAdding lines first old before
  way = adding_begins lines first old before w

  as_seen : after ≡ before → RowsNow
  as_seen same = rows_seen (length lines + 1) lines first before after same way.rows

  made_rows : (k : ℕ) (wish : Wish) (r : Result Reply WorldFault) → StepsTo (record { session = k; event = n }) wish (span_of before after old new) r → RowsNow
  made_rows k wish (Ok reply) step = rows_stepped lines first _ wish before after old new step.turn (sym number) way step.steps
  made_rows k wish (Err why) step = rows_stepped lines first _ wish before after old step.left step.turn (sym number) way step.steps

  step_rows : (k : ℕ) (wish : Wish) → MakesStep (record { session = k; event = n }) wish (span_of before after old new) result → RowsNow
  step_rows k wish (inl refuses) = as_seen refuses.declines.seen
  step_rows k wish (inr (inl step)) = made_rows k wish result step
  step_rows k wish (inr (inr memory)) = short_rows lines first _ (sym number) wish before after old new way memory.1

  came_rows : (k : ℕ) (left : World) (answer : Answer) → ComesTo (record { session = k; event = n }) (span_of before after old left) answer → RowsNow
  came_rows k left answer comes =
      rows_stepped lines first _ Plain comes.mid after comes.world left _ (sym number)
      (went_adding lines first _ before old comes.mid comes.world (sym number) way comes.went) comes.steps

  ran_rows : (k : ℕ) (r : Result Reply WorldFault) → RunsTo (record { session = k; event = n }) (span_of before after old new) r → RowsNow
  ran_rows k (Ok reply) run = came_rows k new run.answer run.comes
  ran_rows k (Err why) run = came_rows k run.left run.answer run.comes

  run_rows : (k : ℕ) → Runs (record { session = k; event = n }) (span_of before after old new) result → RowsNow
  run_rows k (inl refuses) = as_seen refuses.declines.seen
  run_rows k (inr (inl run)) = ran_rows k result run
  run_rows k (inr (inr memory)) = stops_rows lines first _ (sym number) before after old new way memory.1

  crash_rows : (k : ℕ) (done : Bool) → Crashes (record { session = k; event = n }) done (span_of before after old new) result → RowsNow
  crash_rows k false h = as_seen h.quiet.seen
  crash_rows k true (inl idle) = as_seen idle.dies.quiet.seen
  crash_rows k true (inr (inl h)) = rows_stepped lines first _ Plain before after old h.world h.turn (sym number) way h.steps
  crash_rows k true (inr (inr memory)) = short_rows lines first _ (sym number) Plain before after old new way memory.1

  policy_rows : (k : ℕ) (role : Role) (kept : ℕ) → Policies k role kept (span_of before after old new) result → RowsNow
  policy_rows k role kept (inl refuses) = as_seen refuses.declines.seen
  policy_rows k role kept (inr (inl refuses)) = as_seen refuses.1.declines.seen
  policy_rows k role kept (inr (inr gives)) = as_seen gives.quiet.seen

  -- of a request that is not to work
  abbrev IsNoWork : Request → Type 0
  IsNoWork WorksDue = ⊥
  IsNoWork request = Unit {0}

  does_rows : (k : ℕ) (request : Request) → IsNoWork request → Does (record { session = k; event = n }) request (span_of before after old new) result → RowsNow
  does_rows k WorksDue other h = absurd other
  does_rows k (Policy role kept) other h = policy_rows k role kept h
  does_rows k (Begin op) other h = as_seen h.0.seen
  does_rows k (Note noting) other h = as_seen h.0.seen
  does_rows k Abort other h = as_seen h.0.seen
  does_rows k (Step wish) other h = step_rows k wish h
  does_rows k Run other h = run_rows k h
  does_rows k (Crash done) other h = crash_rows k done h

  -- ---- the settler

  settling_rows : (errand : Errand) (r : Reply) (begun : World) → Has 0 (session_for errand) old begun → SettlesOn errand (settler n) (span_of before after begun new) result
      → AddsTo n (lines ++ line_of (event_for errand) r ∷ []) first after
  settling_rows errand r begun begins on = by_end on
    where
      all : List Line
      all = lines ++ line_of (event_for errand) r ∷ []

      others : Sessions
      others = session_at old.sessions

      row : AreRowsOf errand all (settler n)
      row = errand_row errand lines r (settler n) refl (sym number)

      begun_so : SettlerAdds errand n (outset all first others) begun before
      begun_so = begun_way errand lines first n r before old begun number w begins

      short : (mid : Seen) (world left : World) → SettlerAdds errand n (outset all first others) world mid → RunsShort (settler n) Plain (span_of mid after world left) → AddsTo n all first after
      short mid world left so s = falls s.falls
        where
          falls : FallsShort (settler n) Plain (span_of mid after world s.left) → AddsTo n all first after
          falls (inl un) = rows_stay n all first mid after un.looked.stays so.rows
          falls (inr p) =
              settler_rows_called errand n all first others row mid p.from p.under p.to after world s.left p.turn so p.look_before p.wishes p.session p.look_after

      by_end : SettlesOn errand (settler n) (span_of before after begun new) result → AddsTo n all first after
      by_end (inl s) =
          settler_rows errand n all first others row s.comes.mid after s.comes.world s.left _
          (settler_went errand n all first others row before begun s.comes.mid s.comes.world begun_so s.comes.went) s.comes.steps
      by_end (inr memory) =
          let s = memory.1.stops in
          short s.mid s.world memory.1.left (settler_went errand n all first others row before begun s.mid s.world begun_so s.went) s.short

  -- ---- every line

  with_line : (event : Event) (r : Reply) → RowsNow → AddsTo n (lines ++ line_of event r ∷ []) first after
  with_line event r a =
      subst (λ m. AddsTo m (lines ++ line_of event r ∷ []) first after) number
      (record { state = a.state; told = a.told; adds = adds_line (length lines + 1) lines (line_of event r) first a.state refl a.adds })

  settles_rows : (errand : Errand) (r : Reply) → Settles errand n (span_of before after old new) result → AddsTo n (lines ++ line_of (event_for errand) r ∷ []) first after
  settles_rows errand r (inl h) = settling_rows errand r h.begun h.begins h.settles
  settles_rows errand r (inr memory) = with_line (event_for errand) r (as_seen memory.1.seen)

  wait_rows : (ticks : ℕ) → Answers n (Wait ticks) (span_of before after old new) result → RowsNow
  wait_rows ticks (inl h) =
      let waited = h.0.waited way.rows.state way.rows.told in
      record {
        state = waited.after;
        told = waited.told;
        adds = adds_same (length lines + 1) lines first way.rows.state waited.after (ap (λ (z : CloudState). z.versions) waited.rest) (ap (λ (z : CloudState). z.trace) waited.rest)
            way.rows.adds;
      }
  wait_rows ticks (inr long) = as_seen long.declines.seen

  -- a line of a session
  session_rows : (e : Event) (r : Reply) (k : ℕ) (request : Request) → Asks e (Session k (Ok request)) → Does (record { session = k; event = n }) request (span_of before after old new) result
      → AddsTo n (lines ++ line_of e r ∷ []) first after
  session_rows e r k WorksDue asks h =
      subst (λ (x : Event). AddsTo n (lines ++ line_of x r ∷ []) first after) (sym (asks_work e k asks)) (work_rows lines first k n r before after old new result number w h)
  session_rows e r k (Begin op) asks h = with_line e r (does_rows k (Begin op) tt h)
  session_rows e r k (Note noting) asks h = with_line e r (does_rows k (Note noting) tt h)
  session_rows e r k Abort asks h = with_line e r (does_rows k Abort tt h)
  session_rows e r k (Policy role kept) asks h = with_line e r (does_rows k (Policy role kept) tt h)
  session_rows e r k (Step wish) asks h = with_line e r (does_rows k (Step wish) tt h)
  session_rows e r k Run asks h = with_line e r (does_rows k Run tt h)
  session_rows e r k (Crash done) asks h = with_line e r (does_rows k (Crash done) tt h)

  -- whatever reply the line would have had
  asked_rows : (e : Event) (r : Reply) (asked : Asked) → Asks e asked → Answers n asked (span_of before after old new) result → AddsTo n (lines ++ line_of e r ∷ []) first after
  asked_rows e r (Session k (Ok request)) asks (inl h) = session_rows e r k request asks h.1
  asked_rows e r (Session k (Err why)) asks (inl h) = with_line e r (as_seen h.1.seen)
  asked_rows e r (Session k request) asks (inr none) = with_line e r (as_seen none.declines.seen)
  asked_rows e r (Wait ticks) asks h = with_line e r (wait_rows ticks h)
  asked_rows e r (Report tree) asks h = with_line e r (rows_stay (length lines + 1) lines first before after h.looked.stays way.rows)
  asked_rows event.Settle r Settle asks h = settles_rows settles r h
  asked_rows (event.Wait ticks) r Settle asks h = absurd (cc)
  asked_rows (event.Report tree) r Settle asks h = absurd (cc)
  asked_rows e r Settle asks h = absurd asks
  asked_rows (event.Sweep number) r (Sweep (Ok tree)) asks h = subst (λ (k : ℕ). AddsTo n (lines ++ line_of (event.Sweep k) r ∷ []) first after) asks.0 (settles_rows (sweeps tree) r h.1)
  asked_rows event.Settle r (Sweep (Ok tree)) asks h = absurd (cc (asks))
  asked_rows (event.Wait ticks) r (Sweep (Ok tree)) asks h = absurd (cc (asks))
  asked_rows (event.Report number) r (Sweep (Ok tree)) asks h = absurd (cc (asks))
  asked_rows e r (Sweep (Ok tree)) asks h = absurd asks
  asked_rows e r (Sweep (Err why)) asks h = with_line e r (as_seen h.seen)

-- a line that was handled, whatever its result and whatever reply it would have had
pub handled_rows : (n : ℕ) (event : Event) (before after : Seen) (old new : World) (result : Result Reply WorldFault) (lines : List Line) (first : CloudState) → length lines + 1 ≡ n
    → Handled n event (span_of before after old new) result → WorldAdds lines first old before → (r : Reply) → AddsTo n (lines ++ line_of event r ∷ []) first after
handled_rows n event before after old new result lines first number h w r = asked_rows lines first n before after old new result number w event r h.asked h.asks h.answers
