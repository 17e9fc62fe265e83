-- What a line adds to the trace of any cloud is of its kind: lines that make no call, steps, deaths, settlings and sweeps.
use Rattle.std.proofs.Common.{◌≡◌, ◌+◌, ◌≤◌, ℕ, List, [], ◌∷◌, ◌++◌, length, Some, Ok, refl, sym, ap, subst, ◌∙◌, ◌⊎◌, ◌≢◌, inl, inr, Bool, true, false, arith, length-append}
use Rattle.std.proofs.lemmas.Bool.{cases_eq}
use Rattle.db_base.specs.declared.refusal.Refused.{Refused}
use Rattle.db_base.specs.declared.refusal.Refused.TheVariants as refused
use Rattle.db_base.specs.declared.wish.Wish.{Wish}
use Rattle.db_base.specs.declared.wish.Wish.TheVariants.{Plain}
use Rattle.event_text.specs.declared.event.Event.{Event}
use Rattle.event_text.specs.declared.event.Event.TheVariants as event
use Rattle.reply_text.specs.declared.reply.Reply.{Reply}
use Rattle.reply_text.specs.declared.reply.Reply.TheVariants as reply
use Rattle.cloud_facts.specs.Words.{Turn, More, Ended, Stopped, CloudState, Caller, Seen, at}
use Rattle.client_work.specs.declared.answer.Answer.{Answer}
use Rattle.client_work.specs.Session.{Acting, closed_session, StepsSession, noted_behind}
use Rattle.cloud_facts.proofs.Book.Names.{at_same, at_other}
use Rattle.session_facts.specs.Sessions.Knows.{Sessions}
use Rattle.replay_meaning.specs.Standing.{Line, Standing, standing, after_line, after_own, session_of, steps}
use Rattle.session_facts.specs.Rows.Added.{AddsKinds, AddsTo}
use Rattle.session_facts.specs.Lines.Facts.{session_at, ActsAs, AllAct, SettlerRests}
use Rattle.session_facts.proofs.Rows.Added.{adds_same, adds_line, adds_later, session_adds, errand_adds}
use Rattle.session_facts.proofs.Lines.Acts.{goes_as, goes_noted, ends_as}
use Rattle.session_facts.proofs.Rows.CallKinds.{errand_goes}
use Rattle.session_facts.proofs.Lines.Committed.{standing_line}
use Rattle.session_facts.proofs.Lines.More.{line_of, AllActWith, own_line, still_line, refused_own, acts_set}
use Rattle.session_facts.proofs.Lines.Settler.{errand_row}
use Rattle.session_facts.specs.Lines.Errands.{Errand, event_for, session_for, WorksOn, AreRowsOf}
use Rattle.world_audit.specs.Look.{Looked}
use Rattle.ckpt_policy.specs.declared.role.Role.{Role}
use Rattle.world_core.specs.World.{World}
use Rattle.world_core.specs.Replying.{RepliesTo, RepliesTurn}
use Rattle.world_core.specs.Sessions.{Changes}
use Rattle.world_core.specs.Handled.{Declines, Has, MakesNoCall, SetsWish, StepsLooked, MakesStep, Went, start, further, RunsTo, Runs, SettlesTo, SettlesOn, Settles, Dies, DiesDone, Crashes, WaitsFor, WaitsTooLong, Reports, Policies}
use Rattle.world_core.specs.Added.{WorldAdds}
use Rattle.world_core.specs.Span.{span_of}
use Rattle.world_core.proofs.Errands.{still_stands, works_first}
use Rattle.world_core.proofs.StandsLemmas.{refused_is, changed_at, changed_was, changed_rests, went_rests, replies_to, no_stop, no_memory, crashed_own, closed_twice, has_at, settler}

-- ---- a line that is through

-- within the line behind these
pub record IsAdding (lines : List Line) (first : CloudState) (world : World) (seen : Seen) : Type 0 where
  pub rows : AddsTo (length lines + 1) lines first seen
  pub acts : AllAct lines (session_at world.sessions)

pub rows_begin : (lines : List Line) (first : CloudState) (seen : Seen) → AddsTo (length lines) lines first seen → AddsTo (length lines + 1) lines first seen
rows_begin lines first seen a = record { state = a.state; told = a.told; adds = adds_later (length lines) (length lines + 1) lines first a.state (omega arith) a.adds }

pub adding_begins : (lines : List Line) (first : CloudState) (world : World) (seen : Seen) → WorldAdds lines first world seen → IsAdding lines first world seen
adding_begins lines first world seen w = record { rows = rows_begin lines first seen w.rows; acts = w.acts }

-- where what is added within the line is of its kind, and the sessions stand as it says, it is one of the lines
pub through : (lines : List Line) (line : Line) (first : CloudState) (world : World) (seen : Seen) → AddsTo (length lines + 1) lines first seen
    → AllActWith lines line (session_at world.sessions) → SettlerRests (session_at world.sessions) → WorldAdds (lines ++ line ∷ []) first world seen
through lines line first world seen a acts rests = record {
  rows = record {
    state = a.state;
    told = a.told;
    adds = subst (λ n. AddsKinds n (lines ++ line ∷ []) first a.state) whole (adds_line (length lines + 1) lines line first a.state refl a.adds);
  };
  acts = λ n. subst (λ z. ActsAs (session_at world.sessions n) z) (sym (standing_line lines line n)) (acts n);
  rests = rests;
}
  where
    whole : length lines + 1 ≡ length (lines ++ line ∷ [])
    whole = omega (arith, length-append lines (line ∷ []))

-- a state that stays
pub rows_stay : (n : ℕ) (lines : List Line) (first : CloudState) (before after : Seen) → ((x : CloudState) → before.state ≡ Some x → after.state ≡ Some x) → AddsTo n lines first before
    → AddsTo n lines first after
rows_stay n lines first before after stays a = record { state = a.state; told = stays a.state a.told; adds = a.adds }

pub rows_seen : (n : ℕ) (lines : List Line) (first : CloudState) (before after : Seen) → after ≡ before → AddsTo n lines first before → AddsTo n lines first after
rows_seen n lines first before after same a = subst (AddsTo n lines first) (sym same) a

-- a line that changes neither the world nor the rows
stays : (lines : List Line) (event : Event) (r : Reply) (first : CloudState) (before after : Seen) (old new : World) → new ≡ old → ((s : Standing) → after_own event r s ≡ s)
    → AddsTo (length lines + 1) lines first after → WorldAdds lines first old before → WorldAdds (lines ++ line_of event r ∷ []) first new after
stays lines event r first before after old new same still a w =
    let P : World → Type 0 = λ z. WorldAdds (lines ++ line_of event r ∷ []) first z after in
    subst P (sym same) (through lines (line_of event r) first old after a (still_line lines event r (session_at old.sessions) still w.acts) w.rests)

pub adds_declined : (lines : List Line) (event : Event) (r : Reply) (why : Refused) (first : CloudState) (before after : Seen) (old new : World) → Declines why (span_of before after old new) (Ok r)
    → WorldAdds lines first old before → WorldAdds (lines ++ line_of event r ∷ []) first new after
adds_declined lines event r (refused.Rule rule) first before after old new is w =
    let P : Reply → Type 0 = λ z. WorldAdds (lines ++ line_of event z ∷ []) first new after in
    subst P (sym (refused_is r rule is.reply)) (stays lines event (reply.Refused rule) first before after old new is.world (refused_own event rule)
    (rows_seen (length lines + 1) lines first before after is.seen (rows_begin lines first before w.rows)) w)
adds_declined lines event r refused.Memory first before after old new is w = absurd (cc (is.reply))

-- a line of a session that makes no call
pub adds_quietly : (lines : List Line) (event : Event) (r : Reply) (k : ℕ) (first : CloudState) (before after : Seen) (old new : World) (Does : Acting → Acting → Type 0)
    → session_of event ≡ k → 1 ≤ k → MakesNoCall (span_of before after old new) → (c : Changes k Does old.sessions new.sessions)
    → (ActsAs c.before (standing lines k) → ActsAs c.after (after_own event r (standing lines k)))
    → WorldAdds lines first old before → WorldAdds (lines ++ line_of event r ∷ []) first new after
adds_quietly lines event r k first before after old new Does own some quiet c leaves w =
    through lines (line_of event r) first new after (rows_seen (length lines + 1) lines first before after quiet.seen (rows_begin lines first before w.rows))
    (λ n. subst (λ a. ActsAs a (after_line n (standing lines n) (line_of event r))) (sym (changed_at k Does old.sessions new.sessions c n))
    (own_line lines k event r (session_at old.sessions) c.after own w.acts (leaves was) n))
    (changed_rests k Does old.sessions new.sessions some c w.rests)
  where
    was : ActsAs c.before (standing lines k)
    was = subst (λ a. ActsAs a (standing lines k)) (changed_was k Does old.sessions new.sessions c) (w.acts k)

-- ---- steps

-- the wish that is set changes no row
pub rows_wished : (n : ℕ) (lines : List Line) (first : CloudState) (wish : Wish) (before after : Seen) → SetsWish wish before after → AddsTo n lines first before → AddsTo n lines first after
rows_wished n lines first wish before after sets a = record {
  state = record a.state { wish = wish };
  told = sets.set a.state a.told;
  adds = adds_same n lines first a.state (record a.state { wish = wish }) refl refl a.adds;
}

-- a session's call under a wish, between two looks
module _ (lines : List Line) (first : CloudState) (who : Caller) (wish : Wish) (before from under to after : Seen) (old new : World) (turn : Turn Answer)
    (event : who.event ≡ length lines + 1) (way : IsAdding lines first old before) (look_before : Looked before from) (wishes : SetsWish wish from under)
    (session : Changes who.session (λ a b. StepsSession who under to a b (Ok turn)) old.sessions new.sessions) (look_after : Looked to after) where
  called_step : StepsSession who under to (session_at old.sessions who.session) session.after (Ok turn)
  called_step = subst (λ a. StepsSession who under to a session.after (Ok turn)) (sym (changed_was who.session _ old.sessions new.sessions session)) session.does

  rows_under : AddsTo (length lines + 1) lines first under
  rows_under = rows_wished (length lines + 1) lines first wish from under wishes (rows_stay (length lines + 1) lines first before from look_before.stays way.rows)

  pub rows_called : AddsTo (length lines + 1) lines first after
  rows_called =
      rows_stay (length lines + 1) lines first to after look_after.stays
      (session_adds lines who under to first rows_under.state (session_at old.sessions who.session).work session.after.work turn event rows_under.told (way.acts who.session).work
      called_step.work rows_under.adds)

module _ (lines : List Line) (first : CloudState) (who : Caller) (wish : Wish) (before after : Seen) (old new : World) (turn : Turn Answer)
    (event : who.event ≡ length lines + 1) (way : IsAdding lines first old before) (p : StepsLooked who wish (span_of before after old new) turn) where
  abbrev f : Sessions
  f = session_at old.sessions

  own_step : StepsSession who p.under p.to (f who.session) p.session.after (Ok turn)
  own_step = called_step lines first who wish before p.from p.under p.to after old new turn event way p.look_before p.wishes p.session p.look_after

  pub rows_stepped : AddsTo (length lines + 1) lines first after
  rows_stepped = rows_called lines first who wish before p.from p.under p.to after old new turn event way p.look_before p.wishes p.session p.look_after

  sessions_after : (n : ℕ) → session_at new.sessions n ≡ at who.session p.session.after f n
  sessions_after = changed_at who.session _ old.sessions new.sessions p.session

more_adding : (lines : List Line) (first : CloudState) (who : Caller) (wish : Wish) (before after : Seen) (old new : World) → who.event ≡ length lines + 1
    → IsAdding lines first old before → StepsLooked who wish (span_of before after old new) More → IsAdding lines first new after
more_adding lines first who wish before after old new event way p =
    let f : Sessions = session_at old.sessions in
    let own = own_step lines first who wish before after old new More event way p in
    let acts = way.acts who.session in
    let mine : ActsAs p.session.after (standing lines who.session) = record {
      buffer = own.buffer ∙ goes_noted who p.under p.to (f who.session).work p.session.after.work (f who.session).buffer own.work ∙ acts.buffer;
      work = goes_as who p.under p.to p.session.after.buffer (f who.session).work p.session.after.work (f who.session).cache own.shown.0 p.session.after.shown (standing lines who.session) own.work own.shown.1 acts.work;
    } in
    let all : AllAct lines (at who.session p.session.after f) = acts_set lines who.session f p.session.after way.acts mine in
    record {
      rows = rows_stepped lines first who wish before after old new More event way p;
      acts = λ n. subst (λ a. ActsAs a (standing lines n)) (sym (sessions_after lines first who wish before after old new More event way p n)) (all n);
    }

pub went_adding : (lines : List Line) (first : CloudState) (who : Caller) (before : Seen) (old : World) (after : Seen) (new : World) → who.event ≡ length lines + 1
    → IsAdding lines first old before → Went who before old after new → IsAdding lines first new after
went_adding lines first who before old after new number way start = way
went_adding lines first who before old after new number way (further mid _ world _ went step) =
    more_adding lines first who Plain mid after world new number (went_adding lines first who before old mid world number way went) step

-- a line whose last step is answered
ends_adding : (lines : List Line) (event : Event) (first : CloudState) (who : Caller) (wish : Wish) (before after : Seen) (old new : World) (a : Answer) (r : Reply)
    → session_of event ≡ who.session → ((s : Standing) → after_own event r s ≡ steps r s) → who.event ≡ length lines + 1 → 1 ≤ who.session
    → IsAdding lines first old before → SettlerRests (session_at old.sessions) → (p : StepsLooked who wish (span_of before after old new) (Ended a)) → RepliesTo a p.session.after (Ok r)
    → WorldAdds (lines ++ line_of event r ∷ []) first new after
ends_adding lines event first who wish before after old new a r own_is does number some way rests p replies =
    let f : Sessions = session_at old.sessions in
    let own = own_step lines first who wish before after old new (Ended a) number way p in
    let acts = way.acts who.session in
    let is = replies_to a p.session.after r replies in
    let ended = ends_as who p.under p.to (f who.session).work p.session.after.work (standing lines who.session) a r own.work is.0 acts.work in
    let mine : ActsAs p.session.after (steps r (standing lines who.session)) = record {
      buffer = own.buffer ∙ ap (noted_behind (f who.session).work) acts.buffer ∙ sym ended.buffer;
      work = ended.work;
    } in
    let all : AllActWith lines (line_of event r) (at who.session p.session.after f) =
    own_line lines who.session event r f p.session.after own_is way.acts (subst (ActsAs p.session.after) (sym (does (standing lines who.session))) mine) in
    through lines (line_of event r) first new after (rows_stepped lines first who wish before after old new (Ended a) number way p)
    (λ n. subst (λ z. ActsAs z (after_line n (standing lines n) (line_of event r))) (sym (sessions_after lines first who wish before after old new (Ended a) number way p n)) (all n))
    (changed_rests who.session _ old.sessions new.sessions some p.session rests)

runs_adding : (lines : List Line) (first : CloudState) (k n : ℕ) (r : Reply) (before after : Seen) (old new : World) → length lines + 1 ≡ n → 1 ≤ k
    → WorldAdds lines first old before → RunsTo (record { session = k; event = n }) (span_of before after old new) (Ok r) → WorldAdds (lines ++ line_of (event.Run k) r ∷ []) first new after
runs_adding lines first k n r before after old new at some w run =
    let who : Caller = record { session = k; event = n } in
    let c = run.comes in
    ends_adding lines (event.Run k) first who Plain c.mid after c.world new run.answer r refl (λ s. refl) (sym at) some
    (went_adding lines first who before old c.mid c.world (sym at) (adding_begins lines first old before w) c.went)
    (went_rests who before old c.mid c.world some c.went w.rests) c.steps run.replies

pub adds_run : (lines : List Line) (first : CloudState) (k n : ℕ) (r : Reply) (before after : Seen) (old new : World) → length lines + 1 ≡ n → 1 ≤ k
    → WorldAdds lines first old before → Runs (record { session = k; event = n }) (span_of before after old new) (Ok r) → WorldAdds (lines ++ line_of (event.Run k) r ∷ []) first new after
adds_run lines first k n r before after old new at some w (inl refuses) = adds_declined lines (event.Run k) r _ first before after old new refuses.declines w
adds_run lines first k n r before after old new at some w (inr (inl run)) = runs_adding lines first k n r before after old new at some w run
adds_run lines first k n r before after old new at some w (inr (inr memory)) = absurd (no_memory r memory.0)

-- a step that goes on
called_adding : (lines : List Line) (first : CloudState) (k n : ℕ) (wish : Wish) (before after : Seen) (old new : World) → length lines + 1 ≡ n → 1 ≤ k
    → WorldAdds lines first old before → StepsLooked (record { session = k; event = n }) wish (span_of before after old new) More
    → WorldAdds (lines ++ line_of (event.Step k wish) reply.Called ∷ []) first new after
called_adding lines first k n wish before after old new at some w p =
    let on = more_adding lines first (record { session = k; event = n }) wish before after old new (sym at) (adding_begins lines first old before w) p in
    through lines (line_of (event.Step k wish) reply.Called) first new after on.rows
    (still_line lines (event.Step k wish) reply.Called (session_at new.sessions) (λ s. refl) on.acts) (changed_rests k _ old.sessions new.sessions some p.session w.rests)

step_adding : (lines : List Line) (first : CloudState) (k n : ℕ) (wish : Wish) (r : Reply) (before after : Seen) (old new : World) (turn : Turn Answer) → length lines + 1 ≡ n → 1 ≤ k
    → WorldAdds lines first old before → (p : StepsLooked (record { session = k; event = n }) wish (span_of before after old new) turn) → RepliesTurn turn p.session.after (Ok r)
    → WorldAdds (lines ++ line_of (event.Step k wish) r ∷ []) first new after
step_adding lines first k n wish r before after old new More at some w p replies =
    let is : r ≡ reply.Called = cc in
    let P : Reply → Type 0 = λ z. WorldAdds (lines ++ line_of (event.Step k wish) z ∷ []) first new after in
    subst P (sym is) (called_adding lines first k n wish before after old new at some w p)
step_adding lines first k n wish r before after old new (Ended a) at some w p replies =
    ends_adding lines (event.Step k wish) first (record { session = k; event = n }) wish before after old new a r refl (λ s. refl) (sym at) some
    (adding_begins lines first old before w) w.rests p replies
step_adding lines first k n wish r before after old new (Stopped trouble) at some w p replies =
    absurd (no_stop _ p.under p.to p.session.before p.session.after trouble p.session.does)

pub adds_step : (lines : List Line) (first : CloudState) (k n : ℕ) (wish : Wish) (r : Reply) (before after : Seen) (old new : World) → length lines + 1 ≡ n → 1 ≤ k
    → WorldAdds lines first old before → MakesStep (record { session = k; event = n }) wish (span_of before after old new) (Ok r) → WorldAdds (lines ++ line_of (event.Step k wish) r ∷ []) first new after
adds_step lines first k n wish r before after old new at some w (inl refuses) = adds_declined lines (event.Step k wish) r _ first before after old new refuses.declines w
adds_step lines first k n wish r before after old new at some w (inr (inl step)) = step_adding lines first k n wish r before after old new step.turn at some w step.steps step.replies
adds_step lines first k n wish r before after old new at some w (inr (inr memory)) = absurd (no_memory r memory.0)

-- ---- a session's ledger

pub adds_policy : (lines : List Line) (first : CloudState) (k number : ℕ) (role : Role) (r : Reply) (before after : Seen) (old new : World) → WorldAdds lines first old before
    → Policies k role number (span_of before after old new) (Ok r) → WorldAdds (lines ++ line_of (event.Policy k role number) r ∷ []) first new after
adds_policy lines first k number role r before after old new w (inl refuses) = adds_declined lines (event.Policy k role number) r _ first before after old new refuses.declines w
adds_policy lines first k number role r before after old new w (inr (inl refuses)) = adds_declined lines (event.Policy k role number) r _ first before after old new refuses.1.declines w
adds_policy lines first k number role r before after old new w (inr (inr gives)) =
    through lines (line_of (event.Policy k role number) r) first new after (rows_seen (length lines + 1) lines first before after gives.quiet.seen (rows_begin lines first before w.rows))
    (still_line lines (event.Policy k role number) r (session_at new.sessions) (λ s. refl) (subst (λ (l : List Acting). AllAct lines (session_at l)) (sym gives.sessions) w.acts))
    (subst (λ (l : List Acting). SettlerRests (session_at l)) (sym gives.sessions) w.rests)

-- ---- a session that dies

dies_adding : (lines : List Line) (first : CloudState) (k : ℕ) (done : Bool) (r : Reply) (before after : Seen) (old new : World) → 1 ≤ k
    → WorldAdds lines first old before → Dies k (span_of before after old new) (Ok r) → WorldAdds (lines ++ line_of (event.Crash k done) r ∷ []) first new after
dies_adding lines first k done r before after old new some w h =
    let is : r ≡ reply.Crashed = cc (h.replies) in
    let P : Reply → Type 0 = λ z. WorldAdds (lines ++ line_of (event.Crash k done) z ∷ []) first new after in
    subst P (sym is) (adds_quietly lines (event.Crash k done) reply.Crashed k first before after old new _ refl some h.quiet h.closed
    (λ acts. subst (λ a. ActsAs a (after_own (event.Crash k done) reply.Crashed (standing lines k))) (sym h.closed.does) (crashed_own k done (standing lines k))) w)

done_adding : (lines : List Line) (first : CloudState) (k n : ℕ) (r : Reply) (before after : Seen) (old new : World) → length lines + 1 ≡ n → 1 ≤ k
    → WorldAdds lines first old before → DiesDone (record { session = k; event = n }) (span_of before after old new) (Ok r) → WorldAdds (lines ++ line_of (event.Crash k true) r ∷ []) first new after
done_adding lines first k n r before after old new at_n some w h =
    let is : r ≡ reply.Crashed = cc (h.replies) in
    let P : Reply → Type 0 = λ z. WorldAdds (lines ++ line_of (event.Crash k true) z ∷ []) first new after in
    subst P (sym is) (through lines (line_of (event.Crash k true) reply.Crashed) first new after
    (rows_stepped lines first who Plain before after old h.world h.turn (sym at_n) way h.steps) acts rests)
  where
    who : Caller
    who = record { session = k; event = n }

    way : IsAdding lines first old before
    way = adding_begins lines first old before w

    f : Sessions
    f = session_at old.sessions

    acts : AllActWith lines (line_of (event.Crash k true) reply.Crashed) (session_at new.sessions)
    acts m =
        subst (λ z. ActsAs z (after_line m (standing lines m) (line_of (event.Crash k true) reply.Crashed)))
        (sym (closed_twice k h.steps.session.after f (session_at h.world.sessions) (session_at new.sessions)
        (sessions_after lines first who Plain before after old h.world h.turn (sym at_n) way h.steps) (has_at k closed_session h.world new h.closes) m))
        (own_line lines k (event.Crash k true) reply.Crashed f closed_session refl way.acts (crashed_own k true (standing lines k)) m)

    rests : SettlerRests (session_at new.sessions)
    rests =
        changed_rests k _ h.world.sessions new.sessions some h.closes.session_is
        (changed_rests k _ old.sessions h.world.sessions some h.steps.session w.rests)

pub adds_crash : (lines : List Line) (first : CloudState) (k n : ℕ) (done : Bool) (r : Reply) (before after : Seen) (old new : World) → length lines + 1 ≡ n → 1 ≤ k
    → WorldAdds lines first old before → Crashes (record { session = k; event = n }) done (span_of before after old new) (Ok r) → WorldAdds (lines ++ line_of (event.Crash k done) r ∷ []) first new after
adds_crash lines first k n false r before after old new at some w h = dies_adding lines first k false r before after old new some w h
adds_crash lines first k n true r before after old new at some w (inl idle) = dies_adding lines first k true r before after old new some w idle.dies
adds_crash lines first k n true r before after old new at some w (inr (inl done)) = done_adding lines first k n r before after old new at some w done
adds_crash lines first k n true r before after old new at some w (inr (inr memory)) = absurd (no_memory r memory.0)

-- ---- the settler

-- from where the settler set out: the lines with its own, the cloud before them, and the other sessions
pub record Outset : Type 0 where
  pub lines : List Line
  pub first : CloudState
  pub others : Sessions

abbrev pub outset : List Line → CloudState → Sessions → Outset
outset lines first others = record { lines = lines; first = first; others = others }

-- the settler is under way within its line, which is one of these lines from its begin on, and the other sessions rest
pub record SettlerAdds (errand : Errand) (n : ℕ) (from : Outset) (world : World) (seen : Seen) : Type 0 where
  pub rows : AddsTo n from.lines from.first seen
  pub works : WorksOn errand (session_at world.sessions 0).work
  pub rest : (m : ℕ) → m ≢ 0 → session_at world.sessions m ≡ from.others m

-- its call, between two looks
module _ (errand : Errand) (n : ℕ) (lines : List Line) (first : CloudState) (others : Sessions) (row : AreRowsOf errand lines (settler n)) (before from under to after : Seen) (old new : World)
    (turn : Turn Answer) (way : SettlerAdds errand n (outset lines first others) old before) (look_before : Looked before from) (wishes : SetsWish Plain from under)
    (session : Changes 0 (λ a b. StepsSession (settler n) under to a b (Ok turn)) old.sessions new.sessions) (look_after : Looked to after) where
  settler_called : StepsSession (settler n) under to (session_at old.sessions 0) session.after (Ok turn)
  settler_called = subst (λ a. StepsSession (settler n) under to a session.after (Ok turn)) (sym (changed_was 0 _ old.sessions new.sessions session)) session.does

  settler_under : AddsTo n lines first under
  settler_under = rows_wished n lines first Plain from under wishes (rows_stay n lines first before from look_before.stays way.rows)

  pub settler_rows_called : AddsTo n lines first after
  settler_rows_called =
      rows_stay n lines first to after look_after.stays
      (errand_adds errand n lines (settler n) under to first settler_under.state (session_at old.sessions 0).work session.after.work turn (omega arith) settler_under.told way.works row
      settler_called.work settler_under.adds)

module _ (errand : Errand) (n : ℕ) (lines : List Line) (first : CloudState) (others : Sessions) (row : AreRowsOf errand lines (settler n)) (before after : Seen) (old new : World) (turn : Turn Answer)
    (way : SettlerAdds errand n (outset lines first others) old before) (p : StepsLooked (settler n) Plain (span_of before after old new) turn) where
  settler_step : StepsSession (settler n) p.under p.to (session_at old.sessions 0) p.session.after (Ok turn)
  settler_step = settler_called errand n lines first others row before p.from p.under p.to after old new turn way p.look_before p.wishes p.session p.look_after

  pub settler_rows : AddsTo n lines first after
  settler_rows = settler_rows_called errand n lines first others row before p.from p.under p.to after old new turn way p.look_before p.wishes p.session p.look_after

  settler_rest : (m : ℕ) → m ≢ 0 → session_at new.sessions m ≡ others m
  settler_rest m ne = changed_at 0 _ old.sessions new.sessions p.session m ∙ at_other 0 p.session.after (session_at old.sessions) m ne ∙ way.rest m ne

settler_more : (errand : Errand) (n : ℕ) (lines : List Line) (first : CloudState) (others : Sessions) → AreRowsOf errand lines (settler n) → (before after : Seen) (old new : World)
    → SettlerAdds errand n (outset lines first others) old before → StepsLooked (settler n) Plain (span_of before after old new) More → SettlerAdds errand n (outset lines first others) new after
settler_more errand n lines first others row before after old new way p =
    let own = settler_step errand n lines first others row before after old new More way p in
    record {
      rows = settler_rows errand n lines first others row before after old new More way p;
      works = subst (λ (a : Acting). WorksOn errand a.work) (sym (changed_at 0 _ old.sessions new.sessions p.session 0 ∙ at_same 0 p.session.after (session_at old.sessions) 0 refl))
          (errand_goes errand (settler n) p.under p.to (session_at old.sessions 0).work p.session.after.work own.work way.works);
      rest = settler_rest errand n lines first others row before after old new More way p;
    }

pub settler_went : (errand : Errand) (n : ℕ) (lines : List Line) (first : CloudState) (others : Sessions) → AreRowsOf errand lines (settler n) → (before : Seen) (old : World) (after : Seen) (new : World)
    → SettlerAdds errand n (outset lines first others) old before → Went (settler n) before old after new → SettlerAdds errand n (outset lines first others) new after
settler_went errand n lines first others row before old after new way start = way
settler_went errand n lines first others row before old after new way (further mid _ world _ went step) =
    settler_more errand n lines first others row mid after world new (settler_went errand n lines first others row before old mid world way went) step

-- the settler's line begins
module _ (errand : Errand) (lines : List Line) (first : CloudState) (n : ℕ) (r : Reply) (before : Seen) (old begun : World) (number : length lines + 1 ≡ n) (w : WorldAdds lines first old before)
    (begins : Has 0 (session_for errand) old begun) where
  begun_rows : AddsTo n (lines ++ line_of (event_for errand) r ∷ []) first before
  begun_rows =
      let a = rows_begin lines first before w.rows in
      subst (λ m. AddsTo m (lines ++ line_of (event_for errand) r ∷ []) first before) number
      (record { state = a.state; told = a.told; adds = adds_line (length lines + 1) lines (line_of (event_for errand) r) first a.state refl a.adds })

  pub begun_way : SettlerAdds errand n (outset (lines ++ line_of (event_for errand) r ∷ []) first (session_at old.sessions)) begun before
  begun_way = record {
    rows = begun_rows;
    works = subst (λ (a : Acting). WorksOn errand a.work) (sym (has_at 0 (session_for errand) old begun begins 0 ∙ at_same 0 (session_for errand) (session_at old.sessions) 0 refl)) (works_first errand);
    rest = λ m ne. has_at 0 (session_for errand) old begun begins m ∙ at_other 0 (session_for errand) (session_at old.sessions) m ne;
  }

settles_adding : (errand : Errand) (lines : List Line) (first : CloudState) (n : ℕ) (r : Reply) (before after : Seen) (old begun new : World) → length lines + 1 ≡ n → WorldAdds lines first old before
    → Has 0 (session_for errand) old begun → SettlesTo errand (settler n) (span_of before after begun new) (Ok r) → WorldAdds (lines ++ line_of (event_for errand) r ∷ []) first new after
settles_adding errand lines first n r before after old begun new number w begins h = record {
  rows = subst (λ m. AddsTo m all first after) whole s;
  acts = λ m. subst (λ z. ActsAs (session_at new.sessions m) z) (sym (standing_line lines (line_of (event_for errand) r) m))
      (still_line lines (event_for errand) r (session_at new.sessions) (still_stands errand r) acts m);
  rests = rests;
}
  where
    all : List Line
    all = lines ++ line_of (event_for errand) r ∷ []

    whole : n ≡ length all
    whole = omega (arith, number, length-append lines (line_of (event_for errand) r ∷ []))

    others : Sessions
    others = session_at old.sessions

    row : AreRowsOf errand all (settler n)
    row = errand_row errand lines r (settler n) refl (sym number)

    way : SettlerAdds errand n (outset all first others) h.comes.world h.comes.mid
    way = settler_went errand n all first others row before begun h.comes.mid h.comes.world (begun_way errand lines first n r before old begun number w begins) h.comes.went

    s : AddsTo n all first after
    s = settler_rows errand n all first others row h.comes.mid after h.comes.world h.left (Ended h.answer) way h.comes.steps

    rests : SettlerRests (session_at new.sessions)
    rests = has_at 0 closed_session h.left new h.closes 0 ∙ at_same 0 closed_session (session_at h.left.sessions) 0 refl

    rests_as : ActsAs closed_session (standing lines 0)
    rests_as = subst (λ a. ActsAs a (standing lines 0)) w.rests (w.acts 0)

    acts : AllAct lines (session_at new.sessions)
    acts m = on (cases_eq m 0)
      where
        on : (m ≡ 0) ⊎ (m ≢ 0) → ActsAs (session_at new.sessions m) (standing lines m)
        on (inl e) = subst (λ j. ActsAs (session_at new.sessions j) (standing lines j)) (sym e) (subst (λ a. ActsAs a (standing lines 0)) (sym rests) rests_as)
        on (inr ne) =
            subst (λ a. ActsAs a (standing lines m))
            (sym (has_at 0 closed_session h.left new h.closes m ∙ at_other 0 closed_session (session_at h.left.sessions) m ne
            ∙ settler_rest errand n all first others row h.comes.mid after h.comes.world h.left (Ended h.answer) way h.comes.steps m ne)) (w.acts m)

settles_on : (errand : Errand) (lines : List Line) (first : CloudState) (n : ℕ) (r : Reply) (before after : Seen) (old begun new : World) → length lines + 1 ≡ n → WorldAdds lines first old before
    → Has 0 (session_for errand) old begun → SettlesOn errand (settler n) (span_of before after begun new) (Ok r) → WorldAdds (lines ++ line_of (event_for errand) r ∷ []) first new after
settles_on errand lines first n r before after old begun new number w begins (inl h) = settles_adding errand lines first n r before after old begun new number w begins h
settles_on errand lines first n r before after old begun new number w begins (inr memory) = absurd (no_memory r memory.0)

pub adds_errand : (errand : Errand) (lines : List Line) (first : CloudState) (n : ℕ) (r : Reply) (before after : Seen) (old new : World) → length lines + 1 ≡ n → WorldAdds lines first old before
    → Settles errand n (span_of before after old new) (Ok r) → WorldAdds (lines ++ line_of (event_for errand) r ∷ []) first new after
adds_errand errand lines first n r before after old new number w (inl h) = settles_on errand lines first n r before after old h.begun new number w h.begins h.settles
adds_errand errand lines first n r before after old new number w (inr memory) = absurd (no_memory r memory.0)

-- ---- waits and reports

pub adds_wait : (lines : List Line) (first : CloudState) (ticks : ℕ) (r : Reply) (before after : Seen) (old new : World) → WorldAdds lines first old before
    → (WaitsFor ticks before after (Ok r) × (new ≡ old)) ⊎ WaitsTooLong ticks (span_of before after old new) (Ok r) → WorldAdds (lines ++ line_of (event.Wait ticks) r ∷ []) first new after
adds_wait lines first ticks r before after old new w (inl h) =
    let a = rows_begin lines first before w.rows in
    let waited = h.0.waited a.state a.told in
    stays lines (event.Wait ticks) r first before after old new h.1 (λ s. refl) (record {
      state = waited.after;
      told = waited.told;
      adds = adds_same (length lines + 1) lines first a.state waited.after (ap (λ (z : CloudState). z.versions) waited.rest) (ap (λ (z : CloudState). z.trace) waited.rest) a.adds;
    }) w
adds_wait lines first ticks r before after old new w (inr long) = adds_declined lines (event.Wait ticks) r _ first before after old new long.declines w

pub adds_report : (lines : List Line) (first : CloudState) (tree : ℕ) (r : Reply) (before after : Seen) (old new : World) → WorldAdds lines first old before
    → Reports tree (span_of before after old new) (Ok r) → WorldAdds (lines ++ line_of (event.Report tree) r ∷ []) first new after
adds_report lines first tree r before after old new w h =
    stays lines (event.Report tree) r first before after old new h.world (λ s. refl)
    (rows_stay (length lines + 1) lines first before after h.looked.stays (rows_begin lines first before w.rows)) w
