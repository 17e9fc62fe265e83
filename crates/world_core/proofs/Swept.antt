-- The sweep of a tree, step by step, leaves all but pages that nothing reached, and where it is answered that it swept, just the reached pages have bytes.
use Rattle.std.proofs.Common.{◌≡◌, inl, inr, ℕ, List, Some, Result, Ok, Err, refl, sym, ap, subst, ◌∙◌, arith}
use Rattle.client_work.specs.Session.{Acting, StepsSession, StepsAt, StepsSweeping, sweeping_session}
use Rattle.client_work.specs.declared.answer.Answer.{Answer}
use Rattle.client_work.specs.declared.answer.Answer.TheVariants as answer
use Rattle.client_work.specs.declared.work.Work.{Work}
use Rattle.client_work.specs.declared.work.Work.TheVariants as work
use Rattle.cloud_facts.proofs.Book.Names.{at_same}
use Rattle.cloud_facts.proofs.Calls.Calls.{call_of}
use Rattle.cloud_facts.specs.Words.{IsTree, Trouble, Entry, Answer as Heard, Turn, More, Ended, CloudState, Caller, Seen, Book, at, store_of, IsCall}
use Rattle.cloud_trait.specs.Weather.{counted, Makes, Leaves}
use Rattle.db_base.specs.declared.trouble.Trouble.TheVariants as trouble
use Rattle.db_base.specs.declared.wish.Wish.TheVariants.{Plain}
use Rattle.event_text.specs.declared.event.Event.{Event}
use Rattle.event_text.specs.declared.event.Event.TheVariants as event
use Rattle.orphan_sweep.specs.Sweeping.{Sweeping, new_sweeping, sweep_ask}
use Rattle.orphan_sweep.specs.declared.swept.Swept.{Swept}
use Rattle.reply_text.specs.declared.reply.Reply.{Reply}
use Rattle.session_facts.proofs.Sessions.Outcome.{session_keeps}
use Rattle.session_facts.proofs.Sessions.Laws.{rest_keeps, same_sessions}
use Rattle.session_facts.proofs.Machines.Sweeps.Remains.{itself_remains, same_remains, same_just}
use Rattle.session_facts.proofs.Machines.Sweeps.Calls.{SweepsFrom, leaves_remaining, goes_from, ends_just, begins_from}
use Rattle.session_facts.proofs.Machines.Sweeps.Same.{tells_same}
use Rattle.session_facts.specs.Lines.Errands.{sweeps, session_for}
use Rattle.session_facts.specs.Lines.Facts.{session_at, SomeBookStands}
use Rattle.session_facts.specs.Sessions.Knows.{ground, Sessions, SessionsStand, KnowsWork, Goes as SessionGoes}
use Rattle.session_facts.specs.Machines.Sweeps.Remains.{Remains, AreJustReached}
use Rattle.session_facts.specs.Machines.Sweeps.Knows.{KnowsSweep}
use Rattle.world_audit.specs.Look.{Looked}
use Rattle.world_core.proofs.Errands.{begins_errand}
use Rattle.world_core.proofs.StandsLemmas.{changed_at, changed_was, has_at}
use Rattle.world_core.specs.Asked.{Asks}
use Rattle.world_core.specs.Handled.{SetsWish, StepsLooked, FindsNoMemory, FallsShort, Went, start, further, SettlesOn, Settles, Answers}
use Rattle.world_core.specs.Replying.{RepliesSwept, trouble_reply}
use Rattle.world_core.specs.Swept.{IsSweptTo, SweptFrom, SweepLeaves}
use Rattle.world_core.specs.World.{World}
use Rattle.world_core.specs.declared.asked.Asked.{Asked}
use Rattle.world_core.specs.declared.asked.Asked.TheVariants.{Session, Wait, Report, Settle, Sweep}
use Rattle.world_core.specs.declared.world.WorldFault.{WorldFault}
use Rattle.world_core.specs.Span.{span_of}

-- ---- its call

-- session 0 at an event
abbrev settler : ℕ → Caller
settler n = record { session = 0; event = n }

-- a step made the call in hand, wherever it leads
record SweepCall (who : Caller) (before after : Seen) (m : Sweeping) : Type 0 where
  reply : Heard
  made : Makes who (sweep_ask m) reply before after

call_in : (who : Caller) (before after : Seen) (m : Sweeping) (new : Work) (turn : Turn Answer) → StepsSweeping who before after m new turn → SweepCall who before after m
call_in who before after m new More p = record { reply = p.1.did.answer; made = p.1.did.made }
call_in who before after m new (Ended (answer.Swept x)) p = record { reply = p.1.did.answer; made = p.1.did.made }
call_in who before after m new (Ended (answer.Trouble k)) p = record { reply = p.1.did.answer; made = p.1.did.made }
call_in who before after m new turn p = absurd p

-- ---- a world and a cloud within the line

-- the sweep of a tree that began over a cloud is under way
record OnSweep (begun : CloudState) (tree : ℕ) (world : World) (seen : Seen) : Type 0 where
  state : CloudState
  told : seen.state ≡ Some state
  book : Book
  order : List Entry
  stand : SessionsStand book order state (session_at world.sessions)
  sweep : Sweeping
  works : (session_at world.sessions 0).work ≡ work.Sweeping sweep
  from : SweepsFrom begun tree sweep state

-- what is left of that cloud
record IsLeftOf (begun : CloudState) (tree : ℕ) (seen : Seen) (Is : CloudState → Type 0) : Type 0 where
  state : CloudState
  told : seen.state ≡ Some state
  remains : Remains begun state tree
  is : Is state

-- what the line leaves of that cloud
record LeavesSo (begun : CloudState) (tree : ℕ) (after : Seen) (result : Result Reply WorldFault) : Type 0 where
  state : CloudState
  told : after.state ≡ Some state
  remains : Remains begun state tree
  swept : IsSweptTo begun state tree result

abbrev Any : CloudState → Type 0
Any s = Unit {0}

looked_left : (begun : CloudState) (tree : ℕ) (before after : Seen) (Is : CloudState → Type 0) → Looked before after → IsLeftOf begun tree before Is → IsLeftOf begun tree after Is
looked_left begun tree before after Is look left = record { state = left.state; told = look.stays left.state left.told; remains = left.remains; is = left.is }

module _ (begun : CloudState) (tree n : ℕ) (before : Seen) (old : World) (on : OnSweep begun tree old before) where
  on_left : IsLeftOf begun tree before Any
  on_left = record { state = on.state; told = on.told; remains = on.from.remains; is = tt }

  module _ (from under to : Seen) (look : Looked before from) (wishes : SetsWish Plain from under) where
    abbrev f : Sessions
    f = session_at old.sessions

    abbrev m : Sweeping
    m = on.sweep

    abbrev s : CloudState
    s = record on.state { wish = Plain }

    told_under : under.state ≡ Some s
    told_under = wishes.set on.state (look.stays on.state on.told)

    stand : SessionsStand on.book on.order s f
    stand = rest_keeps on.book on.order on.state s f refl refl refl refl (omega arith) on.stand

    wished : SweepsFrom begun tree m s
    wished = record {
      of = on.from.of;
      remains = same_remains begun on.state s tree refl refl on.from.remains;
      just = λ stage none. same_just begun on.state s tree refl (on.from.just stage none);
    }

    knows : KnowsSweep (store_of on.book on.order s) s.now m (stand.parts 0)
    knows = subst (λ (w : Work). KnowsWork (store_of on.book on.order s) s.now (f 0).cache w (stand.parts 0)) on.works (stand.each 0).work

    module _ (a : Acting) (turn : Turn Answer) (steps : StepsSession (settler n) under to (f 0) a (Ok turn)) where
      sweeping : StepsSweeping (settler n) under to m a.work turn
      sweeping = subst (λ (w : Work). StepsAt (settler n) under to w a.work turn) on.works steps.work

      abbrev heard : Heard
      heard = (call_in (settler n) under to m a.work turn sweeping).reply

      left : Leaves (settler n) (sweep_ask m) heard (counted under.counts s) to.counts to.state
      left = (call_in (settler n) under to m a.work turn sweeping).made.state s told_under

      call : IsCall (settler n) (sweep_ask m) heard s left.after
      call = call_of (settler n) (sweep_ask m) heard under to s left.after (call_in (settler n) under to m a.work turn sweeping).made told_under left.told

      remains : Remains begun left.after tree
      remains = leaves_remaining begun tree (settler n) s left.after on.book on.order stand.cloud m (stand.parts 0) knows heard call wished

      call_left : IsLeftOf begun tree to Any
      call_left = record { state = left.after; told = left.told; remains = remains; is = tt }

      goes : SessionGoes (ground on.book on.order s f) left.after 0 a
      goes = session_keeps (settler n) under to s left.after on.book on.order f a (Ok turn) told_under left.told stand steps

    -- one that goes on
    more_on : (a : Acting) (steps : StepsSession (settler n) under to (f 0) a (Ok More)) (after : Seen) (new : World) → Looked to after
        → ((k : ℕ) → session_at new.sessions k ≡ at 0 a f k) → OnSweep begun tree new after
    unfolding call_in sweeping
    more_on a steps after new look_after is =
        let p = sweeping a More steps in
        let l = left a More steps in
        let g = goes a More steps in
        let k : KnowsWork (store_of g.book_after g.order_after l.after) l.after.now a.cache a.work (g.stand.parts 0) =
        subst (λ (x : Acting). KnowsWork (store_of g.book_after g.order_after l.after) l.after.now x.cache x.work (g.stand.parts 0)) (at_same 0 a f 0 refl) (g.stand.each 0).work in
        record {
          state = l.after;
          told = look_after.stays l.after l.told;
          book = g.book_after;
          order = g.order_after;
          stand = same_sessions g.book_after g.order_after l.after (at 0 a f) (session_at new.sessions) is g.stand;
          sweep = p.0;
          works = ap (λ (x : Acting). x.work) (is 0 ∙ at_same 0 a f 0 refl) ∙ p.2;
          from = goes_from begun tree (settler n) s l.after on.book on.order stand.cloud m (stand.parts 0) knows (heard a More steps) (call a More steps) wished p.0 p.1.did.took
              g.book_after g.order_after g.stand.cloud (g.stand.parts 0)
              (subst (λ (w : Work). KnowsWork (store_of g.book_after g.order_after l.after) l.after.now a.cache w (g.stand.parts 0)) p.2 k);
        }

    -- one that ends
    swept_left : (x : Swept) (a : Acting) → StepsSession (settler n) under to (f 0) a (Ok (Ended (answer.Swept x))) → IsLeftOf begun tree to (λ u. AreJustReached begun u tree)
    unfolding call_in sweeping
    swept_left x a steps =
        let p = sweeping a (Ended (answer.Swept x)) steps in
        let l = left a (Ended (answer.Swept x)) steps in
        record {
          state = l.after;
          told = l.told;
          remains = remains a (Ended (answer.Swept x)) steps;
          is = ends_just begun tree (settler n) s l.after on.book on.order stand.cloud m (stand.parts 0) knows (heard a (Ended (answer.Swept x)) steps)
              (call a (Ended (answer.Swept x)) steps) wished p.0 x p.1.did.took;
        }

-- ---- the steps of the line

module _ (begun : CloudState) (tree n : ℕ) where
  -- a step is that of the session as it stood
  module _ (before after : Seen) (old new : World) (turn : Turn Answer) (on : OnSweep begun tree old before) (p : StepsLooked (settler n) Plain (span_of before after old new) turn) where
    steps_of : StepsSession (settler n) p.under p.to (session_at old.sessions 0) p.session.after (Ok turn)
    steps_of = subst (λ (a : Acting). StepsSession (settler n) p.under p.to a p.session.after (Ok turn)) (sym (changed_was 0 _ old.sessions new.sessions p.session)) p.session.does

    step_left : IsLeftOf begun tree after Any
    step_left =
        looked_left begun tree p.to after Any p.look_after (call_left begun tree n before old on p.from p.under p.to p.look_before p.wishes p.session.after turn steps_of)

  step_more : (before after : Seen) (old new : World) → OnSweep begun tree old before → StepsLooked (settler n) Plain (span_of before after old new) More → OnSweep begun tree new after
  step_more before after old new on p =
      more_on begun tree n before old on p.from p.under p.to p.look_before p.wishes p.session.after (steps_of before after old new More on p) after new p.look_after
      (changed_at 0 _ old.sessions new.sessions p.session)

  step_swept : (x : Swept) (before after : Seen) (old new : World) → OnSweep begun tree old before → StepsLooked (settler n) Plain (span_of before after old new) (Ended (answer.Swept x))
      → IsLeftOf begun tree after (λ u. AreJustReached begun u tree)
  step_swept x before after old new on p =
      looked_left begun tree p.to after (λ u. AreJustReached begun u tree) p.look_after
      (swept_left begun tree n before old on p.from p.under p.to p.look_before p.wishes x p.session.after (steps_of before after old new (Ended (answer.Swept x)) on p))

  went_on : (before : Seen) (old : World) (after : Seen) (new : World) → OnSweep begun tree old before → Went (settler n) before old after new → OnSweep begun tree new after
  went_on before old after new on start = on
  went_on before old after new on (further mid _ world _ went step) = step_more mid after world new (went_on before old mid world on went) step

  -- memory ran out beside a step
  falls_left : (before after : Seen) (old new : World) → OnSweep begun tree old before → FallsShort (settler n) Plain (span_of before after old new) → IsLeftOf begun tree after Any
  falls_left before after old new on (inl u) = looked_left begun tree before after Any u.looked (on_left begun tree n before old on)
  falls_left before after old new on (inr u) =
      looked_left begun tree u.to after Any u.look_after
      (call_left begun tree n before old on u.from u.under u.to u.look_before u.wishes u.session.after u.turn
      (subst (λ (a : Acting). StepsSession (settler n) u.under u.to a u.session.after (Ok u.turn)) (sym (changed_was 0 _ old.sessions new.sessions u.session)) u.session.does))

  -- ---- the line

  -- what is not answered so says nothing more
  memory_swept : (t : CloudState) (result : Result Reply WorldFault) → FindsNoMemory result → IsSweptTo begun t tree result
  memory_swept t result e = subst (IsSweptTo begun t tree) (sym e) tt

  trouble_swept : (t : CloudState) (k : Trouble) → IsSweptTo begun t tree (trouble_reply k)
  trouble_swept t trouble.Memory = tt
  trouble_swept t k = tt

  short_from : (after : Seen) (result : Result Reply WorldFault) → FindsNoMemory result → IsLeftOf begun tree after Any → LeavesSo begun tree after result
  short_from after result e left = record { state = left.state; told = left.told; remains = left.remains; swept = memory_swept left.state result e }

  ends_from : (before after : Seen) (old new : World) (a : Answer) (result : Result Reply WorldFault) → OnSweep begun tree old before
      → StepsLooked (settler n) Plain (span_of before after old new) (Ended a) → RepliesSwept a result → LeavesSo begun tree after result
  ends_from before after old new (answer.Swept x) result on p e =
      let left = step_swept x before after old new on p in
      record { state = left.state; told = left.told; remains = left.remains; swept = subst (IsSweptTo begun left.state tree) (sym e) left.is }
  ends_from before after old new (answer.Trouble k) result on p e =
      let left = step_left before after old new (Ended (answer.Trouble k)) on p in
      record { state = left.state; told = left.told; remains = left.remains; swept = subst (IsSweptTo begun left.state tree) (sym e) (trouble_swept left.state k) }
  ends_from before after old new a result on p e = absurd e

  module _ (before after : Seen) (old new : World) (result : Result Reply WorldFault) (told : before.state ≡ Some begun) (stands : SomeBookStands (session_at old.sessions) begun)
      (of_tree : IsTree tree) where
    begins_on : (world : World) → ((k : ℕ) → session_at world.sessions k ≡ at 0 (sweeping_session tree) (session_at old.sessions) k) → OnSweep begun tree world before
    begins_on world is = record {
      state = begun;
      told = told;
      book = stands.book;
      order = stands.order;
      stand = same_sessions stands.book stands.order begun (at 0 (sweeping_session tree) (session_at old.sessions)) (session_at world.sessions) is
          (begins_errand (sweeps tree) of_tree stands.book stands.order begun (session_at old.sessions) 0 stands.rests stands.stand);
      sweep = new_sweeping tree;
      works = ap (λ (x : Acting). x.work) (is 0 ∙ at_same 0 (sweeping_session tree) (session_at old.sessions) 0 refl);
      from = begins_from begun tree (new_sweeping tree) refl (λ e. cc (e));
    }

    line_from : Settles (sweeps tree) n (span_of before after old new) result → LeavesSo begun tree after result
    line_from (inr memory) = record {
      state = begun;
      told = ap (λ (x : Seen). x.state) memory.1.seen ∙ told;
      remains = itself_remains begun tree;
      swept = memory_swept begun result memory.0;
    }
    line_from (inl h) = on h.settles
      where
        first : OnSweep begun tree h.begun before
        first = begins_on h.begun (has_at 0 (session_for (sweeps tree)) old h.begun h.begins)

        on : SettlesOn (sweeps tree) (settler n) (span_of before after h.begun new) result → LeavesSo begun tree after result
        on (inl s) = ends_from s.comes.mid after s.comes.world s.left s.answer result (went_on before h.begun s.comes.mid s.comes.world first s.comes.went) s.comes.steps s.replies
        on (inr (e, s)) =
            let short = s.stops.short in
            short_from after result e (falls_left s.stops.mid after s.stops.world short.left (went_on before h.begun s.stops.mid s.stops.world first s.stops.went) short.falls)

-- ---- the clause

asked_from : (n tree : ℕ) (asked : Asked) (before after : Seen) (old new : World) (result : Result Reply WorldFault) (s : CloudState) → before.state ≡ Some s
    → SomeBookStands (session_at old.sessions) s → IsTree tree → Asks (event.Sweep tree) asked → Answers n asked (span_of before after old new) result → SweptFrom s after tree result
asked_from n tree (Sweep (Ok found)) before after old new result s told stands of_tree asks answers =
    let left = line_from s tree n before after old new result told stands of_tree (subst (λ (k : ℕ). Settles (sweeps k) n (span_of before after old new) result) asks.0 answers.1) in
    record {
      state = left.state;
      told = left.told;
      remains = left.remains;
      same = tells_same stands.book stands.order s left.state stands.stand.cloud tree of_tree left.remains;
      swept = left.swept;
    }
asked_from n tree (Sweep (Err why)) before after old new result s told stands of_tree asks answers = absurd (asks.0 of_tree)
asked_from n tree (Session k request) before after old new result s told stands of_tree asks answers = absurd asks
asked_from n tree (Wait ticks) before after old new result s told stands of_tree asks answers = absurd asks
asked_from n tree (Report of) before after old new result s told stands of_tree asks answers = absurd asks
asked_from n tree Settle before after old new result s told stands of_tree asks answers = absurd asks

pub sweep_leaves : (n : ℕ) (e : Event) (before after : Seen) (old new : World) (result : Result Reply WorldFault) → SweepLeaves n e (span_of before after old new) result
sweep_leaves n (event.Sweep tree) before after old new result = λ s told stands of_tree handled.
    asked_from n tree handled.asked before after old new result s told stands of_tree handled.asks handled.answers
sweep_leaves n e before after old new result = tt
