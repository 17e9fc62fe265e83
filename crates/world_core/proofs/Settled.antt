-- A settling that came to its end left nothing, and stayed within its bound.
use Rattle.std.proofs.Common.{◌≡◌, ℕ, [], Some, Result, Ok, refl, sym, ap, subst, ◌∙◌, inl, inr, arith}
use Rattle.cloud_trait.specs.Calm.{IsCalm, NamesLasting}
use Rattle.client_work.specs.Session.{Acting, StepsSession, settling_session, ask_of_work}
use Rattle.client_work.specs.declared.answer.Answer.{Answer}
use Rattle.client_work.specs.declared.answer.Answer.TheVariants as answer
use Rattle.client_work.specs.declared.work.Work.{Work}
use Rattle.client_work.specs.declared.work.Work.TheVariants as work
use Rattle.cloud_facts.proofs.Book.Names.{at_same}
use Rattle.cloud_facts.specs.Words.{Trouble, Turn, More, Ended, CloudState, Seen, Ask, Goes, Ends, Stops, Deed}
use Rattle.cloud_trait.specs.Weather.{counted, Leaves}
use Rattle.db_base.specs.declared.trouble.Trouble.TheVariants as trouble
use Rattle.db_base.specs.declared.wish.Wish.TheVariants.{Plain}
use Rattle.event_text.specs.declared.event.Event.{Event}
use Rattle.event_text.specs.declared.event.Event.TheVariants as event
use Rattle.replay_meaning.specs.Standing.{Posture, standing}
use Rattle.session_facts.proofs.Reports.Settled.{none_open, none_wait}
use Rattle.session_facts.specs.Lines.Answers.{IsSoundReply}
use Rattle.session_facts.specs.Lines.Errands.{settles}
use Rattle.session_facts.specs.Lines.Facts.{session_at, SomeBookStands}
use Rattle.reply_text.specs.declared.reply.Reply.{Reply}
use Rattle.reply_text.specs.declared.reply.Reply.TheVariants as reply
use Rattle.session_facts.proofs.Settling.Along.{Handed, Hands, behind_part}
use Rattle.session_facts.proofs.Settling.Begins.{left_begins, both_begin}
use Rattle.session_facts.proofs.Settling.CostParts.{GoesCalmly, LeftAndCost, SettledWell, cost_hands}
use Rattle.session_facts.proofs.Settling.Free.{begins_alone}
use Rattle.session_facts.proofs.Settling.LeftParts.{IsDelivered, left_hands}
use Rattle.session_facts.proofs.Settling.Lefts.{Left, NothingWaits}
use Rattle.session_facts.proofs.Settling.Pages.Runs.{pages_run}
use Rattle.session_facts.proofs.Settling.Recoveries.Runs.{recoveries_run}
use Rattle.session_facts.proofs.Settling.Trees.Runs.{trees_run}
use Rattle.session_facts.proofs.Settling.Turns.{settler, OnWay, of_session, IsAlone, calm_with, step_on, step_ends, first_moment, begins_on}
use Rattle.session_facts.specs.Sessions.Calls.{session_step, reply_of}
use Rattle.session_facts.proofs.Sessions.Explains.Sessions.{session_explains}
use Rattle.session_facts.proofs.Sessions.Stops.{session_stops}
use Rattle.session_facts.proofs.Lines.Outcome.{MadeCall, made_call}
use Rattle.session_facts.specs.Sessions.Stops.{MaySettle, MayAnswer}
use Rattle.session_facts.specs.Sessions.Knows.{SessionsStand}
use Rattle.session_facts.specs.Sessions.Untroubled.{GivesBackLasting, IsUntroubled}
use Rattle.session_facts.specs.Settling.Bound.{SettlesWithin}
use Rattle.session_facts.specs.Settling.Runs.{TreesRun, PagesRun, RecoveriesRun}
use Rattle.session_facts.specs.Settling.Story.{Moment}
use Rattle.settle_run.specs.Settling.{Settling, Step, passed, new_settling, settle_ask}
use Rattle.settle_run.specs.declared.settled.Settled.{Settled as Answered}
use Rattle.world_core.proofs.AllCalls.{same_calls}
use Rattle.world_core.proofs.Calm.{errand_well}
use Rattle.world_core.proofs.Keeping.{keeps_book}
use Rattle.world_core.specs.Calm.{StepIsCalm, SettlesWell, work_at}
use Rattle.world_core.specs.EachStep.{StepFact, EachWent, EachCome, EachSettlingOn, EachSettling, EachAsked, EachStep}
use Rattle.world_core.specs.Handled.{Has, StepsLooked, Went, start, further, SettlesTo, SettlesOn, Settles as SettlesLine, Answers, Handled}
use Rattle.world_core.specs.Replying.{RepliesSettled, unsettled_reply}
use Rattle.world_core.specs.Explained.{StepExplains}
use Rattle.world_core.specs.Settled.{StepDelivers, StepGoesWell, NoLockHeld, LeavesNothing, LeftNothing, SettledWithin, AnswersSettled, SettlingLeaves, SettlingEnds, SettlingIsRight}
use Rattle.world_core.specs.declared.asked.Asked.{Asked}
use Rattle.world_core.specs.declared.asked.Asked.TheVariants.{Session, Wait, Report, Settle, Sweep}
use Rattle.world_core.specs.World.{World}
use Rattle.world_core.specs.declared.world.WorldFault.{WorldFault}
use Rattle.world_core.specs.Span.{Span, span_of}
use Rattle.world_core.proofs.StandsLemmas.{changed_at, changed_was, no_memory}
use Rattle.std.proofs.lemmas.Option.{same_Some}

-- ---- the steps of the line

-- what is claimed of a step of the settler says so much of its call
abbrev Gives : StepFact → (Deed → Type 0) → ℕ → Type 0
Gives Holds P n =
    (before after : Seen) (old new : World) (turn : Turn Answer) (p : StepsLooked (settler n) Plain (span_of before after old new) turn) (m : Settling)
    → p.session.before.work ≡ work.Settling m → Holds (settler n) Plain (span_of before after old new) turn p
    → P (record { who = settler n; ask = settle_ask m; answer = reply_of (session_step (settler n) p.under p.to p.session.before p.session.after turn) p.session.does; before = p.under; after = p.to })

-- the settler is under way in a world, over a cloud that is told
record WorldOnWay (B : Settling → Moment → Type 0) (P : Deed → Type 0) (world : World) (seen : Seen) : Type 0 where
  state : CloudState
  told : seen.state ≡ Some state
  way : OnWay B P (session_at world.sessions 0) state

record WorldAtEnd (E : Settling → Answered → Moment → Type 0) (x : Answered) (seen : Seen) : Type 0 where
  settling : Settling
  now : Moment
  told : seen.state ≡ Some now.state
  holds : E settling x now

module _ (Holds : StepFact) (B : Settling → Moment → Type 0) (E : Settling → Answered → Moment → Type 0) (P : Deed → Type 0) (hands : Hands B E P) (n : ℕ) (gives : Gives Holds P n) where
  module _ (before after : Seen) (old new : World) (turn : Turn Answer) (at_way : WorldOnWay B P old before) (p : StepsLooked (settler n) Plain (span_of before after old new) turn) where
    abbrev own : OnWay B P p.session.before at_way.state
    own = of_session B P (session_at old.sessions 0) p.session.before at_way.state (changed_was 0 _ old.sessions new.sessions p.session) at_way.way

    under : p.under.state ≡ Some (record at_way.state { wish = Plain })
    under = p.wishes.set at_way.state (p.look_before.stays at_way.state at_way.told)

    session_after : session_at new.sessions 0 ≡ p.session.after
    session_after = changed_at 0 _ old.sessions new.sessions p.session 0 ∙ at_same 0 p.session.after (session_at old.sessions) 0 refl

  world_more : (before after : Seen) (old new : World) → WorldOnWay B P old before → (p : StepsLooked (settler n) Plain (span_of before after old new) More)
      → Holds (settler n) Plain (span_of before after old new) More p → WorldOnWay B P new after
  world_more before after old new at_way p holds =
      let way = own before after old new More at_way p in
      let on = step_on B E P hands n p.under p.to p.session.before p.session.after at_way.state way (under before after old new More at_way p) p.session.does
      (gives before after old new More p way.settling way.works holds) in
      record {
        state = on.state;
        told = p.look_after.stays on.state on.told;
        way = of_session B P p.session.after (session_at new.sessions 0) on.state (sym (session_after before after old new More at_way p)) on.way;
      }

  world_ends : (x : Answered) (before after : Seen) (old new : World) → WorldOnWay B P old before → (p : StepsLooked (settler n) Plain (span_of before after old new) (Ended (answer.Settled x)))
      → Holds (settler n) Plain (span_of before after old new) (Ended (answer.Settled x)) p → WorldAtEnd E x after
  world_ends x before after old new at_way p holds =
      let way = own before after old new (Ended (answer.Settled x)) at_way p in
      let ends = step_ends B E P hands n p.under p.to p.session.before p.session.after at_way.state way (under before after old new (Ended (answer.Settled x)) at_way p) x p.session.does
      (gives before after old new (Ended (answer.Settled x)) p way.settling way.works holds) in
      record { settling = ends.settling; now = ends.now; told = p.look_after.stays ends.now.state ends.told; holds = ends.holds }

  world_went : (before : Seen) (old : World) (after : Seen) (new : World) → WorldOnWay B P old before → (went : Went (settler n) before old after new)
      → EachWent Holds went → WorldOnWay B P new after
  world_went before old after new at_way start each = at_way
  world_went before old after new at_way (further mid _ world _ went step) each =
      world_more mid after world new (world_went before old mid world at_way went each.0) step each.1

  module _ (before : Seen) (old begun : World) (t : CloudState) (told : before.state ≡ Some t) (stands : SomeBookStands (session_at old.sessions) t) (begins : Has 0 settling_session old begun)
      (at_start : B new_settling (first_moment stands.book stands.order t (session_at old.sessions) stands.rests stands.stand)) where
    begun_session : session_at begun.sessions 0 ≡ settling_session
    begun_session =
        changed_at 0 _ old.sessions begun.sessions begins.session_is 0 ∙ (at_same 0 begins.session_is.after (session_at old.sessions) 0 refl ∙ begins.session_is.does)

    abbrev world_begins : WorldOnWay B P begun before
    world_begins = record {
      state = t;
      told = told;
      way = of_session B P settling_session (session_at begun.sessions 0) t (sym begun_session)
          (begins_on B E P hands stands.book stands.order t (session_at old.sessions) stands.rests stands.stand at_start);
    }

    no_trouble : (calls : ℕ) (t : Trouble) → (let r : Result Reply WorldFault = Ok (reply.Settled calls) in r ≡ unsettled_reply t) → ⊥
    no_trouble calls trouble.Memory e = absurd (cc (e))
    no_trouble calls t e = absurd (cc (e))

    world_settles : (after : Seen) (new : World) (calls : ℕ) (h : SettlesTo settles (settler n) (span_of before after begun new) (Ok (reply.Settled calls)))
        → EachCome Holds (settler n) (span_of before after begun h.left) h.answer h.comes → (x : Answered) × ((x.calls ≡ calls) × WorldAtEnd E x after)
    world_settles after new calls h each = on h.answer h.comes.steps h.replies each.1
      where
        way : WorldOnWay B P h.comes.world h.comes.mid
        way = world_went before begun h.comes.mid h.comes.world world_begins h.comes.went each.0

        on : (a : Answer) → (p : StepsLooked (settler n) Plain (span_of h.comes.mid after h.comes.world h.left) (Ended a)) → RepliesSettled a (Ok (reply.Settled calls))
            → Holds (settler n) Plain (span_of h.comes.mid after h.comes.world h.left) (Ended a) p → (x : Answered) × ((x.calls ≡ calls) × WorldAtEnd E x after)
        on (answer.Settled x) p e holds = (x, (same_calls calls x e, world_ends x h.comes.mid after h.comes.world h.left way p holds))
        on (answer.Trouble q) p e holds = absurd (no_trouble calls q e)
        on a p e holds = absurd e

-- ---- what the claims give

delivers_gives : (n : ℕ) → Gives StepDelivers IsDelivered n
delivers_gives n before after old new turn p m is holds = holds

calm_gives : (n : ℕ) → Gives StepIsCalm GoesCalmly n
calm_gives n before after old new turn p m is holds =
    let asked : holds.ask ≡ settle_ask m = same_Some holds.ask (settle_ask m) (sym holds.hand ∙ ap ask_of_work is) in (
      subst
          (λ (ask : Ask). IsCalm (record {
            who = settler n;
            ask = ask;
            answer = reply_of (session_step (settler n) p.under p.to p.session.before p.session.after turn) p.session.does;
            before = p.under;
            after = p.to;
          })) asked holds.calm,
      holds.memory,
    )

-- ---- where no lock is held, the locks that it takes are free

-- nothing is asked of a settling
abbrev Anything : Settling → Moment → Type 0
Anything s m = Unit {0}

abbrev AnyEnd : Settling → Answered → Moment → Type 0
AnyEnd s x m = Unit {0}

abbrev AnyCall : Deed → Type 0
AnyCall d = Unit {0}

any_hands : Hands Anything AnyEnd AnyCall
any_hands s w h first last holds place ran each works = on (passed (behind_part s w h))
  where
    on : (next : Step) → Handed Anything AnyEnd next last
    on (Goes m) = tt
    on (Ends m x) = tt
    on (Stops m t) = tt

any_gives : (Holds : StepFact) (n : ℕ) → Gives Holds AnyCall n
any_gives Holds n before after old new turn p m is holds = tt

-- the settler is under way, and nobody else has a lease
record WorldAlone (world : World) (seen : Seen) : Type 0 where
  at : WorldOnWay Anything AnyCall world seen
  alone : IsAlone at.way.settling at.state

module _ (n : ℕ) where
  module _ (before after : Seen) (old new : World) (turn : Turn Answer) (here : WorldAlone old before) (p : StepsLooked (settler n) Plain (span_of before after old new) turn)
      (well : StepGoesWell (settler n) Plain (span_of before after old new) turn p) where
    abbrev way : OnWay Anything AnyCall p.session.before here.at.state
    way = own StepGoesWell Anything AnyEnd AnyCall any_hands n (any_gives StepGoesWell n) before after old new turn here.at p

    wish_set : p.under.state ≡ Some (record here.at.state { wish = Plain })
    wish_set = under StepGoesWell Anything AnyEnd AnyCall any_hands n (any_gives StepGoesWell n) before after old new turn here.at p

    asked : well.ask ≡ settle_ask way.settling
    asked = same_Some well.ask (settle_ask way.settling) (sym well.hand ∙ ap ask_of_work way.works)

    call_calm : IsCalm (record {
      who = settler n;
      ask = settle_ask way.settling;
      answer = reply_of (session_step (settler n) p.under p.to p.session.before p.session.after turn) p.session.does;
      before = p.under;
      after = p.to;
    })
    call_calm =
        calm_with Anything AnyEnd AnyCall any_hands n p.under p.to p.session.before p.session.after here.at.state way wish_set turn p.session.does here.alone well.counts
        (λ t told. subst (λ (ask : Ask). NamesLasting ask t.now) asked (well.lasting t told))

    well_calm : StepIsCalm (settler n) Plain (span_of before after old new) turn p
    well_calm = record {
      ask = settle_ask way.settling;
      hand = ap ask_of_work way.works;
      calm = call_calm;
      returned = subst (λ (ask : Ask). GivesBackLasting ask call_calm.after.now) asked (well.returned call_calm.after call_calm.left);
      memory = well.memory;
    }

  well_more : (before after : Seen) (old new : World) → WorldAlone old before → (p : StepsLooked (settler n) Plain (span_of before after old new) More)
      → StepGoesWell (settler n) Plain (span_of before after old new) More p → WorldAlone new after
  well_more before after old new here p well =
      let on = step_on Anything AnyEnd AnyCall any_hands n p.under p.to p.session.before p.session.after here.at.state (way before after old new More here p well)
      (wish_set before after old new More here p well) p.session.does tt in
      record {
        at = record {
          state = on.state;
          told = p.look_after.stays on.state on.told;
          way = of_session Anything AnyCall p.session.after (session_at new.sessions 0) on.state
              (sym (session_after StepGoesWell Anything AnyEnd AnyCall any_hands n (any_gives StepGoesWell n) before after old new More here.at p)) on.way;
        };
        alone = on.alone (here.alone, (well.counts, well.memory));
      }

  went_calm : (before : Seen) (old : World) (after : Seen) (new : World) → WorldAlone old before → (went : Went (settler n) before old after new)
      → EachWent StepGoesWell went → EachWent StepIsCalm went × WorldAlone new after
  went_calm before old after new here start each = (tt, here)
  went_calm before old after new here (further mid _ world _ went step) each =
      let before_it = went_calm before old mid world here went each.0 in
      ((before_it.0, well_calm mid after world new More before_it.1 step each.1), well_more mid after world new before_it.1 step each.1)

  module _ (before after : Seen) (old new : World) (r : Reply) (t : CloudState) (told : before.state ≡ Some t) (stands : SomeBookStands (session_at old.sessions) t) (free : NoLockHeld t) where
    begins_free : (begun : World) → Has 0 settling_session old begun → WorldAlone begun before
    begins_free begun begins = record {
      at = world_begins StepGoesWell Anything AnyEnd AnyCall any_hands n (any_gives StepGoesWell n) before old begun t told stands begins tt;
      alone = begins_alone t free;
    }

    settling_calm : (h : SettlesLine settles n (span_of before after old new) (Ok r)) → EachSettling StepGoesWell settles n (span_of before after old new) (Ok r) h → EachSettling StepIsCalm settles n (span_of before after old new) (Ok r) h
    settling_calm (inr memory) each = tt
    settling_calm (inl h) each = on h.settles each
      where
        on : (s : SettlesOn settles (settler n) (span_of before after h.begun new) (Ok r)) → EachSettlingOn StepGoesWell settles (settler n) (span_of before after h.begun new) (Ok r) s
            → EachSettlingOn StepIsCalm settles (settler n) (span_of before after h.begun new) (Ok r) s
        on (inr memory) steps = tt
        on (inl s) steps =
            let went = went_calm before h.begun s.comes.mid s.comes.world (begins_free h.begun h.begins) s.comes.went steps.0 in
            (went.0, well_calm s.comes.mid after s.comes.world s.left (Ended s.answer) went.1 s.comes.steps steps.1)

-- ---- what each step brought, and the trouble of the last one

-- nothing is asked of a step
abbrev AnyStep : StepFact
AnyStep who wish span turn p = Unit {0}

abbrev SettlerOnWay : World → Seen → Type 0
SettlerOnWay world seen = WorldOnWay Anything AnyCall world seen

state_is : (x y z : CloudState) → x ≡ y → Some y ≡ Some z → x ≡ z
state_is x y z e f = e ∙ cc (f)

module _ (n : ℕ) where
  settler_more : (before after : Seen) (old new : World) → SettlerOnWay old before → StepsLooked (settler n) Plain (span_of before after old new) More → SettlerOnWay new after
  settler_more before after old new way p = world_more AnyStep Anything AnyEnd AnyCall any_hands n (any_gives AnyStep n) before after old new way p tt

  module _ (before after : Seen) (old new : World) (turn : Turn Answer) (at_way : SettlerOnWay old before) (p : StepsLooked (settler n) Plain (span_of before after old new) turn) where
    abbrev goes : OnWay Anything AnyCall p.session.before at_way.state
    goes = own AnyStep Anything AnyEnd AnyCall any_hands n (any_gives AnyStep n) before after old new turn at_way p

    abbrev at : Moment
    at = goes.now

    wished : p.under.state ≡ Some (record at_way.state { wish = Plain })
    wished = under AnyStep Anything AnyEnd AnyCall any_hands n (any_gives AnyStep n) before after old new turn at_way p

    stand : (s : CloudState) → p.under.state ≡ Some s → SessionsStand at.book at.order s at.sessions
    stand s told =
        subst (λ (x : CloudState). SessionsStand at.book at.order x at.sessions)
        (state_is at.state (record at_way.state { wish = Plain }) s goes.now_is (sym wished ∙ told)) at.stand

    settler_explains : StepExplains (settler n) Plain (span_of before after old new) turn p
    settler_explains s t told left =
        session_explains (settler n) p.under p.to s t at.book at.order at.sessions told left (stand s told) p.session.before p.session.after turn goes.session_is p.session.does

  settler_stops : (before after : Seen) (old new : World) (q : Trouble) → SettlerOnWay old before → StepsLooked (settler n) Plain (span_of before after old new) (Ended (answer.Trouble q)) → MaySettle q
  settler_stops before after old new q at_way p =
      subst (λ (w : Work). MayAnswer w q) works
      (session_stops (settler n) p.under p.to s left.after here.book here.order here.sessions told left.told (stand before after old new (Ended (answer.Trouble q)) at_way p s told) p.session.after q steps)
    where
      way : OnWay Anything AnyCall p.session.before at_way.state
      way = goes before after old new (Ended (answer.Trouble q)) at_way p

      here : Moment
      here = way.now

      s : CloudState
      s = record at_way.state { wish = Plain }

      told : p.under.state ≡ Some s
      told = wished before after old new (Ended (answer.Trouble q)) at_way p

      steps : StepsSession (settler n) p.under p.to (here.sessions 0) p.session.after (Ok (Ended (answer.Trouble q)))
      steps = subst (λ (a : Acting). StepsSession (settler n) p.under p.to a p.session.after (Ok (Ended (answer.Trouble q)))) (sym way.session_is) p.session.does

      works : (here.sessions 0).work ≡ work.Settling way.settling
      works = ap (λ (a : Acting). a.work) way.session_is ∙ way.works

      made : MadeCall (settler n) p.under p.to (here.sessions 0).work
      made = made_call (settler n) p.under p.to (here.sessions 0).work p.session.after.work (Ended (answer.Trouble q)) steps.work

      left : Leaves (settler n) made.ask made.answer (counted p.under.counts s) p.to.counts p.to.state
      left = made.made.state s told

  went_explains : (before : Seen) (old : World) (after : Seen) (new : World) → SettlerOnWay old before → (went : Went (settler n) before old after new)
      → EachWent StepExplains went × SettlerOnWay new after
  went_explains before old after new way start = (tt, way)
  went_explains before old after new way (further mid _ world _ went step) =
      let before_it = went_explains before old mid world way went in
      ((before_it.0, settler_explains mid after world new More before_it.1 step), settler_more mid after world new before_it.1 step)

  module _ (before after : Seen) (old new : World) (r : Reply) (t : CloudState) (told : before.state ≡ Some t) (stands : SomeBookStands (session_at old.sessions) t) where
    begins_way : (begun : World) → Has 0 settling_session old begun → SettlerOnWay begun before
    begins_way begun begins = world_begins AnyStep Anything AnyEnd AnyCall any_hands n (any_gives AnyStep n) before old begun t told stands begins tt

    settling_explains : (h : SettlesLine settles n (span_of before after old new) (Ok r)) → EachSettling StepExplains settles n (span_of before after old new) (Ok r) h
    settling_explains (inr memory) = tt
    settling_explains (inl h) = on h.settles
      where
        on : (s : SettlesOn settles (settler n) (span_of before after h.begun new) (Ok r)) → EachSettlingOn StepExplains settles (settler n) (span_of before after h.begun new) (Ok r) s
        on (inr memory) = tt
        on (inl s) =
            let went = went_explains before h.begun s.comes.mid s.comes.world (begins_way h.begun h.begins) s.comes.went in
            (went.0, settler_explains s.comes.mid after s.comes.world s.left (Ended s.answer) went.1 s.comes.steps)

    unsettled_sound : (posture : Posture) (q : Trouble) → (let result : Result Reply WorldFault = Ok r in result ≡ unsettled_reply q) → MaySettle q → IsSoundReply posture r
    unsettled_sound posture trouble.Memory e may = absurd (cc (e))
    unsettled_sound posture q e may = let is : r ≡ reply.NotSettled q = cc (e) in subst (IsSoundReply posture) (sym is) may

    settling_sound : SettlesLine settles n (span_of before after old new) (Ok r) → (posture : Posture) → IsSoundReply posture r
    settling_sound (inr memory) posture = absurd (no_memory r memory.0)
    settling_sound (inl h) posture = by_end h.settles
      where
        by_end : SettlesOn settles (settler n) (span_of before after h.begun new) (Ok r) → IsSoundReply posture r
        by_end (inr memory) = absurd (no_memory r memory.0)
        by_end (inl s) = on s.answer s.comes.steps s.replies
          where
            way : SettlerOnWay s.comes.world s.comes.mid
            way = (went_explains before h.begun s.comes.mid s.comes.world (begins_way h.begun h.begins) s.comes.went).1

            on : (a : Answer) → StepsLooked (settler n) Plain (span_of s.comes.mid after s.comes.world s.left) (Ended a) → RepliesSettled a (Ok r) → IsSoundReply posture r
            on (answer.Settled x) p e = let is : r ≡ reply.Settled x.calls = cc (e) in subst (IsSoundReply posture) (sym is) tt
            on (answer.Trouble q) p e = unsettled_sound posture q e (settler_stops s.comes.mid after s.comes.world s.left q way p)
            on a p e = absurd e

-- ---- the line

leaves_nothing : (m : Moment) (s : Settling) (x : Answered) → NothingWaits s x m → LeavesNothing m.state
leaves_nothing m s x left tree is =
    let most = is.most in
    record {
      heads = λ committed. none_open m.state tree committed (λ k client. let bound = client.most in left.0 k client (omega (arith, bound))) 64 (omega arith);
      messages = none_wait m.state tree m.stand.cloud.decodes (left.1 tree is (omega (arith, most)));
    }

module _ (trees : TreesRun) (pages : PagesRun) (clients : RecoveriesRun) (n : ℕ) (before after : Seen) (old new : World) (t : CloudState) (calls : ℕ)
    (told : before.state ≡ Some t) (stands : SomeBookStands (session_at old.sessions) t) where
  abbrev answered : Result Reply WorldFault
  answered = Ok (reply.Settled calls)

  line_leaves : (h : SettlesLine settles n (span_of before after old new) answered) → EachSettling StepDelivers settles n (span_of before after old new) answered h → LeftNothing after
  line_leaves (inr memory) each = absurd (no_memory (reply.Settled calls) memory.0)
  line_leaves (inl h) each = on h.settles each
    where
      on : (s : SettlesOn settles (settler n) (span_of before after h.begun new) answered) → EachSettlingOn StepDelivers settles (settler n) (span_of before after h.begun new) answered s → LeftNothing after
      on (inr memory) steps = absurd (no_memory (reply.Settled calls) memory.0)
      on (inl s) steps =
          let end = (world_settles StepDelivers Left NothingWaits IsDelivered (left_hands trees pages clients) n (delivers_gives n) before old h.begun t told stands h.begins
          (left_begins stands.book stands.order t (session_at old.sessions) stands.rests stands.stand) after new calls s steps) in
          record { state = end.1.1.now.state; told = end.1.1.told; nothing = leaves_nothing end.1.1.now end.1.1.settling end.0 end.1.1.holds }

  line_within : (h : SettlesLine settles n (span_of before after old new) answered) → EachSettling StepIsCalm settles n (span_of before after old new) answered h → SettledWithin t after calls
  line_within (inr memory) each = absurd (no_memory (reply.Settled calls) memory.0)
  line_within (inl h) each = on h.settles each
    where
      on : (s : SettlesOn settles (settler n) (span_of before after h.begun new) answered) → EachSettlingOn StepIsCalm settles (settler n) (span_of before after h.begun new) answered s → SettledWithin t after calls
      on (inr memory) steps = absurd (no_memory (reply.Settled calls) memory.0)
      on (inl s) steps =
          let end = (world_settles StepIsCalm (LeftAndCost t) (SettledWell t) GoesCalmly (cost_hands t trees pages clients) n (calm_gives n) before old h.begun t told stands h.begins
          (both_begin stands.book stands.order t (session_at old.sessions) stands.rests stands.stand) after new calls s steps) in
          record {
            state = end.1.1.now.state;
            told = end.1.1.told;
            nothing = leaves_nothing end.1.1.now end.1.1.settling end.0 end.1.1.holds.0;
            no_log = λ client is. let most = is.most in end.1.1.holds.1.0 client is (omega (arith, most));
            within = subst (SettlesWithin t end.1.1.now.state) end.1.0 end.1.1.holds.1.1;
          }

-- ---- the clauses

module _ (trees : TreesRun) (pages : PagesRun) (clients : RecoveriesRun) where
  asked_leaves : (n : ℕ) (before after : Seen) (old new : World) (t : CloudState) (calls : ℕ) → before.state ≡ Some t → SomeBookStands (session_at old.sessions) t
      → (asked : Asked) → asked ≡ Settle → (answers : Answers n asked (span_of before after old new) (Ok (reply.Settled calls)))
      → EachAsked StepDelivers n asked (span_of before after old new) (Ok (reply.Settled calls)) answers → LeftNothing after
  asked_leaves n before after old new t calls told stands Settle is answers each = line_leaves trees pages clients n before after old new t calls told stands answers each
  asked_leaves n before after old new t calls told stands (Session j request) is answers each = absurd (cc (is))
  asked_leaves n before after old new t calls told stands (Wait ticks) is answers each = absurd (cc (is))
  asked_leaves n before after old new t calls told stands (Report tree) is answers each = absurd (cc (is))
  asked_leaves n before after old new t calls told stands (Sweep tree) is answers each = absurd (cc (is))

  asked_within : (n : ℕ) (before after : Seen) (old new : World) (t : CloudState) (calls : ℕ) → before.state ≡ Some t → SomeBookStands (session_at old.sessions) t
      → (asked : Asked) → asked ≡ Settle → (answers : Answers n asked (span_of before after old new) (Ok (reply.Settled calls)))
      → EachAsked StepIsCalm n asked (span_of before after old new) (Ok (reply.Settled calls)) answers → SettledWithin t after calls
  asked_within n before after old new t calls told stands Settle is answers each = line_within trees pages clients n before after old new t calls told stands answers each
  asked_within n before after old new t calls told stands (Session j request) is answers each = absurd (cc (is))
  asked_within n before after old new t calls told stands (Wait ticks) is answers each = absurd (cc (is))
  asked_within n before after old new t calls told stands (Report tree) is answers each = absurd (cc (is))
  asked_within n before after old new t calls told stands (Sweep tree) is answers each = absurd (cc (is))

  leaves_for : (n : ℕ) (e : Event) (before after : Seen) (old new : World) (result : Result Reply WorldFault) → SettlingLeaves n e (span_of before after old new) result
  leaves_for n event.Settle before after old new (Ok (reply.Settled calls)) = λ t told stands handled each.
      asked_leaves n before after old new t calls told stands handled.asked handled.asks handled.answers each
  leaves_for n e before after old new result = tt

asked_calm : (n : ℕ) (before after : Seen) (old new : World) (t : CloudState) (r : Reply) → before.state ≡ Some t → SomeBookStands (session_at old.sessions) t → NoLockHeld t
    → (asked : Asked) → asked ≡ Settle → (answers : Answers n asked (span_of before after old new) (Ok r)) → EachAsked StepGoesWell n asked (span_of before after old new) (Ok r) answers
    → EachAsked StepIsCalm n asked (span_of before after old new) (Ok r) answers
asked_calm n before after old new t r told stands free Settle is answers each = settling_calm n before after old new r t told stands free answers each
asked_calm n before after old new t r told stands free (Session j request) is answers each = absurd (cc (is))
asked_calm n before after old new t r told stands free (Wait ticks) is answers each = absurd (cc (is))
asked_calm n before after old new t r told stands free (Report tree) is answers each = absurd (cc (is))
asked_calm n before after old new t r told stands free (Sweep tree) is answers each = absurd (cc (is))

-- what is asked of a settling is right
record AsksRightly (n : ℕ) (asked : Asked) (span : Span) (r : Reply) (answers : Answers n asked span (Ok r)) : Type 0 where
  sound : (posture : Posture) → IsSoundReply posture r
  explains : EachAsked StepExplains n asked span (Ok r) answers
  calm : EachAsked StepIsCalm n asked span (Ok r) answers → (u : CloudState) → span.after.state ≡ Some u → IsUntroubled u (work_at span.new 0) × SettlesWell u r

asked_right : (n : ℕ) (before after : Seen) (old new : World) (t : CloudState) (r : Reply) → before.state ≡ Some t → SomeBookStands (session_at old.sessions) t
    → (asked : Asked) → asked ≡ Settle → (answers : Answers n asked (span_of before after old new) (Ok r)) → AsksRightly n asked (span_of before after old new) r answers
asked_right n before after old new t r told stands Settle is answers =
    let sound = settling_sound n before after old new r t told stands answers in
    let explains = settling_explains n before after old new r t told stands answers in
    record { sound = sound; explains = explains; calm = λ each u told_after. let is = errand_well [] n before after old new r t u told told_after settles answers each explains (sound (standing [] 0).posture) in (is.0 u told_after, is.1) }
asked_right n before after old new t r told stands (Session j request) is answers = absurd (cc (is))
asked_right n before after old new t r told stands (Wait ticks) is answers = absurd (cc (is))
asked_right n before after old new t r told stands (Report tree) is answers = absurd (cc (is))
asked_right n before after old new t r told stands (Sweep tree) is answers = absurd (cc (is))

pub settling_right : (n : ℕ) (e : Event) (before after : Seen) (old new : World) (result : Result Reply WorldFault) → SettlingIsRight n e (span_of before after old new) result
settling_right n event.Settle before after old new (Ok r) = λ t told stands handled.
    let right = asked_right n before after old new t r told stands handled.asked handled.asks handled.answers in
    record { sound = right.sound; explains = right.explains; calm = right.calm }
settling_right n e before after old new result = tt

module _ (trees : TreesRun) (pages : PagesRun) (clients : RecoveriesRun) where
  settles_for : (n : ℕ) (e : Event) (before after : Seen) (old new : World) (result : Result Reply WorldFault) → SettlingEnds n e (span_of before after old new) result
  settles_for n event.Settle before after old new (Ok r) = λ t told stands free handled each.
      let calm = asked_calm n before after old new t r told stands free handled.asked handled.asks handled.answers each in
      let right = asked_right n before after old new t r told stands handled.asked handled.asks handled.answers in
      let kept = keeps_book n event.Settle before after old new (Ok r) handled t told stands in
      on r t told stands handled calm kept.0 kept.1 (right.calm calm kept.0 kept.1).1
    where
      on : (q : Reply) (t : CloudState) → before.state ≡ Some t → SomeBookStands (session_at old.sessions) t → (handled : Handled n event.Settle (span_of before after old new) (Ok q))
          → EachStep StepIsCalm n event.Settle (span_of before after old new) (Ok q) handled → (u : CloudState) → after.state ≡ Some u → SettlesWell u q → AnswersSettled t after q
      on (reply.Settled calls) t told stands handled calm u told_after well = asked_within trees pages clients n before after old new t calls told stands handled.asked handled.asks handled.answers calm
      on (reply.NotSettled k) t told stands handled calm u told_after well = (u, told_after, well)
      on q t told stands handled calm u told_after well = absurd well
  settles_for n e before after old new result = tt

pub settling_leaves : (n : ℕ) (e : Event) (before after : Seen) (old new : World) (result : Result Reply WorldFault) → SettlingLeaves n e (span_of before after old new) result
settling_leaves n e before after old new result = leaves_for trees_run pages_run recoveries_run n e before after old new result

pub settling_ends : (n : ℕ) (e : Event) (before after : Seen) (old new : World) (result : Result Reply WorldFault) → SettlingEnds n e (span_of before after old new) result
settling_ends n e before after old new result = settles_for trees_run pages_run recoveries_run n e before after old new result
