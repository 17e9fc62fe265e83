-- A line whose calls are all calm is answered well.
use Rattle.std.proofs.Common.{◌≡◌, ◌+◌, arith, inl, inr, ℕ, List, [], length, Bool, true, false, Option, Some, None, Result, Ok, Err, refl, sym, ap, subst, ◌∙◌}
use Rattle.client_work.specs.Session.{Acting, StepsSession, Begins, closed_session, paging_begun_by, value_of}
use Rattle.client_work.specs.declared.answer.Answer.{Answer}
use Rattle.client_work.specs.declared.answer.Answer.TheVariants as answer
use Rattle.client_work.specs.declared.answer.Begun.{Begun}
use Rattle.client_work.specs.declared.answer.Begun.TheVariants.{Working as BegunWorking, Answered}
use Rattle.client_work.specs.declared.op.Op.{Op}
use Rattle.client_work.specs.declared.op.Op.TheVariants as op
use Rattle.client_work.specs.declared.work.Work.{Work}
use Rattle.client_work.specs.declared.work.Work.TheVariants as work
use Rattle.cloud_facts.proofs.Book.Names.{at_same}
use Rattle.cloud_trait.proofs.EffectLemmas.{begins_itself, begins_same}
use Rattle.cloud_facts.specs.Words.{Trouble, CommitAnswer, Turn, More, Ended, Stopped, CloudState, Caller, Seen}
use Rattle.db_base.specs.declared.refusal.Refusal.{Refusal}
use Rattle.db_base.specs.declared.refusal.Refusal.TheVariants.{BadNumber}
use Rattle.db_base.specs.declared.refusal.Refused.{Refused}
use Rattle.db_base.specs.declared.refusal.Refused.TheVariants as refused
use Rattle.db_base.specs.declared.trouble.Trouble.TheVariants as trouble
use Rattle.db_base.specs.declared.wish.Wish.{Wish}
use Rattle.db_base.specs.declared.wish.Wish.TheVariants.{Plain}
use Rattle.db_base.specs.Value.{Value}
use Rattle.event_text.specs.declared.event.Event.{Event}
use Rattle.event_text.specs.declared.event.Event.TheVariants as event
use Rattle.replay_meaning.specs.Standing.{Line, Task, Opening, Closing, Renewing, Committing, Reading, Scanning, LookingUp, Paging, Folding, Posture, Working, session_of, standing}
use Rattle.session_facts.specs.Sessions.Calls.{session_step}
use Rattle.session_facts.specs.Lines.Answers.{IsSoundReply}
use Rattle.session_facts.proofs.Rows.CallKinds.{errand_goes}
use Rattle.session_facts.specs.Lines.Errands.{Errand, settles, sweeps, event_for, session_for, WorksOn}
use Rattle.session_facts.specs.Lines.Facts.{session_at}
use Rattle.session_facts.specs.Machines.Sweeps.Knows.{MayStopSweep}
use Rattle.reply_text.specs.Reply.{HasText}
use Rattle.reply_text.specs.declared.reply.Reply.{Reply}
use Rattle.reply_text.specs.declared.reply.Reply.TheVariants as reply
use Rattle.session_facts.specs.Sessions.Explains.{spent_for}
use Rattle.session_facts.specs.Sessions.Knows.{Sessions, IsRightOp}
use Rattle.session_facts.specs.Sessions.Untroubled.{StepsCalmly, IsOfNoCall, IsUntroubled}
use Rattle.session_facts.proofs.Machines.CommitRuns.Troubles.{IsTold}
use Rattle.session_facts.proofs.Sessions.AtOnce.{IsAtOnce, begins_at_once, begins_untroubled}
use Rattle.session_facts.proofs.Sessions.Untroubled.{IsAtRest, rested, untroubled_later, step_untroubled, answer_untroubled, answered_rests, closed_rests, at_rest, rests_as, commit_tells}
use Rattle.ckpt_policy.specs.declared.role.Role.{Role}
use Rattle.world_core.proofs.SpentTroubles.{settled_spent}
use Rattle.world_core.proofs.UnsentSteps.{IsPagingOf, UnsentAt, answer_unsent, answers_page, paging_went, rests_unsent, step_unsent, went_unsent}
use Rattle.world_core.proofs.Workers.{HoldsWithin, open_rests, within_works}
use Rattle.world_core.specs.declared.asked.Asked.{Asked}
use Rattle.world_core.specs.declared.asked.Asked.TheVariants.{Session, Wait, Report, Settle, Sweep}
use Rattle.world_core.specs.declared.asked.Noting.{Noting}
use Rattle.world_core.specs.declared.asked.Request.{Request}
use Rattle.world_core.specs.declared.asked.Request.TheVariants.{Begin, Note, Abort, Policy, Work as WorksDue, Step, Run, Crash}
use Rattle.world_core.specs.World.{World}
use Rattle.world_core.specs.declared.world.WorldFault.{WorldFault}
use Rattle.world_core.specs.Asked.{Asks, OfSession, IsOpening, IsReading, IsScanning, IsLookingUp, IsPaging, IsFolding, IsNoted, IsStep, bound_of, noting_of}
use Rattle.world_core.specs.Calm.{StepIsCalm, spent_by, hand_at, work_at, DoesWell, BeginsWell, RunsWell, StepsWell, RepliesWell, SweepsWell, AnswersWell, WorksWell}
use Rattle.world_core.specs.EachStep.{EachWent, EachMade, EachRun, EachSettlingOn, EachSettling, EachDone, EachAsked}
use Rattle.world_core.specs.Explained.{StepExplains}
use Rattle.world_core.specs.Handled.{Declines, Has, BeginsOp, NotesChange, DropsChanges, StepsLooked, MakesStep, Went, start, further, Runs, SettlesOn, Settles, Crashes, Does, Answers, Policies, WorksThrough}
use Rattle.world_core.specs.Replying.{declined, RepliesTo, RepliesBegun, RepliesFor, RepliesTurn, value_reply}
use Rattle.world_core.specs.Sessions.{Changes, NotesIn, AbortsIn}
use Rattle.world_core.specs.Sound.{IsSoundSweep, IsSoundFor}
use Rattle.world_core.specs.UnsentPages.{GoesOnUnsent, IsOfUnsent, KeepsUnsent, LeavesUnsent, RepliesUnsent}
use Rattle.world_core.specs.Span.{span_of}
use Rattle.world_core.proofs.Behind.{LinesStand}
use Rattle.world_core.proofs.Explained.{explained}
use Rattle.world_core.proofs.Sound.{sound_after}
use Rattle.world_core.proofs.Errands.{works_first}
use Rattle.world_core.proofs.Texts.{commit_is, told_is}
use Rattle.world_core.proofs.StandsLemmas.{IsUnderWay, changed_at, changed_was, has_at, way_begins, steps_own, went_on, no_stop, no_memory, replies_to, end_later, settler}
use Rattle.world_core.proofs.CalmAnswers.{answers_as, IsOfNone, counts_on, answer_well, paging_of, goes_unsent}

-- ---- steps

-- the session of a world in which it changed
session_is : (who : Caller) (wish : Wish) (before after : Seen) (old new : World) (turn : Turn Answer) → (p : StepsLooked who wish (span_of before after old new) turn)
    → session_at new.sessions who.session ≡ p.session.after
session_is who wish before after old new turn p =
    changed_at who.session _ old.sessions new.sessions p.session who.session ∙ at_same who.session p.session.after (session_at old.sessions) who.session refl

-- what a session of a world has in hand goes well so far, where a cloud tells its state
abbrev pub SessionIsUntroubled : ℕ → Seen → World → Type 0
SessionIsUntroubled session seen world = (t : CloudState) → seen.state ≡ Some t → IsUntroubled t (work_at world session)

-- or it tells one, and the session goes well
abbrev pub GoesWellAt : ℕ → Seen → World → Type 0
GoesWellAt session seen world = (t : CloudState) × (seen.state ≡ Some t) × IsUntroubled t (work_at world session)

state_is : (x y : CloudState) → Some x ≡ Some y → x ≡ y
state_is x y e = cc

pub goes_in : (session : ℕ) (seen : Seen) (world : World) → GoesWellAt session seen world → SessionIsUntroubled session seen world
goes_in session seen world (t, told, well) u told_u = subst (λ (x : CloudState). IsUntroubled x (work_at world session)) (state_is t u (sym told ∙ told_u)) well

module _ (who : Caller) (wish : Wish) (before after : Seen) (old new : World) (turn : Turn Answer) (p : StepsLooked who wish (span_of before after old new) turn) where
  abbrev Goes : Seen → World → Type 0
  Goes seen world = GoesWellAt who.session seen world

  -- what was told before its call, and is behind it
  told_under : (t : CloudState) → before.state ≡ Some t → p.under.state ≡ Some (record t { wish = wish })
  told_under t told = p.wishes.set t (p.look_before.stays t told)

  untroubled_before : (calm : StepIsCalm who wish (span_of before after old new) turn p) → Goes before old → IsUntroubled calm.calm.before p.session.before.work
  untroubled_before calm (t, told, well) =
      subst (λ (x : CloudState). IsUntroubled x p.session.before.work) (state_is (record t { wish = wish }) calm.calm.before (sym (told_under t told) ∙ calm.calm.told))
      (untroubled_later t (record t { wish = wish }) p.session.before.work (record { versions = λ name. begins_itself (t.versions name); messages = λ queue. omega arith; rows = omega arith })
      (omega arith)
      (subst (λ (a : Acting). IsUntroubled t a.work) (changed_was who.session _ old.sessions new.sessions p.session) well))

  untroubled_after : (calm : StepIsCalm who wish (span_of before after old new) turn p) → IsUntroubled calm.calm.after p.session.after.work → Goes after new
  untroubled_after calm well = (
    calm.calm.after,
    p.look_after.stays calm.calm.after calm.calm.left,
    subst (λ (a : Acting). IsUntroubled calm.calm.after a.work) (sym (session_is who wish before after old new turn p)) well,
  )

goes_calmly : (who : Caller) (wish : Wish) (before after : Seen) (old new : World) (p : StepsLooked who wish (span_of before after old new) More) → StepIsCalm who wish (span_of before after old new) More p
    → StepExplains who wish (span_of before after old new) More p → GoesWellAt who.session before old → GoesWellAt who.session after new
goes_calmly who wish before after old new p calm explains well =
    untroubled_after who wish before after old new More p calm
    (step_untroubled who p.under p.to p.session.before p.session.after p.session.does calm explains (untroubled_before who wish before after old new More p calm well))

pub went_calmly : (who : Caller) (before : Seen) (old : World) (after : Seen) (new : World) (went : Went who before old after new) → EachWent StepIsCalm went
    → EachWent StepExplains went → GoesWellAt who.session before old → GoesWellAt who.session after new
went_calmly who before old after new start calm explains well = well
went_calmly who before old after new (further mid _ world _ went step) calm explains well =
    goes_calmly who Plain mid after world new step calm.1 explains.1 (went_calmly who before old mid world went calm.0 explains.0 well)

tells_any : (who : Caller) (before after : Seen) (old new : Acting) (a : Answer) (p : StepsSession who before after old new (Ok (Ended a))) → StepsCalmly (session_step who before after old new (Ended a)) p
    → (c : CommitAnswer) → a ≡ answer.Commit c → IsTold c
tells_any who before after old new (answer.Commit b) p calm c e = let same : b ≡ c = cc in subst IsTold same (commit_tells who before after old new b p calm.memory)
tells_any who before after old new a p calm c e = absurd (cc (e))

-- the answer of a calm step
pub answers_calmly : (who : Caller) (wish : Wish) (before after : Seen) (old new : World) (a : Answer) (p : StepsLooked who wish (span_of before after old new) (Ended a))
    → (calm : StepIsCalm who wish (span_of before after old new) (Ended a) p) → StepExplains who wish (span_of before after old new) (Ended a) p → GoesWellAt who.session before old
    → IsOfNone (spent_for p.session.before.work) calm.calm.after p.session.after.work a
answers_calmly who wish before after old new a p calm explains well =
    let is = answer_untroubled who p.under p.to p.session.before p.session.after a p.session.does calm explains (untroubled_before who wish before after old new (Ended a) p calm well) in
    record { trouble = is.0; left = is.1; told = tells_any who p.under p.to p.session.before p.session.after a p.session.does calm }

answers_rest : (who : Caller) (wish : Wish) (before after : Seen) (old new : World) (a : Answer) (p : StepsLooked who wish (span_of before after old new) (Ended a)) → IsAtRest (work_at new who.session)
answers_rest who wish before after old new a p =
    subst (λ (b : Acting). IsAtRest b.work) (sym (session_is who wish before after old new (Ended a) p))
    (answered_rests who p.under p.to p.session.before.work p.session.after.work a p.session.does.work)

-- what is at rest is untroubled, whatever a cloud tells
rests_in : (session : ℕ) (seen : Seen) (world : World) → IsAtRest (work_at world session) → SessionIsUntroubled session seen world
rests_in session seen world rest t told = rested t (work_at world session) rest

-- ---- replies

refused_runs : (u : CloudState) (posture : Posture) (r : Reply) (rule : Refusal) → r ≡ reply.Refused rule → RunsWell u posture r
refused_runs u posture r rule e = subst (RunsWell u posture) (sym e) tt

runs_of : (u : CloudState) (posture : Posture) (task : Task) (r : Reply) → posture ≡ Working task → DoesWell u task r → RunsWell u posture r
runs_of u posture task r is does = subst (λ (q : Posture). RunsWell u q r) (sym is) (on r does)
  where
    on : (q : Reply) → DoesWell u task q → RunsWell u (Working task) q
    on (reply.Refused rule) does = tt
    on q does = does

steps_of : (u : CloudState) (posture : Posture) (r : Reply) → RunsWell u posture r → StepsWell u posture r
steps_of u posture reply.Called runs = tt
steps_of u posture r runs = runs

-- ---- what a line asks of a session

unchanged : (k : ℕ) (before after : Seen) (old new : World) → after ≡ before → new ≡ old → SessionIsUntroubled k before old → SessionIsUntroubled k after new
unchanged k before after old new seen same well =
    subst (λ (w : World). SessionIsUntroubled k after w) (sym same) (subst (λ (z : Seen). SessionIsUntroubled k z old) (sym seen) well)

-- where one session changes
changes_to : (k : ℕ) (Does : Acting → Acting → Type 0) (old new : World) (c : Changes k Does old.sessions new.sessions) → session_at new.sessions k ≡ c.after
changes_to k Does old new c = changed_at k Does old.sessions new.sessions c k ∙ at_same k c.after (session_at old.sessions) k refl

rests_after : (k : ℕ) (before after : Seen) (Does : Acting → Acting → Type 0) (old new : World) (c : Changes k Does old.sessions new.sessions) → after ≡ before
    → ((t : CloudState) → IsUntroubled t c.before.work → IsUntroubled t c.after.work) → SessionIsUntroubled k before old → SessionIsUntroubled k after new
rests_after k before after Does old new c seen leaves well t told =
    subst (λ (a : Acting). IsUntroubled t a.work) (sym (changes_to k Does old new c))
    (leaves t (subst (λ (a : Acting). IsUntroubled t a.work) (changed_was k Does old.sessions new.sessions c) (well t (ap (λ (z : Seen). z.state) (sym seen) ∙ told))))

has_closed : (k : ℕ) (old new : World) → Has k closed_session old new → IsAtRest (work_at new k)
has_closed k old new has =
    subst (λ (a : Acting). IsAtRest a.work) (sym (has_at k closed_session old new has k ∙ at_same k closed_session (session_at old.sessions) k refl)) closed_rests

module _ (lines : List Line) (n k : ℕ) (before after : Seen) (old new : World) (r : Reply) (t : CloudState) (number : length lines + 1 ≡ n) (told : before.state ≡ Some t)
    (stands : LinesStand lines old t) (well : SessionIsUntroubled k before old) (u : CloudState) (told_after : after.state ≡ Some u) where
  abbrev Behind : Type 0
  Behind = SessionIsUntroubled k after new

  here : GoesWellAt k before old
  here = (t, told, well t told)

  abbrev who : Caller
  who = record { session = k; event = n }

  abbrev posture : Posture
  posture = (standing lines k).posture

  way : IsUnderWay lines old before
  way = way_begins lines before old t told stands

  -- a step that is answered, behind some that went on
  ended_well : (wish : Wish) (mid : Seen) (world : World) (a : Answer) → IsUnderWay lines world mid → (p : StepsLooked who wish (span_of mid after world new) (Ended a))
      → (calm : StepIsCalm who wish (span_of mid after world new) (Ended a) p) → StepExplains who wish (span_of mid after world new) (Ended a) p → GoesWellAt k mid world
      → IsSoundReply posture r → RepliesTo a p.session.after (Ok r) → RunsWell u posture r
  ended_well wish mid world a on p calm explains still sound replies =
      let own = steps_own lines who wish mid after world new (Ended a) (sym number) on p in
      let said = answers_as who p.under p.to (session_at world.sessions k).work p.session.after.work (standing lines k) a own.work (on.goes.acts k).work in
      let was : p.session.before.work ≡ (session_at world.sessions k).work = ap (λ (b : Acting). b.work) (sym (changed_was k _ world.sessions new.sessions p.session)) in
      runs_of u posture said.task r said.posture
      (answer_well u said.task a p.session.after r said.of (subst (λ (q : Posture). IsSoundReply q r) said.posture sound) replies
      (counts_on (spent_for (session_at world.sessions k).work) (spent_by said.task) u p.session.after.work a (said.counts u)
      (subst (λ (w : Work). IsOfNone (spent_for w) u p.session.after.work a) was
      (subst (λ (x : CloudState). IsOfNone (spent_for p.session.before.work) x p.session.after.work a)
      (state_is calm.calm.after u (sym (p.look_after.stays calm.calm.after calm.calm.left) ∙ told_after)) (answers_calmly who wish mid after world new a p calm explains still)))))

  not_done : (why : Refused) → Declines why (span_of before after old new) (Ok r) → Behind × ((rule : Refusal) × (r ≡ reply.Refused rule))
  not_done (refused.Rule rule) h = let is : r ≡ reply.Refused rule = cc (h.reply) in (unchanged k before after old new h.seen h.world well, (rule, is))
  not_done refused.Memory h = absurd (cc (h.reply))

  makes_well : (wish : Wish) (h : MakesStep (record { session = k; event = n }) wish (span_of before after old new) (Ok r)) → EachMade StepIsCalm (record { session = k; event = n }) wish (span_of before after old new) (Ok r) h
      → EachMade StepExplains (record { session = k; event = n }) wish (span_of before after old new) (Ok r) h → IsSoundReply posture r → Behind × StepsWell u posture r
  makes_well wish (inl refuses) calm explains sound =
      let is = not_done _ refuses.declines in
      (is.0, steps_of u posture r (refused_runs u posture r is.1.0 is.1.1))
  makes_well wish (inr (inl step)) calm explains sound = on step.turn step.steps step.replies calm explains
    where
      on : (turn : Turn Answer) (p : StepsLooked who wish (span_of before after old new) turn) → RepliesTurn turn p.session.after (Ok r) → StepIsCalm who wish (span_of before after old new) turn p
          → StepExplains who wish (span_of before after old new) turn p → Behind × StepsWell u posture r
      on More p e calm explains = (goes_in k after new (goes_calmly who wish before after old new p calm explains here), let is : r ≡ reply.Called = cc in subst (StepsWell u posture) (sym is) tt)
      on (Ended a) p e calm explains =
          (rests_in k after new (answers_rest who wish before after old new a p), steps_of u posture r (ended_well wish before old a way p calm explains here sound e))
      on (Stopped q) p e calm explains = absurd (no_stop _ p.under p.to p.session.before p.session.after q p.session.does)
  makes_well wish (inr (inr memory)) calm explains sound = absurd (no_memory r memory.0)

  runs_well : (h : Runs (record { session = k; event = n }) (span_of before after old new) (Ok r)) → EachRun StepIsCalm (record { session = k; event = n }) (span_of before after old new) (Ok r) h → EachRun StepExplains (record { session = k; event = n }) (span_of before after old new) (Ok r) h
      → IsSoundReply posture r → Behind × RunsWell u posture r
  runs_well (inl refuses) calm explains sound = let is = not_done _ refuses.declines in (is.0, refused_runs u posture r is.1.0 is.1.1)
  runs_well (inr (inl run)) calm explains sound =
      let c = run.comes in (
        rests_in k after new (answers_rest who Plain c.mid after c.world new run.answer c.steps),
        ended_well Plain c.mid c.world run.answer (went_on lines who before old c.mid c.world (sym number) way c.went) c.steps calm.1 explains.1
            (went_calmly who before old c.mid c.world c.went calm.0 explains.0 here) sound run.replies,
      )
  runs_well (inr (inr memory)) calm explains sound = absurd (no_memory r memory.0)

  dies_well : (Changes k (λ a b. b ≡ closed_session) old.sessions new.sessions) → Behind
  dies_well c = rests_in k after new (subst (λ (a : Acting). IsAtRest a.work) (sym (changes_to k _ old new c ∙ c.does)) closed_rests)

  crash_well : (done : Bool) → Crashes (record { session = k; event = n }) done (span_of before after old new) (Ok r) → Behind
  crash_well false h = dies_well h.closed
  crash_well true (inl idle) = dies_well idle.dies.closed
  crash_well true (inr (inl h)) = rests_in k after new (has_closed k h.world new h.closes)
  crash_well true (inr (inr memory)) = absurd (no_memory r memory.0)

  policy_well : (role : Role) (number : ℕ) → Policies k role number (span_of before after old new) (Ok r) → Behind
  policy_well role number (inl refuses) = (not_done _ refuses.declines).0
  policy_well role number (inr (inl refuses)) = (not_done _ refuses.1.declines).0
  policy_well role number (inr (inr gives)) = λ x told_x.
      subst (λ (l : List Acting). IsUntroubled x (session_at l k).work) (sym gives.sessions) (well x (sym (ap (λ (z : Seen). z.state) gives.quiet.seen) ∙ told_x))

  -- a session that worked is at rest
  through_well : WorksThrough (record { session = k; event = n }) (span_of before after old new) (Ok r) → Behind × WorksWell r
  through_well (inl refuses) = let is = not_done _ refuses.declines in (is.0, subst WorksWell (sym is.1.1) tt)
  through_well (inr (inl down)) =
      let rest = open_rests k old down.opened in
      let last = within_works who rest.0 (session_at old.sessions) before old down.queues down.done down.passed after new rest.2 down.works in
      let is : r ≡ reply.Worked down.done down.passed = cc (down.replies) in
      (rests_in k after new (subst IsAtRest (sym last.works) (at_rest (work.Idle rest.0) refl refl)), subst WorksWell (sym is) tt)
  through_well (inr (inr memory)) = absurd (no_memory r memory.0)

  notes_well : (noting : Noting) → after ≡ before → Changes k (NotesChange noting (Ok r)) old.sessions new.sessions → Behind
  notes_well noting seen c = rests_after k before after _ old new c seen (λ x was. on x was c.does.noted c.does.notes) well
    where
      on : (x : CloudState) → IsUntroubled x c.before.work → (done : Result (Unit {0}) Refused) → NotesIn noting c.before c.after done → IsUntroubled x c.after.work
      on x was (Ok done) notes = subst (λ (a : Acting). IsUntroubled x a.work) (sym notes.0) was
      on x was (Err why) notes = subst (λ (a : Acting). IsUntroubled x a.work) (sym notes.0) was

  aborts_well : after ≡ before → Changes k (DropsChanges (Ok r)) old.sessions new.sessions → Behind
  aborts_well seen c = rests_after k before after _ old new c seen (λ x was. on x was c.does.dropped c.does.drops) well
    where
      on : (x : CloudState) → IsUntroubled x c.before.work → (done : Result (Unit {0}) Refused) → AbortsIn c.before c.after done → IsUntroubled x c.after.work
      on x was (Ok done) drops = subst (λ (a : Acting). IsUntroubled x a.work) (sym drops.0) was
      on x was (Err why) drops = subst (λ (a : Acting). IsUntroubled x a.work) (sym drops.0) was

  -- ---- begins

  abbrev OpWell : Op → Reply → Type 0
  OpWell (op.Open client) q = BeginsWell u Opening q
  OpWell op.Close q = BeginsWell u Closing q
  OpWell op.Renew q = BeginsWell u Renewing q
  OpWell op.Commit q = BeginsWell u (Committing []) q
  OpWell (op.Read tree key) q = BeginsWell u (Reading tree key) q
  OpWell (op.Scan tree from to) q = (first last : List ℕ) → BeginsWell u (Scanning tree first last) q
  OpWell (op.Lookup tree attr) q = BeginsWell u (LookingUp tree attr) q
  OpWell (op.Page tree page) q = BeginsWell u (Paging tree page) q
  OpWell (op.Tree tree) q = BeginsWell u (Folding tree) q

  op_begun : (o : Op) → OpWell o reply.Begun
  op_begun (op.Open client) = tt
  op_begun op.Close = tt
  op_begun op.Renew = tt
  op_begun op.Commit = tt
  op_begun (op.Read tree key) = tt
  op_begun (op.Scan tree from to) = λ first last. tt
  op_begun (op.Lookup tree attr) = tt
  op_begun (op.Page tree page) = tt
  op_begun (op.Tree tree) = tt

  op_refused : (o : Op) (rule : Refusal) → OpWell o (reply.Refused rule)
  op_refused (op.Open client) rule = tt
  op_refused op.Close rule = tt
  op_refused op.Renew rule = tt
  op_refused op.Commit rule = tt
  op_refused (op.Read tree key) rule = tt
  op_refused (op.Scan tree from to) rule = λ first last. tt
  op_refused (op.Lookup tree attr) rule = tt
  op_refused (op.Page tree page) rule = tt
  op_refused (op.Tree tree) rule = tt

  memory_at_once : (o : Op) (q : Trouble) → IsAtOnce u o (answer.Trouble q) → q ≡ trouble.Memory
  memory_at_once (op.Open client) q e = e
  memory_at_once op.Close q e = e
  memory_at_once op.Renew q e = e
  memory_at_once op.Commit q e = e
  memory_at_once (op.Read tree key) q e = e
  memory_at_once (op.Scan tree from to) q e = e
  memory_at_once (op.Lookup tree attr) q e = e
  memory_at_once (op.Page tree page) q e = e
  memory_at_once (op.Tree tree) q e = e

  value_begins : (tree : ℕ) (key : List ℕ) (value : Option Value) → r ≡ value_reply value → BeginsWell u (Reading tree key) r
  value_begins tree key None e = subst (BeginsWell u (Reading tree key)) (sym e) tt
  value_begins tree key (Some value) e = subst (BeginsWell u (Reading tree key)) (sym e) tt

  op_answered : (o : Op) (a : Answer) (left : Acting) → IsAtOnce u o a → RepliesTo a left (Ok r) → OpWell o r
  op_answered o (answer.Trouble q) left is e = absurd ((replies_to (answer.Trouble q) left r e).0.1 (memory_at_once o q is))
  op_answered op.Commit (answer.Commit c) left is e = subst (BeginsWell u (Committing [])) (sym (commit_is c r e).0) is
  op_answered (op.Read tree key) answer.Value left is e = value_begins tree key (value_of left) e
  op_answered (op.Scan tree from to) answer.Scan left is e = λ first last. subst (BeginsWell u (Scanning tree first last)) (sym e) tt
  op_answered (op.Open client) a left is e = absurd is
  op_answered op.Close a left is e = absurd is
  op_answered op.Renew a left is e = absurd is
  op_answered op.Commit a left is e = absurd is
  op_answered (op.Read tree key) a left is e = absurd is
  op_answered (op.Scan tree from to) a left is e = absurd is
  op_answered (op.Lookup tree attr) a left is e = absurd is
  op_answered (op.Page tree page) a left is e = absurd is
  op_answered (op.Tree tree) a left is e = absurd is

  begins_well : (o : Op) → IsRightOp o → after ≡ before → Changes k (BeginsOp o (Ok r)) old.sessions new.sessions → Behind × OpWell o r
  begins_well o right seen c =
      (rests_after k before after _ old new c seen (λ x. begins_untroubled x o c.before c.after c.does.begun c.does.begins) well, on c.does.begun begins c.does.replies)
    where
      f : Sessions
      f = session_at old.sessions

      begins : Begins o (f k) c.after c.does.begun
      begins = subst (λ a. Begins o a c.after c.does.begun) (sym (changed_was k _ old.sessions new.sessions c)) c.does.begins

      on : (begun : Result Begun Refused) → Begins o (f k) c.after begun → RepliesBegun begun c.after (Ok r) → OpWell o r
      on (Ok BegunWorking) does e = let is : r ≡ reply.Begun = cc (e) in subst (OpWell o) (sym is) (op_begun o)
      on (Ok (Answered a)) does e = op_answered o a c.after (subst (λ (x : CloudState). IsAtOnce x o a) (state_is t u (sym told ∙ (sym (ap (λ (z : Seen). z.state) seen) ∙ told_after))) (begins_at_once stands.holds.book stands.holds.order t f k c.after stands.holds.stand o a right does)) e
      on (Err (refused.Rule rule)) does e = let is : r ≡ reply.Refused rule = cc (e) in subst (OpWell o) (sym is) (op_refused o rule)
      on (Err refused.Memory) does e = absurd (cc (e))

  -- ---- the checkpoint of a page

  abbrev Unsent : ℕ → ℕ → Type 0
  Unsent tree page = RepliesUnsent tree page u (work_at new k) r

  at_page : (tree page : ℕ) → posture ≡ Working (Paging tree page) → IsPagingOf tree page (work_at old k)
  at_page tree page is = paging_of (work_at old k) (standing lines k) tree page (stands.acts k).work is

  kept_here : (tree page : ℕ) → KeepsUnsent tree page t (work_at old k) → UnsentAt tree page k before old
  kept_here tree page kept x told_x = subst (λ (y : CloudState). KeepsUnsent tree page y (work_at old k)) (state_is t x (sym told ∙ told_x)) kept

  within : (world : World) (seen : Seen) → IsUnderWay lines world seen → HoldsWithin (length lines + 1) lines world seen
  within world seen on = record { state = on.after; told = on.told; holds = on.goes.holds }

  refused_unsent : (tree page : ℕ) (rule : Refusal) → r ≡ reply.Refused rule → Unsent tree page
  refused_unsent tree page rule is = subst (RepliesUnsent tree page u (work_at new k)) (sym is) tt

  answered_unsent : (tree page : ℕ) (wish : Wish) (mid : Seen) (world : World) (a : Answer) → HoldsWithin (length lines + 1) lines world mid → IsPagingOf tree page (work_at world k)
      → UnsentAt tree page k mid world → (p : StepsLooked who wish (span_of mid after world new) (Ended a)) → StepIsCalm who wish (span_of mid after world new) (Ended a) p → RepliesTo a p.session.after (Ok r)
      → Unsent tree page
  answered_unsent tree page wish mid world (answer.Trouble q) h at kept p calm e =
      let is = replies_to (answer.Trouble q) p.session.after r e in
      subst (RepliesUnsent tree page u (work_at new k)) (sym is.0.0)
      (subst (λ (x : CloudState). IsOfUnsent tree page x q) (state_is calm.calm.after u (sym (p.look_after.stays calm.calm.after calm.calm.left) ∙ told_after))
      (answer_unsent (length lines + 1) lines who wish mid after world new h tree page at kept q p calm is.0.1))
  answered_unsent tree page wish mid world (answer.Done x) h at kept p calm e =
      let is : r ≡ reply.Done x = cc (e) in
      subst (RepliesUnsent tree page u (work_at new k)) (sym is) tt
  answered_unsent tree page wish mid world a h at kept p calm e = absurd (answers_page (length lines + 1) lines who wish mid after world new h tree page at kept a p)

  step_leaves : (wish : Wish) (h : MakesStep (record { session = k; event = n }) wish (span_of before after old new) (Ok r)) → EachMade StepIsCalm (record { session = k; event = n }) wish (span_of before after old new) (Ok r) h → (tree page : ℕ)
      → posture ≡ Working (Paging tree page) → KeepsUnsent tree page t (work_at old k) → Unsent tree page
  step_leaves wish (inl refuses) calm tree page is kept = let no = not_done _ refuses.declines in refused_unsent tree page no.1.0 no.1.1
  step_leaves wish (inr (inl step)) calm tree page is kept = on step.turn step.steps step.replies calm
    where
      on : (turn : Turn Answer) (p : StepsLooked who wish (span_of before after old new) turn) → RepliesTurn turn p.session.after (Ok r) → StepIsCalm who wish (span_of before after old new) turn p → Unsent tree page
      on More p e calm =
          let same : r ≡ reply.Called = cc in
          subst (RepliesUnsent tree page u (work_at new k)) (sym same)
          (step_unsent (length lines + 1) lines who wish before after old new (within old before way) tree page (at_page tree page is) (kept_here tree page kept) p calm u told_after)
      on (Ended a) p e calm = answered_unsent tree page wish before old a (within old before way) (at_page tree page is) (kept_here tree page kept) p calm e
      on (Stopped q) p e calm = absurd (no_stop _ p.under p.to p.session.before p.session.after q p.session.does)
  step_leaves wish (inr (inr memory)) calm tree page is kept = absurd (no_memory r memory.0)

  run_leaves : (h : Runs (record { session = k; event = n }) (span_of before after old new) (Ok r)) → EachRun StepIsCalm (record { session = k; event = n }) (span_of before after old new) (Ok r) h → (tree page : ℕ) → posture ≡ Working (Paging tree page)
      → KeepsUnsent tree page t (work_at old k) → Unsent tree page
  run_leaves (inl refuses) calm tree page is kept = let no = not_done _ refuses.declines in refused_unsent tree page no.1.0 no.1.1
  run_leaves (inr (inl run)) calm tree page is kept =
      let c = run.comes in
      answered_unsent tree page Plain c.mid c.world run.answer (here_on c.mid c.world c.went) (paging_went who tree page before old c.mid c.world c.went (at_page tree page is))
      (went_unsent (length lines + 1) lines who tree page before old here_on (at_page tree page is) (kept_here tree page kept) c.mid c.world c.went calm.0) c.steps calm.1 run.replies
    where
      here_on : (mid : Seen) (world : World) → Went who before old mid world → HoldsWithin (length lines + 1) lines world mid
      here_on mid world went = within world mid (went_on lines who before old mid world (sym number) way went)
  run_leaves (inr (inr memory)) calm tree page is kept = absurd (no_memory r memory.0)

  page_begins : (tree page : ℕ) → Changes k (BeginsOp (op.Page tree page) (Ok r)) old.sessions new.sessions → Unsent tree page
  page_begins tree page c = on c.does.begun c.does.begins c.does.replies
    where
      on : (begun : Result Begun Refused) → Begins (op.Page tree page) c.before c.after begun → RepliesBegun begun c.after (Ok r) → Unsent tree page
      on (Ok BegunWorking) does e =
          let is : r ≡ reply.Begun = cc (e) in
          let rest : IsAtRest c.after.work = rests_as c.after.work _ (ap (λ (a : Acting). a.work) does.2.1) (at_rest (paging_begun_by tree page does.0) refl refl) in
          subst (RepliesUnsent tree page u (work_at new k)) (sym is)
          (rests_unsent tree page k after new (subst (λ (a : Acting). IsAtRest a.work) (sym (changes_to k _ old new c)) rest) u told_after)
      on (Ok (Answered a)) does e = let no = does.2.0 in absurd (cc (no))
      on (Err (refused.Rule rule)) does e = refused_unsent tree page rule (cc (e))
      on (Err refused.Memory) does e = absurd (cc (e))

  -- ---- what is asked

  -- what a request does, each step of it calm and explained
  abbrev DoesCalmly : ℕ → Request → Type 0
  DoesCalmly j request =
      (h : Does (record { session = j; event = n }) request (span_of before after old new) (Ok r)) × EachDone StepIsCalm (record { session = j; event = n }) request (span_of before after old new) (Ok r) h × EachDone StepExplains (record { session = j; event = n }) request (span_of before after old new) (Ok r) h

  request_well : (Well : Reply → Type 0) → ((rule : Refusal) → Well (reply.Refused rule)) → (Is : Result Request Refused → Type 0) (asked : Asked) → OfSession k Is asked
      → (h : Answers n asked (span_of before after old new) (Ok r)) → EachAsked StepIsCalm n asked (span_of before after old new) (Ok r) h → EachAsked StepExplains n asked (span_of before after old new) (Ok r) h
      → ((request : Request) → Is (Ok request) → DoesCalmly k request → Behind × Well r) → Behind × Well r
  request_well Well rules Is (Session j (Ok request)) belongs (inl p) calm explains served =
      served request belongs.1 (subst (λ i. DoesCalmly i request) belongs.0 (p.1, calm, explains))
  request_well Well rules Is (Session j (Err why)) belongs (inl p) calm explains served = let is = not_done why p.1 in (is.0, subst Well (sym is.1.1) (rules is.1.0))
  request_well Well rules Is (Session j request) belongs (inr none) calm explains served = let is = not_done _ none.declines in (is.0, subst Well (sym is.1.1) (rules is.1.0))
  request_well Well rules Is (Wait ticks) belongs h calm explains served = absurd belongs
  request_well Well rules Is (Report tree) belongs h calm explains served = absurd belongs
  request_well Well rules Is Settle belongs h calm explains served = absurd belongs
  request_well Well rules Is (Sweep tree) belongs h calm explains served = absurd belongs

  -- the one that was asked
  as_asked : (request own : Request) → (let a : Result Request Refused = Ok request in let b : Result Request Refused = Ok own in a ≡ b) → DoesCalmly k request → DoesCalmly k own
  as_asked request own e does = let is : request ≡ own = cc (e) in subst (DoesCalmly k) is does

  -- a change is noted
  noted_well : (noting : Noting) (request : Request) → IsNoted noting (Ok request) → DoesCalmly k request → Behind × Unit {0}
  noted_well noting (Note other) is does = (notes_well other does.0.0.seen does.0.1, tt)
  noted_well noting (Begin o) is does = absurd is
  noted_well noting (Policy role number) is does = absurd is
  noted_well noting WorksDue is does = absurd is
  noted_well noting Abort is does = absurd is
  noted_well noting (Step wish) is does = absurd is
  noted_well noting Run is does = absurd is
  noted_well noting (Crash done) is does = absurd is

-- ---- the settler

module _ (lines : List Line) (n : ℕ) (before after : Seen) (old new : World) (r : Reply) (t u : CloudState) (told : before.state ≡ Some t)
    (told_after : after.state ≡ Some u) where
  abbrev first : Caller
  first = settler n

  -- a sweep counts on no counter, and a call that is calm brings it no trouble
  never_swept : (v : Work) (tree : ℕ) (q : Trouble) → WorksOn (sweeps tree) v → MayStopSweep q → IsOfNoCall (spent_for v) u q → (q ≡ trouble.Memory → ⊥) → ⊥
  never_swept (work.Sweeping m) tree trouble.Failed works may none other = none
  never_swept (work.Sweeping m) tree (trouble.Late end now) works may none other = none
  never_swept (work.Sweeping m) tree (trouble.Busy lock until) works may none other = none
  never_swept (work.Sweeping m) tree trouble.Memory works may none other = other refl
  never_swept (work.Sweeping m) tree q works may none other = may
  never_swept v tree q works may none other = absurd works

  -- how the reply to a line of the settler is then
  abbrev EndsWell : Errand → Reply → Type 0
  EndsWell errand q = RepliesWell u (event_for errand) (standing lines 0).posture q

  replied_well : (errand : Errand) (v w : Work) (a : Answer) → WorksOn errand v → IsSoundFor (event_for errand) (standing lines 0).posture r → IsOfNone (spent_for v) u w a → RepliesFor errand a (Ok r)
      → EndsWell errand r
  replied_well settles v w (answer.Settled x) works sound none e = let is : r ≡ reply.Settled x.calls = cc (e) in subst (EndsWell settles) (sym is) tt
  replied_well settles v w (answer.Trouble q) works sound none e =
      let is = told_is (λ k. reply.NotSettled k) q r e in
      subst (EndsWell settles) (sym is.0) (settled_spent u v q (subst (IsSoundReply (standing lines 0).posture) is.0 sound) (none.trouble q refl) (λ m. subst HasText m is.1))
  replied_well settles v w a works sound none e = absurd e
  replied_well (sweeps tree) v w (answer.Swept x) works sound none e = let is : r ≡ reply.Swept x.kept x.removed = cc (e) in subst (EndsWell (sweeps tree)) (sym is) tt
  replied_well (sweeps tree) v w (answer.Trouble q) works sound none e =
      let is = told_is (λ k. reply.Trouble k) q r e in
      absurd (never_swept v tree q works (subst IsSoundSweep is.0 sound) (none.trouble q refl) (λ m. subst HasText m is.1))
  replied_well (sweeps tree) v w a works sound none e = absurd e

  module _ (errand : Errand) where
    first_rests : (own : Errand) → IsAtRest (session_for own).work
    first_rests settles = at_rest (session_for settles).work refl refl
    first_rests (sweeps tree) = at_rest (session_for (sweeps tree)).work refl refl

    begun_is : (begun : World) → Has 0 (session_for errand) old begun → session_at begun.sessions 0 ≡ session_for errand
    begun_is begun has = has_at 0 (session_for errand) old begun has 0 ∙ at_same 0 (session_for errand) (session_at old.sessions) 0 refl

    begun_untroubled : (begun : World) → Has 0 (session_for errand) old begun → IsAtRest (work_at begun 0)
    begun_untroubled begun has = subst (λ (a : Acting). IsAtRest a.work) (sym (begun_is begun has)) (first_rests errand)

    -- it stays at its errand
    works_on : (from : Seen) (world : World) (to : Seen) (left : World) → WorksOn errand (work_at world 0) → Went first from world to left → WorksOn errand (work_at left 0)
    works_on from world to left works start = works
    works_on from world to left works (further mid _ prior _ went p) =
        let had = subst (λ (a : Acting). WorksOn errand a.work) (changed_was 0 _ prior.sessions left.sessions p.session) (works_on from world mid prior works went) in
        subst (λ (a : Acting). WorksOn errand a.work) (sym (changed_at 0 _ prior.sessions left.sessions p.session 0 ∙ at_same 0 p.session.after (session_at prior.sessions) 0 refl))
        (errand_goes errand first p.under p.to p.session.before.work p.session.after.work p.session.does.work had)

    pub errand_well : (h : Settles errand n (span_of before after old new) (Ok r)) → EachSettling StepIsCalm errand n (span_of before after old new) (Ok r) h
        → EachSettling StepExplains errand n (span_of before after old new) (Ok r) h → IsSoundFor (event_for errand) (standing lines 0).posture r → SessionIsUntroubled 0 after new × EndsWell errand r
    errand_well (inr memory) calm explains sound = absurd (no_memory r memory.0)
    errand_well (inl h) calm explains sound = on h.settles calm explains
      where
        on : (s : SettlesOn errand first (span_of before after h.begun new) (Ok r)) → EachSettlingOn StepIsCalm errand first (span_of before after h.begun new) (Ok r) s
            → EachSettlingOn StepExplains errand first (span_of before after h.begun new) (Ok r) s → SessionIsUntroubled 0 after new × EndsWell errand r
        on (inr memory) calm explains = absurd (no_memory r memory.0)
        on (inl s) calm explains =
            let c = s.comes in
            let begun = subst (λ (a : Acting). WorksOn errand a.work) (sym (begun_is h.begun h.begins)) (works_first errand) in
            let works = subst (λ (a : Acting). WorksOn errand a.work) (changed_was 0 _ c.world.sessions s.left.sessions c.steps.session) (works_on before h.begun c.mid c.world begun c.went) in (
              rests_in 0 after new (has_closed 0 s.left new s.closes),
              replied_well errand c.steps.session.before.work c.steps.session.after.work s.answer works sound
                  (subst (λ (x : CloudState). IsOfNone (spent_for c.steps.session.before.work) x c.steps.session.after.work s.answer)
                  (state_is calm.1.calm.after u (sym (c.steps.look_after.stays calm.1.calm.after calm.1.calm.left) ∙ told_after))
                  (answers_calmly first Plain c.mid after c.world s.left s.answer c.steps calm.1 explains.1
                  (went_calmly first before h.begun c.mid c.world c.went calm.0 explains.0 (t, told, rested t (work_at h.begun 0) (begun_untroubled h.begun h.begins)))))
                  s.replies,
            )

-- ---- every line

refused_number : (why : Refused) (r : Reply) → why ≡ refused.Rule BadNumber → (let own : Result Reply WorldFault = Ok r in own ≡ declined why) → r ≡ reply.Refused BadNumber
refused_number (refused.Rule rule) r is e = cc (is, e)
refused_number refused.Memory r is e = absurd (cc (is))

module _ (lines : List Line) (n : ℕ) (before after : Seen) (old new : World) (r : Reply) (t : CloudState) (number : length lines + 1 ≡ n) (told : before.state ≡ Some t)
    (stands : LinesStand lines old t) (u : CloudState) (told_after : after.state ≡ Some u) where
  abbrev Well : Event → Type 0
  Well e = SessionIsUntroubled (session_of e) after new × RepliesWell u e (standing lines (session_of e)).posture r

  -- what is asked is answered, each step of it calm and explained
  abbrev AnswersCalmly : Asked → Type 0
  AnswersCalmly z = (h : Answers n z (span_of before after old new) (Ok r)) × EachAsked StepIsCalm n z (span_of before after old new) (Ok r) h × EachAsked StepExplains n z (span_of before after old new) (Ok r) h

  asked_well : (e : Event) (asked : Asked) → Asks e asked → (h : Answers n asked (span_of before after old new) (Ok r)) → EachAsked StepIsCalm n asked (span_of before after old new) (Ok r) h
      → EachAsked StepExplains n asked (span_of before after old new) (Ok r) h → IsSoundFor e (standing lines (session_of e)).posture r
      → SessionIsUntroubled (session_of e) before old → Well e
  asked_well (event.Open k client) asked asks h calm explains sound well =
      request_well lines n k before after old new r t number told stands well u told_after (BeginsWell u Opening) (λ rule. tt) (IsOpening client) asked asks h calm explains
      (λ request is does. let d = as_asked lines n k before after old new r t number told stands well u told_after request (Begin (op.Open client)) (ap (λ q. Ok q) is.1) does in begins_well lines n k before after old new r t number told stands well u told_after (op.Open client) is.0 d.0.0.seen d.0.1)
  asked_well (event.Close k) asked asks h calm explains sound well =
      request_well lines n k before after old new r t number told stands well u told_after (BeginsWell u Closing) (λ rule. tt) (λ request. request ≡ Ok (Begin op.Close)) asked asks h calm explains
      (λ request is does. let d = as_asked lines n k before after old new r t number told stands well u told_after request (Begin op.Close) is does in begins_well lines n k before after old new r t number told stands well u told_after op.Close tt d.0.0.seen d.0.1)
  asked_well (event.Renew k) asked asks h calm explains sound well =
      request_well lines n k before after old new r t number told stands well u told_after (BeginsWell u Renewing) (λ rule. tt) (λ request. request ≡ Ok (Begin op.Renew)) asked asks h calm explains
      (λ request is does. let d = as_asked lines n k before after old new r t number told stands well u told_after request (Begin op.Renew) is does in begins_well lines n k before after old new r t number told stands well u told_after op.Renew tt d.0.0.seen d.0.1)
  asked_well (event.Commit k) asked asks h calm explains sound well =
      request_well lines n k before after old new r t number told stands well u told_after (BeginsWell u (Committing [])) (λ rule. tt) (λ request. request ≡ Ok (Begin op.Commit)) asked asks h calm explains
      (λ request is does. let d = as_asked lines n k before after old new r t number told stands well u told_after request (Begin op.Commit) is does in begins_well lines n k before after old new r t number told stands well u told_after op.Commit tt d.0.0.seen d.0.1)
  asked_well (event.Read k tree key) asked asks h calm explains sound well =
      request_well lines n k before after old new r t number told stands well u told_after (BeginsWell u (Reading tree key)) (λ rule. tt) (IsReading tree key) asked asks h calm explains
      (λ request is does. let d = as_asked lines n k before after old new r t number told stands well u told_after request (Begin (op.Read tree key)) (ap (λ q. Ok q) is.2) does in begins_well lines n k before after old new r t number told stands well u told_after (op.Read tree key) is.0 d.0.0.seen d.0.1)
  asked_well (event.Scan k tree from to) asked asks h calm explains sound well =
      request_well lines n k before after old new r t number told stands well u told_after (BeginsWell u (Scanning tree from to)) (λ rule. tt) (IsScanning tree from to) asked asks h calm explains
      (λ request is does.
      let d = as_asked lines n k before after old new r t number told stands well u told_after request (Begin (op.Scan tree (bound_of from) (bound_of to))) (ap (λ q. Ok q) is.3) does in
      let w = begins_well lines n k before after old new r t number told stands well u told_after (op.Scan tree (bound_of from) (bound_of to)) is.0 d.0.0.seen d.0.1 in
      (w.0, w.1 from to))
  asked_well (event.Lookup k tree attr) asked asks h calm explains sound well =
      request_well lines n k before after old new r t number told stands well u told_after (BeginsWell u (LookingUp tree attr)) (λ rule. tt) (IsLookingUp tree attr) asked asks h calm explains
      (λ request is does.
      let d = as_asked lines n k before after old new r t number told stands well u told_after request (Begin (op.Lookup tree attr)) (ap (λ q. Ok q) is.2) does in
      begins_well lines n k before after old new r t number told stands well u told_after (op.Lookup tree attr) is.0.0 d.0.0.seen d.0.1)
  asked_well (event.Page k tree page) asked asks h calm explains sound well =
      request_well lines n k before after old new r t number told stands well u told_after (BeginsWell u (Paging tree page)) (λ rule. tt) (IsPaging tree page) asked asks h calm explains
      (λ request is does. let d = as_asked lines n k before after old new r t number told stands well u told_after request (Begin (op.Page tree page)) (ap (λ q. Ok q) is.2) does in begins_well lines n k before after old new r t number told stands well u told_after (op.Page tree page) (is.0, is.1) d.0.0.seen d.0.1)
  asked_well (event.Tree k tree) asked asks h calm explains sound well =
      request_well lines n k before after old new r t number told stands well u told_after (BeginsWell u (Folding tree)) (λ rule. tt) (IsFolding tree) asked asks h calm explains
      (λ request is does. let d = as_asked lines n k before after old new r t number told stands well u told_after request (Begin (op.Tree tree)) (ap (λ q. Ok q) is.1) does in begins_well lines n k before after old new r t number told stands well u told_after (op.Tree tree) is.0 d.0.0.seen d.0.1)
  asked_well (event.Abort k) asked asks h calm explains sound well =
      request_well lines n k before after old new r t number told stands well u told_after (λ q. Unit {0}) (λ rule. tt) (λ request. request ≡ Ok Abort) asked asks h calm explains
      (λ request is does. (
        aborts_well lines n k before after old new r t number told stands well u told_after (as_asked lines n k before after old new r t number told stands well u told_after request Abort is does).0.0.seen
            (as_asked lines n k before after old new r t number told stands well u told_after request Abort is does).0.1,
        tt,
      ))
  asked_well (event.Policy k role kept) asked asks h calm explains sound well =
      request_well lines n k before after old new r t number told stands well u told_after (λ q. Unit {0}) (λ rule. tt) (λ request. request ≡ Ok (Policy role kept)) asked asks h calm explains
      (λ request is does. (policy_well lines n k before after old new r t number told stands well u told_after role kept (as_asked lines n k before after old new r t number told stands well u told_after request (Policy role kept) is does).0, tt))
  asked_well (event.Work k) asked asks h calm explains sound well =
      request_well lines n k before after old new r t number told stands well u told_after WorksWell (λ rule. tt) (λ request. request ≡ Ok WorksDue) asked asks h calm explains
      (λ request is does. through_well lines n k before after old new r t number told stands well u told_after (as_asked lines n k before after old new r t number told stands well u told_after request WorksDue is does).0)
  asked_well (event.Step k wish) asked asks h calm explains sound well =
      request_well lines n k before after old new r t number told stands well u told_after (StepsWell u (standing lines k).posture) (λ rule. tt) (IsStep wish) asked asks h calm explains
      (λ request is does.
      let d = as_asked lines n k before after old new r t number told stands well u told_after request (Step wish) (ap (λ q. Ok q) is) does in
      makes_well lines n k before after old new r t number told stands well u told_after wish d.0 d.1 d.2 sound)
  asked_well (event.Run k) asked asks h calm explains sound well =
      request_well lines n k before after old new r t number told stands well u told_after (RunsWell u (standing lines k).posture) (λ rule. tt) (λ request. request ≡ Ok Run) asked asks h calm explains
      (λ request is does.
      let d = as_asked lines n k before after old new r t number told stands well u told_after request Run is does in
      runs_well lines n k before after old new r t number told stands well u told_after d.0 d.1 d.2 sound)
  asked_well (event.Crash k done) asked asks h calm explains sound well =
      request_well lines n k before after old new r t number told stands well u told_after (λ q. Unit {0}) (λ rule. tt) (λ request. request ≡ Ok (Crash done)) asked asks h calm explains
      (λ request is does. (crash_well lines n k before after old new r t number told stands well u told_after done (as_asked lines n k before after old new r t number told stands well u told_after request (Crash done) is does).0, tt))
  asked_well (event.Wait ticks) asked asks h calm explains sound well = on (subst (λ z. Answers n z (span_of before after old new) (Ok r)) asks h)
    where
      on : Answers n (Wait ticks) (span_of before after old new) (Ok r) → Well (event.Wait ticks)
      on (inl waits) = (goes_in 0 after new (subst (λ (w : World). GoesWellAt 0 after w) (sym waits.1) behind), tt)
        where
          behind : GoesWellAt 0 after old
          behind =
              let w = waits.0.waited t told in (
                w.after,
                w.told,
                untroubled_later t w.after (work_at old 0) (record {
                  versions = λ name. begins_same (t.versions name) (w.after.versions name) (ap (λ (x : CloudState). x.versions name) w.rest);
                  messages = λ queue. let same = ap (λ (x : CloudState). length (x.messages queue)) w.rest in omega (arith, same);
                  rows = let same = ap (λ (x : CloudState). length x.trace) w.rest in omega (arith, same);
                })
                    (end_later t.now ticks w.after.now (waits.0.clock t told) w.later) (well t told),
              )
      on (inr long) = (unchanged 0 before after old new long.declines.seen long.declines.world well, tt)
  asked_well (event.Report tree) asked asks h calm explains sound well =
      let reports = subst (λ z. Answers n z (span_of before after old new) (Ok r)) asks h in
      (goes_in 0 after new (t, reports.looked.stays t told, subst (λ (w : World). IsUntroubled t (work_at w 0)) (sym reports.world) (well t told)), tt)
  asked_well event.Settle asked asks h calm explains sound well =
      let d = subst AnswersCalmly asks (h, calm, explains) in
      errand_well lines n before after old new r t u told told_after settles d.0 d.1 d.2 sound
  asked_well (event.Sweep number) (Sweep (Ok tree)) asks h calm explains sound well =
      subst (λ (k : ℕ). IsSoundFor (event.Sweep k) (standing lines 0).posture r → Well (event.Sweep k)) asks.0
      (errand_well lines n before after old new r t u told told_after (sweeps tree) h.1 calm explains) sound
  asked_well (event.Sweep number) (Sweep (Err why)) asks h calm explains sound well =
      (unchanged 0 before after old new h.seen h.world well, subst (SweepsWell number) (sym (refused_number why r asks.1 h.reply)) (refl, asks.0))
  asked_well (event.Sweep number) asked asks h calm explains sound well = absurd asks
  asked_well e asked asks h calm explains sound well =
      request_well lines n (session_of e) before after old new r t number told stands well u told_after (λ q. Unit {0}) (λ rule. tt)
      (IsNoted (noting_of e)) asked asks h calm explains
      (λ request is does. noted_well lines n (session_of e) before after old new r t number told stands well u told_after (noting_of e) request is does)

  -- the lines of a session that is at work on a page
  asked_unsent : (e : Event) (asked : Asked) → Asks e asked → (h : Answers n asked (span_of before after old new) (Ok r)) → EachAsked StepIsCalm n asked (span_of before after old new) (Ok r) h
      → EachAsked StepExplains n asked (span_of before after old new) (Ok r) h → IsSoundFor e (standing lines (session_of e)).posture r → SessionIsUntroubled (session_of e) before old
      → LeavesUnsent e (standing lines (session_of e)).posture (hand_at t old (session_of e)) (hand_at u new (session_of e)) r
  asked_unsent (event.Page k tree page) asked asks h calm explains sound well =
      (request_well lines n k before after old new r t number told stands well u told_after (RepliesUnsent tree page u (work_at new k)) (λ rule. tt) (IsPaging tree page) asked asks h calm explains
      (λ request is does.
      let d = as_asked lines n k before after old new r t number told stands well u told_after request (Begin (op.Page tree page)) (ap (λ q. Ok q) is.2) does in (
        (begins_well lines n k before after old new r t number told stands well u told_after (op.Page tree page) (is.0, is.1) d.0.0.seen d.0.1).0,
        page_begins lines n k before after old new r t number told stands well u told_after tree page d.0.1,
      ))).1
  asked_unsent (event.Step k wish) asked asks h calm explains sound well =
      (request_well lines n k before after old new r t number told stands well u told_after
      (GoesOnUnsent (standing lines k).posture (hand_at t old k) (hand_at u new k))
      (λ rule. goes_unsent t u (standing lines k).posture (work_at old k) (work_at new k) (reply.Refused rule) (λ tree page is kept. tt)) (IsStep wish) asked asks h calm explains
      (λ request is does.
      let d = as_asked lines n k before after old new r t number told stands well u told_after request (Step wish) (ap (λ q. Ok q) is) does in (
        (makes_well lines n k before after old new r t number told stands well u told_after wish d.0 d.1 d.2 sound).0,
        goes_unsent t u (standing lines k).posture (work_at old k) (work_at new k) r
            (step_leaves lines n k before after old new r t number told stands well u told_after wish d.0 d.1),
      ))).1
  asked_unsent (event.Run k) asked asks h calm explains sound well =
      (request_well lines n k before after old new r t number told stands well u told_after
      (GoesOnUnsent (standing lines k).posture (hand_at t old k) (hand_at u new k))
      (λ rule. goes_unsent t u (standing lines k).posture (work_at old k) (work_at new k) (reply.Refused rule) (λ tree page is kept. tt)) (λ request. request ≡ Ok Run) asked asks h calm explains
      (λ request is does.
      let d = as_asked lines n k before after old new r t number told stands well u told_after request Run is does in (
        (runs_well lines n k before after old new r t number told stands well u told_after d.0 d.1 d.2 sound).0,
        goes_unsent t u (standing lines k).posture (work_at old k) (work_at new k) r
            (run_leaves lines n k before after old new r t number told stands well u told_after d.0 d.1),
      ))).1
  asked_unsent e asked asks h calm explains sound well = tt

pub well_after : (n : ℕ) (e : Event) (before after : Seen) (old new : World) (result : Result Reply WorldFault) → AnswersWell n e (span_of before after old new) result
well_after n e before after old new (Ok r) = λ lines t u number told told_after stands handled calm well.
    let explains = explained n e before after old new (Ok r) lines t number told stands handled in
    let sound = sound_after n e before after old new (Ok r) handled lines t number told stands in
    let still : SessionIsUntroubled (session_of e) before old = λ x told_x. subst (λ (y : CloudState). IsUntroubled y (work_at old (session_of e))) (state_is t x (sym told ∙ told_x)) well in
    let is = asked_well lines n before after old new r t number told stands.by_lines u told_after e handled.asked handled.asks handled.answers calm explains sound still in (
      is.0 u told_after,
      is.1,
      asked_unsent lines n before after old new r t number told stands.by_lines u told_after e handled.asked handled.asks handled.answers calm explains sound still,
    )
well_after n e before after old new (Err fault) = tt
