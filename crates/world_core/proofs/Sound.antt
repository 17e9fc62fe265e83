-- Every line is answered soundly: no trouble is replied that only damage could cause.
use Rattle.std.proofs.Common.{◌≡◌, ◌+◌, inl, inr, ℕ, List, [], ◌∷◌, ◌++◌, length, Bool, true, false, Option, Some, None, Result, Ok, Err, refl, sym, ap, subst}
use Rattle.client_work.specs.Session.{Acting, StepsSession, Begins, value_of}
use Rattle.client_work.specs.declared.answer.Answer.{Answer}
use Rattle.client_work.specs.declared.answer.Answer.TheVariants as answer
use Rattle.client_work.specs.declared.answer.Begun.{Begun}
use Rattle.client_work.specs.declared.answer.Begun.TheVariants.{Working, Answered}
use Rattle.client_work.specs.declared.op.Op.{Op}
use Rattle.client_work.specs.declared.op.Op.TheVariants as op
use Rattle.client_work.specs.declared.work.Work.{Work}
use Rattle.client_work.specs.declared.work.Work.TheVariants as work
use Rattle.cloud_facts.specs.Audits.Slip.{IsSlip}
use Rattle.cloud_facts.specs.Words.{Trouble, CommitAnswer, Turn, More, Ended, Stopped, CloudState, Caller, Seen, at, store_of, StandsUnder}
use Rattle.world_audit.specs.Stop.{Stopped as StopsReport}
use Rattle.session_facts.specs.Machines.CommitRuns.Stops.{MayEnd}
use Rattle.db_base.specs.declared.refusal.Refused.{Refused}
use Rattle.db_base.specs.declared.refusal.Refused.TheVariants as refused
use Rattle.db_base.specs.declared.trouble.Trouble.TheVariants as trouble
use Rattle.db_base.specs.declared.wish.Wish.{Wish}
use Rattle.db_base.specs.declared.wish.Wish.TheVariants.{Plain}
use Rattle.db_base.specs.Value.{Value}
use Rattle.event_text.specs.declared.event.Event.{Event}
use Rattle.event_text.specs.declared.event.Event.TheVariants as event
use Rattle.replay_meaning.specs.Standing.{Line, Posture, session_of, standing}
use Rattle.session_facts.specs.Lines.Answers.{MayTrouble, IsSoundReply}
use Rattle.session_facts.specs.Lines.Facts.{session_at, CloudHolds}
use Rattle.session_facts.proofs.Lines.Answers.{may_by_lines}
use Rattle.session_facts.proofs.Lines.More.{line_of}
use Rattle.session_facts.proofs.Lines.Settler.{errand_row}
use Rattle.session_facts.specs.Lines.Errands.{Errand, settles, sweeps, event_for, WorksOn, AreRowsOf}
use Rattle.session_facts.specs.Machines.Sweeps.Knows.{MayStopSweep}
use Rattle.session_facts.proofs.Lines.Outcome.{CallLeaves, CallLeavesUpto, wish_holds}
use Rattle.reply_text.specs.Reply.{HasText}
use Rattle.reply_text.specs.declared.reply.Reply.{Reply}
use Rattle.reply_text.specs.declared.reply.Reply.TheVariants as reply
use Rattle.session_facts.specs.Sessions.Stops.{MaySettle, MayAnswer}
use Rattle.session_facts.specs.Sessions.Knows.{Sessions, IsRightOp}
use Rattle.session_facts.proofs.Sessions.BeginStops.{begin_stops, begin_ends}
use Rattle.session_facts.proofs.Sessions.Stops.{session_stops, session_ends}
use Rattle.cloud_facts.proofs.Audits.Whole.{only_slips}
use Rattle.ckpt_policy.specs.declared.role.Role.{Role}
use Rattle.world_core.specs.declared.asked.Asked.{Asked}
use Rattle.world_core.specs.declared.asked.Asked.TheVariants.{Session, Wait, Report, Settle, Sweep}
use Rattle.world_core.specs.declared.asked.Noting.{Noting}
use Rattle.world_core.specs.declared.asked.Request.{Request}
use Rattle.world_core.specs.declared.asked.Request.TheVariants.{Begin, Note, Abort, Policy, Work as WorksDue, Step, Run, Crash}
use Rattle.world_core.specs.World.{World}
use Rattle.world_core.specs.declared.world.WorldFault.{WorldFault}
use Rattle.world_core.specs.Asked.{Asks, OfSession, IsOpening, IsReading, IsScanning, IsLookingUp, IsPaging, IsFolding, IsNoted, IsStep, bound_of, noting_of}
use Rattle.world_core.specs.Handled.{Declines, BeginsOp, MakesNoCall, StepsLooked, MakesStep, Runs, SettlesOn, Settles, Crashes, Reports, Does, Answers, Handled, Policies, WorksThrough}
use Rattle.world_core.specs.Replying.{declined, done_reply, trouble_reply, unsettled_reply, value_reply, RepliesTo, RepliesFor, RepliesBegun, RepliesTurn}
use Rattle.world_core.specs.Sessions.{Changes}
use Rattle.world_core.specs.Sound.{IsSoundReport, IsSoundSweep, IsSoundFor, AnswersSoundly}
use Rattle.world_core.specs.Span.{span_of}
use Rattle.world_core.proofs.Behind.{LinesStand}
use Rattle.world_core.proofs.Texts.{commit_is}
use Rattle.world_core.proofs.StandsLemmas.{IsUnderWay, changed_was, way_begins, told_under, call, steps_own, went_on, no_stop, no_memory, replies_to, SettlerGoes, settler, settler_own, settler_call, settler_went, settler_begins, errand_plain}
use Rattle.world_core.proofs.Errands.{IsRightErrand}

-- ---- replies

-- the reply of a line
abbrev IsOk : Reply → Result Reply WorldFault → Type 0
IsOk r result = (let own : Result Reply WorldFault = Ok r in own ≡ result)

module _ (posture : Posture) where
  abbrev Sound : Reply → Type 0
  Sound r = IsSoundReply posture r

  refused_sound : (r : Reply) (why : Refused) → IsOk r (declined why) → Sound r
  refused_sound r (refused.Rule rule) e = let is : r ≡ reply.Refused rule = cc in subst Sound (sym is) tt
  refused_sound r refused.Memory e = absurd (cc)

  declines_sound : (r : Reply) (why : Refused) (before after : Seen) (old new : World) → Declines why (span_of before after old new) (Ok r) → Sound r
  declines_sound r why before after old new h = refused_sound r why h.reply

  value_sound : (value : Option Value) (r : Reply) → r ≡ value_reply value → Sound r
  value_sound None r e = subst Sound (sym e) tt
  value_sound (Some value) r e = subst Sound (sym e) tt

  -- the reply to an answer is sound where its trouble, or the end of a commit, is right
  answer_sound : (a : Answer) (left : Acting) (r : Reply) → RepliesTo a left (Ok r) → ((t : Trouble) → a ≡ answer.Trouble t → (t ≡ trouble.Memory → ⊥) → MayTrouble posture t)
      → ((c : CommitAnswer) → a ≡ answer.Commit c → MayEnd c) → Sound r
  answer_sound (answer.Opened epoch) left r e stops ends = let is : r ≡ reply.Opened epoch = cc in subst Sound (sym is) tt
  answer_sound answer.Closed left r e stops ends = let is : r ≡ reply.Closed = cc in subst Sound (sym is) tt
  answer_sound (answer.Renewed end) left r e stops ends = let is : r ≡ reply.Renewed end = cc in subst Sound (sym is) tt
  answer_sound (answer.Done n) left r e stops ends = let is : r ≡ reply.Done n = cc in subst Sound (sym is) tt
  answer_sound (answer.Commit c) left r e stops ends = subst Sound (sym (commit_is c r e).0) (ends c refl)
  answer_sound answer.Value left r e stops ends = value_sound (value_of left) r e
  answer_sound answer.Scan left r e stops ends = subst Sound (sym e) tt
  answer_sound (answer.Settled s) left r e stops ends = let is : r ≡ reply.Settled s.calls = cc in subst Sound (sym is) tt
  answer_sound (answer.Swept x) left r e stops ends = let is : r ≡ reply.Swept x.kept x.removed = cc in subst Sound (sym is) tt
  answer_sound (answer.Trouble t) left r e stops ends = let is = replies_to (answer.Trouble t) left r e in subst Sound (sym is.0.0) (stops t refl is.0.1)

-- ---- one session

-- the trouble of a step is right by how the lines say that its session stands
step_stops : (lines : List Line) (who : Caller) (wish : Wish) (before after : Seen) (old new : World) (t : Trouble) → who.event ≡ length lines + 1 → IsUnderWay lines old before
    → StepsLooked who wish (span_of before after old new) (Ended (answer.Trouble t)) → MayTrouble (standing lines who.session).posture t
step_stops lines who wish before after old new t number way p =
    may_by_lines (session_at old.sessions who.session).work (standing lines who.session) t (way.goes.acts who.session).work
    (session_stops who p.under p.to (record way.after { wish = wish }) left.state held.book held.order (session_at old.sessions) under left.told held.stand p.session.after t own)
  where
    held : CloudHolds (length lines + 1) lines (session_at old.sessions) old.audit old.blind (record way.after { wish = wish })
    held = wish_holds (length lines + 1) lines (session_at old.sessions) old.audit old.blind way.after wish way.goes.holds

    left : CallLeaves lines p.to (at who.session p.session.after (session_at old.sessions)) new.audit new.blind
    left = call lines who wish before after old new (Ended (answer.Trouble t)) number way p

    under : p.under.state ≡ Some (record way.after { wish = wish })
    under = told_under lines who wish before after old new (Ended (answer.Trouble t)) number way p

    own : StepsSession who p.under p.to (session_at old.sessions who.session) p.session.after (Ok (Ended (answer.Trouble t)))
    own = steps_own lines who wish before after old new (Ended (answer.Trouble t)) number way p

-- and so is the end of a commit
step_commits : (lines : List Line) (who : Caller) (wish : Wish) (before after : Seen) (old new : World) (c : CommitAnswer) → who.event ≡ length lines + 1
    → IsUnderWay lines old before → StepsLooked who wish (span_of before after old new) (Ended (answer.Commit c)) → MayEnd c
step_commits lines who wish before after old new c number way p =
    session_ends who p.under p.to (record way.after { wish = wish }) left.state held.book held.order (session_at old.sessions) under left.told held.stand p.session.after c own
  where
    held : CloudHolds (length lines + 1) lines (session_at old.sessions) old.audit old.blind (record way.after { wish = wish })
    held = wish_holds (length lines + 1) lines (session_at old.sessions) old.audit old.blind way.after wish way.goes.holds

    left : CallLeaves lines p.to (at who.session p.session.after (session_at old.sessions)) new.audit new.blind
    left = call lines who wish before after old new (Ended (answer.Commit c)) number way p

    under : p.under.state ≡ Some (record way.after { wish = wish })
    under = told_under lines who wish before after old new (Ended (answer.Commit c)) number way p

    own : StepsSession who p.under p.to (session_at old.sessions who.session) p.session.after (Ok (Ended (answer.Commit c)))
    own = steps_own lines who wish before after old new (Ended (answer.Commit c)) number way p

-- the answer of a step
step_sound : (lines : List Line) (who : Caller) (wish : Wish) (before after : Seen) (old new : World) (a : Answer) (r : Reply) → who.event ≡ length lines + 1
    → IsUnderWay lines old before → (p : StepsLooked who wish (span_of before after old new) (Ended a)) → RepliesTo a p.session.after (Ok r)
    → IsSoundReply (standing lines who.session).posture r
step_sound lines who wish before after old new a r number way p replies =
    answer_sound (standing lines who.session).posture a p.session.after r replies
    (λ t is other. step_stops lines who wish before after old new t number way (subst (λ b. StepsLooked who wish (span_of before after old new) (Ended b)) is p))
    (λ c is. step_commits lines who wish before after old new c number way (subst (λ b. StepsLooked who wish (span_of before after old new) (Ended b)) is p))

-- ---- what a line asks of a session

module _ (lines : List Line) (n k : ℕ) (before after : Seen) (old new : World) (r : Reply) (t : CloudState) (number : length lines + 1 ≡ n) (told : before.state ≡ Some t)
    (stands : LinesStand lines old t) where
  abbrev Sounds : Reply → Type 0
  Sounds q = IsSoundReply (standing lines k).posture q

  abbrev who : Caller
  who = record { session = k; event = n }

  way : IsUnderWay lines old before
  way = way_begins lines before old t told stands

  not_done : (why : Refused) → Declines why (span_of before after old new) (Ok r) → Sounds r
  not_done why h = declines_sound (standing lines k).posture r why before after old new h

  plainly : (q : Reply) → IsOk r (Ok q) → Sounds q → Sounds r
  plainly q e sound = let is : r ≡ q = cc in subst Sounds (sym is) sound

  done_sound : (q : Reply) → Sounds q → (done : Result (Unit {0}) Refused) → IsOk r (done_reply q done) → Sounds r
  done_sound q sound (Ok x) e = plainly q e sound
  done_sound q sound (Err why) e = refused_sound (standing lines k).posture r why e

  -- a begin makes no call
  begin_sound : (o : Op) → IsRightOp o → MakesNoCall (span_of before after old new) → Changes k (BeginsOp o (Ok r)) old.sessions new.sessions → Sounds r
  begin_sound o right quiet c = on c.does.begun begins c.does.replies
    where
      f : Sessions
      f = session_at old.sessions

      begins : Begins o (f k) c.after c.does.begun
      begins = subst (λ a. Begins o a c.after c.does.begun) (sym (changed_was k _ old.sessions new.sessions c)) c.does.begins

      stops : (a : Answer) → Begins o (f k) c.after (Ok (Answered a)) → (q : Trouble) → a ≡ answer.Trouble q → (q ≡ trouble.Memory → ⊥) → MayTrouble (standing lines k).posture q
      stops a does q is other =
          absurd (other (begin_stops stands.holds.book stands.holds.order t f k c.after stands.holds.stand o q right (subst (λ b. Begins o (f k) c.after (Ok (Answered b))) is does)))

      ends : (a : Answer) → Begins o (f k) c.after (Ok (Answered a)) → (q : CommitAnswer) → a ≡ answer.Commit q → MayEnd q
      ends a does q is =
          begin_ends stands.holds.book stands.holds.order t f k c.after stands.holds.stand o q (subst (λ b. Begins o (f k) c.after (Ok (Answered b))) is does)

      on : (begun : Result Begun Refused) → Begins o (f k) c.after begun → RepliesBegun begun c.after (Ok r) → Sounds r
      on (Ok Working) does e = plainly reply.Begun e tt
      on (Ok (Answered a)) does e = answer_sound (standing lines k).posture a c.after r e (stops a does) (ends a does)
      on (Err why) does e = refused_sound (standing lines k).posture r why e

  makes_sound : (wish : Wish) → MakesStep (record { session = k; event = n }) wish (span_of before after old new) (Ok r) → Sounds r
  makes_sound wish (inl refuses) = not_done _ refuses.declines
  makes_sound wish (inr (inl step)) = on step.turn step.steps step.replies
    where
      on : (turn : Turn Answer) (p : StepsLooked who wish (span_of before after old new) turn) → RepliesTurn turn p.session.after (Ok r) → Sounds r
      on More p e = plainly reply.Called e tt
      on (Ended a) p e = step_sound lines who wish before after old new a r (sym number) way p e
      on (Stopped q) p e = absurd (no_stop _ p.under p.to p.session.before p.session.after q p.session.does)
  makes_sound wish (inr (inr memory)) = absurd (no_memory r memory.0)

  runs_sound : Runs (record { session = k; event = n }) (span_of before after old new) (Ok r) → Sounds r
  runs_sound (inl refuses) = not_done _ refuses.declines
  runs_sound (inr (inl run)) =
      step_sound lines who Plain run.comes.mid after run.comes.world new run.answer r (sym number)
      (went_on lines who before old run.comes.mid run.comes.world (sym number) way run.comes.went) run.comes.steps run.replies
  runs_sound (inr (inr memory)) = absurd (no_memory r memory.0)

  crash_sound : (done : Bool) → Crashes (record { session = k; event = n }) done (span_of before after old new) (Ok r) → Sounds r
  crash_sound false h = plainly reply.Crashed h.replies tt
  crash_sound true (inl idle) = plainly reply.Crashed idle.dies.replies tt
  crash_sound true (inr (inl h)) = plainly reply.Crashed h.replies tt
  crash_sound true (inr (inr memory)) = absurd (no_memory r memory.0)

  policy_sound : (role : Role) (number : ℕ) → Policies k role number (span_of before after old new) (Ok r) → Sounds r
  policy_sound role number (inl refuses) = not_done _ refuses.declines
  policy_sound role number (inr (inl refuses)) = not_done _ refuses.1.declines
  policy_sound role number (inr (inr gives)) = plainly reply.Noted gives.replies tt

  -- what was passed over is not told
  through_sound : WorksThrough (record { session = k; event = n }) (span_of before after old new) (Ok r) → Sounds r
  through_sound (inl refuses) = not_done _ refuses.declines
  through_sound (inr (inl down)) = plainly (reply.Worked down.done down.passed) down.replies tt
  through_sound (inr (inr memory)) = absurd (no_memory r memory.0)

  -- an operation that begins is a right one
  abbrev IsRight : Request → Type 0
  IsRight (Begin o) = IsRightOp o
  IsRight request = Unit {0}

  does_sound : (request : Request) → IsRight request → Does (record { session = k; event = n }) request (span_of before after old new) (Ok r) → Sounds r
  does_sound (Begin o) right h = begin_sound o right h.0 h.1
  does_sound (Note noting) right h = done_sound reply.Noted tt h.1.does.noted h.1.does.replies
  does_sound Abort right h = done_sound reply.Aborted tt h.1.does.dropped h.1.does.replies
  does_sound (Policy role number) right h = policy_sound role number h
  does_sound WorksDue right h = through_sound h
  does_sound (Step wish) right h = makes_sound wish h
  does_sound Run right h = runs_sound h
  does_sound (Crash done) right h = crash_sound done h

  request_sound : (Is : Result Request Refused → Type 0) (asked : Asked) → OfSession k Is asked → Answers n asked (span_of before after old new) (Ok r)
      → ((request : Request) → Is (Ok request) → IsRight request) → Sounds r
  request_sound Is (Session j (Ok request)) belongs (inl p) right =
      does_sound request (right request belongs.1) (subst (λ i. Does (record { session = i; event = n }) request (span_of before after old new) (Ok r)) belongs.0 p.1)
  request_sound Is (Session j (Err why)) belongs (inl p) right = not_done why p.1
  request_sound Is (Session j request) belongs (inr none) right = not_done _ none.declines
  request_sound Is (Wait ticks) belongs answers right = absurd belongs
  request_sound Is (Report tree) belongs answers right = absurd belongs
  request_sound Is Settle belongs answers right = absurd belongs
  request_sound Is (Sweep tree) belongs answers right = absurd belongs

  same_right : (request own : Request) → (let a : Result Request Refused = Ok request in let b : Result Request Refused = Ok own in a ≡ b) → IsRight own → IsRight request
  same_right request own e right = let is : request ≡ own = cc in subst IsRight (sym is) right

  noted_right : (noting : Noting) (request : Request) → IsNoted noting (Ok request) → IsRight request
  noted_right noting (Note other) is = tt
  noted_right noting (Begin o) is = absurd is
  noted_right noting (Policy role number) is = absurd is
  noted_right noting WorksDue is = absurd is
  noted_right noting Abort is = absurd is
  noted_right noting (Step wish) is = absurd is
  noted_right noting Run is = absurd is
  noted_right noting (Crash done) is = absurd is

-- ---- the settler

-- why it may stop
abbrev MayStopOn : Errand → Trouble → Type 0
MayStopOn settles t = MaySettle t
MayStopOn (sweeps tree) t = MayStopSweep t

errand_may : (errand : Errand) (w : Work) (t : Trouble) → WorksOn errand w → MayAnswer w t → MayStopOn errand t
errand_may settles (work.Settling m) t works may = may
errand_may (sweeps tree) (work.Sweeping m) t works may = may
errand_may errand w t works may = absurd works

-- the trouble of a step of the settler
settler_stops : (errand : Errand) (n : ℕ) (lines : List Line) (first : Sessions) → AreRowsOf errand lines (settler n) → (before after : Seen) (old new : World) (t : Trouble)
    → SettlerGoes errand n lines first old before → StepsLooked (settler n) Plain (span_of before after old new) (Ended (answer.Trouble t)) → MayStopOn errand t
settler_stops errand n lines first row before after old new t way p =
    errand_may errand (session_at old.sessions 0).work t way.works
    (session_stops (settler n) p.under p.to (record way.state { wish = Plain }) left.state held.book held.order (session_at old.sessions) under left.told held.stand p.session.after t own)
  where
    held : CloudHolds n lines (session_at old.sessions) old.audit old.blind (record way.state { wish = Plain })
    held = wish_holds n lines (session_at old.sessions) old.audit old.blind way.state Plain way.holds

    left : CallLeavesUpto n lines p.to (at 0 p.session.after (session_at old.sessions)) new.audit new.blind
    left = settler_call errand n lines first row before after old new (Ended (answer.Trouble t)) way p

    under : p.under.state ≡ Some (record way.state { wish = Plain })
    under = p.wishes.set way.state (p.look_before.stays way.state way.told)

    own : StepsSession (settler n) p.under p.to (session_at old.sessions 0) p.session.after (Ok (Ended (answer.Trouble t)))
    own = settler_own errand n lines first row before after old new (Ended (answer.Trouble t)) way p

module _ (lines : List Line) (n : ℕ) (before after : Seen) (old new : World) (r : Reply) (t : CloudState) (number : length lines + 1 ≡ n) (told : before.state ≡ Some t)
    (stands : LinesStand lines old t) where
  abbrev SoundFor : Errand → Reply → Type 0
  SoundFor errand q = IsSoundFor (event_for errand) (standing lines 0).posture q

  unsettled : (q : Trouble) → IsOk r (unsettled_reply q) → MaySettle q → SoundFor settles r
  unsettled trouble.Memory e may = absurd (cc)
  unsettled q e may = let is : r ≡ reply.NotSettled q = cc in subst (SoundFor settles) (sym is) may

  unswept : (tree : ℕ) (q : Trouble) → IsOk r (trouble_reply q) → MayStopSweep q → SoundFor (sweeps tree) r
  unswept tree trouble.Memory e may = absurd (cc)
  unswept tree q e may = let is : r ≡ reply.Trouble q = cc in subst (SoundFor (sweeps tree)) (sym is) may

  replied_sound : (errand : Errand) (a : Answer) → RepliesFor errand a (Ok r) → ((q : Trouble) → a ≡ answer.Trouble q → MayStopOn errand q) → SoundFor errand r
  replied_sound settles (answer.Settled x) e stops = let is : r ≡ reply.Settled x.calls = cc in subst (SoundFor settles) (sym is) tt
  replied_sound settles (answer.Trouble q) e stops = unsettled q e (stops q refl)
  replied_sound settles a e stops = absurd e
  replied_sound (sweeps tree) (answer.Swept x) e stops = let is : r ≡ reply.Swept x.kept x.removed = cc in subst (SoundFor (sweeps tree)) (sym is) tt
  replied_sound (sweeps tree) (answer.Trouble q) e stops = unswept tree q e (stops q refl)
  replied_sound (sweeps tree) a e stops = absurd e

  errand_sound : (errand : Errand) → IsRightErrand errand → Settles errand n (span_of before after old new) (Ok r) → SoundFor errand r
  errand_sound errand right (inr memory) = absurd (no_memory r memory.0)
  errand_sound errand right (inl h) = by_end h.settles
    where
      by_end : SettlesOn errand (settler n) (span_of before after h.begun new) (Ok r) → SoundFor errand r
      by_end (inr memory) = absurd (no_memory r memory.0)
      by_end (inl s) = replied_sound errand s.answer s.replies (λ q is. stops s.answer s.comes.steps q is)
        where
          all : List Line
          all = lines ++ line_of (event_for errand) r ∷ []

          row : AreRowsOf errand all (settler n)
          row = errand_row errand lines r (settler n) refl (sym number)

          way : SettlerGoes errand n all (session_at old.sessions) s.comes.world s.comes.mid
          way =
              settler_went errand n all (session_at old.sessions) row before h.begun s.comes.mid s.comes.world
              (settler_begins errand right lines n before old h.begun t (sym number) told stands h.begins r (errand_plain errand s.answer r s.replies)) s.comes.went

          stops : (a : Answer) → StepsLooked (settler n) Plain (span_of s.comes.mid after s.comes.world s.left) (Ended a) → (q : Trouble) → a ≡ answer.Trouble q → MayStopOn errand q
          stops (answer.Trouble k) p q is =
              let same : k ≡ q = cc (is) in
              subst (MayStopOn errand) same (settler_stops errand n all (session_at old.sessions) row s.comes.mid after s.comes.world s.left k way p)
          stops a p q is = absurd (cc (is))

-- ---- a report

report_sound : (lines : List Line) (tree : ℕ) (r : Reply) (before after : Seen) (old new : World) (t : CloudState) → before.state ≡ Some t → LinesStand lines old t
    → Reports tree (span_of before after old new) (Ok r) → IsSoundReport r
report_sound lines tree (reply.Trouble q) before after old new t told stands h = on old.blind refl
  where
    cloud : StandsUnder stands.holds.book stands.holds.order t
    cloud = stands.holds.stand.cloud

    failed : (q : Trouble) → HasText q → IsSlip q → q ≡ trouble.Failed
    failed q text (inl e) = e
    failed q text (inr memory) = absurd (subst HasText memory text)

    on : (b : Bool) → old.blind ≡ b → q ≡ trouble.Failed
    on true blind = h.reply.2.blinded blind
    on false sees =
        let found = h.reply.2.found sees in
        failed q h.reply.1 (only_slips t (store_of stands.holds.book stands.holds.order t) tree refl cloud.holds.chains cloud.holds.gones h.reply.0 cloud.decodes q
        (subst (λ (s : CloudState). StopsReport s tree q) (found.told t told) found.reported))
report_sound lines tree r before after old new t told stands h = tt

-- ---- every line

refused_sweep : (why : Refused) (r : Reply) → IsOk r (declined why) → IsSoundSweep r
refused_sweep (refused.Rule rule) r e = let is : r ≡ reply.Refused rule = cc in subst IsSoundSweep (sym is) tt
refused_sweep refused.Memory r e = absurd (cc)

asked_sound : (n : ℕ) (event : Event) (asked : Asked) (before after : Seen) (old new : World) (r : Reply) (lines : List Line) (t : CloudState)
    → Asks event asked → Answers n asked (span_of before after old new) (Ok r) → length lines + 1 ≡ n → before.state ≡ Some t → LinesStand lines old t
    → IsSoundFor event (standing lines (session_of event)).posture r
asked_sound n (event.Open k client) asked before after old new r lines t asks answers at told stands =
    request_sound lines n k before after old new r t at told stands (IsOpening client) asked asks answers
    (λ request is. same_right lines n k before after old new r t at told stands request (Begin (op.Open client)) (ap (λ q. Ok q) is.1) is.0)
asked_sound n (event.Read k tree key) asked before after old new r lines t asks answers at told stands =
    request_sound lines n k before after old new r t at told stands (IsReading tree key) asked asks answers
    (λ request is. same_right lines n k before after old new r t at told stands request (Begin (op.Read tree key)) (ap (λ q. Ok q) is.2) is.0)
asked_sound n (event.Scan k tree from to) asked before after old new r lines t asks answers at told stands =
    request_sound lines n k before after old new r t at told stands (IsScanning tree from to) asked asks answers
    (λ request is. same_right lines n k before after old new r t at told stands request (Begin (op.Scan tree (bound_of from) (bound_of to))) (ap (λ q. Ok q) is.3) is.0)
asked_sound n (event.Lookup k tree attr) asked before after old new r lines t asks answers at told stands =
    request_sound lines n k before after old new r t at told stands (IsLookingUp tree attr) asked asks answers
    (λ request is. same_right lines n k before after old new r t at told stands request (Begin (op.Lookup tree attr)) (ap (λ q. Ok q) is.2) is.0.0)
asked_sound n (event.Page k tree page) asked before after old new r lines t asks answers at told stands =
    request_sound lines n k before after old new r t at told stands (IsPaging tree page) asked asks answers
    (λ request is. same_right lines n k before after old new r t at told stands request (Begin (op.Page tree page)) (ap (λ q. Ok q) is.2) (is.0, is.1))
asked_sound n (event.Tree k tree) asked before after old new r lines t asks answers at told stands =
    request_sound lines n k before after old new r t at told stands (IsFolding tree) asked asks answers
    (λ request is. same_right lines n k before after old new r t at told stands request (Begin (op.Tree tree)) (ap (λ q. Ok q) is.1) is.0)
asked_sound n (event.Close k) asked before after old new r lines t asks answers at told stands =
    request_sound lines n k before after old new r t at told stands (λ request. request ≡ Ok (Begin op.Close)) asked asks answers
    (λ request is. same_right lines n k before after old new r t at told stands request (Begin op.Close) is tt)
asked_sound n (event.Renew k) asked before after old new r lines t asks answers at told stands =
    request_sound lines n k before after old new r t at told stands (λ request. request ≡ Ok (Begin op.Renew)) asked asks answers
    (λ request is. same_right lines n k before after old new r t at told stands request (Begin op.Renew) is tt)
asked_sound n (event.Commit k) asked before after old new r lines t asks answers at told stands =
    request_sound lines n k before after old new r t at told stands (λ request. request ≡ Ok (Begin op.Commit)) asked asks answers
    (λ request is. same_right lines n k before after old new r t at told stands request (Begin op.Commit) is tt)
asked_sound n (event.Policy k role number) asked before after old new r lines t asks answers at told stands =
    request_sound lines n k before after old new r t at told stands (λ request. request ≡ Ok (Policy role number)) asked asks answers
    (λ request is. same_right lines n k before after old new r t at told stands request (Policy role number) is tt)
asked_sound n (event.Work k) asked before after old new r lines t asks answers at told stands =
    request_sound lines n k before after old new r t at told stands (λ request. request ≡ Ok WorksDue) asked asks answers
    (λ request is. same_right lines n k before after old new r t at told stands request WorksDue is tt)
asked_sound n (event.Abort k) asked before after old new r lines t asks answers at told stands =
    request_sound lines n k before after old new r t at told stands (λ request. request ≡ Ok Abort) asked asks answers
    (λ request is. same_right lines n k before after old new r t at told stands request Abort is tt)
asked_sound n (event.Step k wish) asked before after old new r lines t asks answers at told stands =
    request_sound lines n k before after old new r t at told stands (IsStep wish) asked asks answers
    (λ request is. same_right lines n k before after old new r t at told stands request (Step wish) (ap (λ q. Ok q) is) tt)
asked_sound n (event.Run k) asked before after old new r lines t asks answers at told stands =
    request_sound lines n k before after old new r t at told stands (λ request. request ≡ Ok Run) asked asks answers
    (λ request is. same_right lines n k before after old new r t at told stands request Run is tt)
asked_sound n (event.Crash k done) asked before after old new r lines t asks answers at told stands =
    request_sound lines n k before after old new r t at told stands (λ request. request ≡ Ok (Crash done)) asked asks answers
    (λ request is. same_right lines n k before after old new r t at told stands request (Crash done) is tt)
asked_sound n (event.Wait ticks) asked before after old new r lines t asks answers at told stands = on (subst (λ z. Answers n z (span_of before after old new) (Ok r)) asks answers)
  where
    on : Answers n (Wait ticks) (span_of before after old new) (Ok r) → IsSoundReply (standing lines 0).posture r
    on (inl h) = plainly lines n 0 before after old new r t at told stands reply.Waited h.0.replies tt
    on (inr long) = not_done lines n 0 before after old new r t at told stands _ long.declines
asked_sound n (event.Report tree) asked before after old new r lines t asks answers at told stands =
    report_sound lines tree r before after old new t told stands (subst (λ z. Answers n z (span_of before after old new) (Ok r)) asks answers)
asked_sound n event.Settle asked before after old new r lines t asks answers at told stands =
    errand_sound lines n before after old new r t at told stands settles tt (subst (λ z. Answers n z (span_of before after old new) (Ok r)) asks answers)
asked_sound n (event.Sweep number) (Sweep (Ok tree)) before after old new r lines t asks answers at told stands =
    subst (λ k. IsSoundFor (event.Sweep k) (standing lines 0).posture r) asks.0 (errand_sound lines n before after old new r t at told stands (sweeps tree) answers.0 answers.1)
asked_sound n (event.Sweep number) (Sweep (Err why)) before after old new r lines t asks answers at told stands = refused_sweep why r answers.reply
asked_sound n (event.Sweep number) asked before after old new r lines t asks answers at told stands = absurd asks
asked_sound n e asked before after old new r lines t asks answers at told stands =
    request_sound lines n (session_of e) before after old new r t at told stands (IsNoted (noting_of e)) asked asks answers
    (noted_right lines n (session_of e) before after old new r t at told stands (noting_of e))

pub sound_after : (n : ℕ) (event : Event) (before after : Seen) (old new : World) (result : Result Reply WorldFault)
    → Handled n event (span_of before after old new) result → AnswersSoundly n event (span_of before after old new) result
sound_after n event before after old new (Ok r) h = λ lines t at told stands. asked_sound n event h.asked before after old new r lines t h.asks h.answers at told stands.by_lines
sound_after n event before after old new (Err fault) h = tt
