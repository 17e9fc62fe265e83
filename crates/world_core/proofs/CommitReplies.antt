-- The reply to a line that ends a commit is that to its answer: what holds of each answer of a step holds of the reply.
use Rattle.std.proofs.Common.{◌≡◌, ◌+◌, inl, inr, ℕ, List, length, Bool, true, false, Option, Some, None, Result, Ok, Err, refl, sym, subst}
use Rattle.client_work.specs.Session.{Acting, Begins, opening_rule_of, value_of}
use Rattle.client_work.specs.declared.answer.Answer.{Answer}
use Rattle.client_work.specs.declared.answer.Answer.TheVariants as answer
use Rattle.client_work.specs.declared.answer.Begun.{Begun}
use Rattle.client_work.specs.declared.answer.Begun.TheVariants.{Working, Answered}
use Rattle.client_work.specs.declared.op.Op.{Op}
use Rattle.client_work.specs.declared.op.Op.TheVariants as op
use Rattle.client_work.specs.declared.work.Work.{Work}
use Rattle.client_work.specs.declared.work.Work.TheVariants as work
use Rattle.cloud_facts.specs.Words.{CommitAnswer, Turn, More, Ended, Stopped, CloudState, Caller, Seen}
use Rattle.db_base.specs.declared.refusal.Refused.{Refused}
use Rattle.db_base.specs.declared.refusal.Refused.TheVariants as refused
use Rattle.db_base.specs.declared.wish.Wish.{Wish}
use Rattle.db_base.specs.declared.wish.Wish.TheVariants.{Plain}
use Rattle.db_base.specs.Value.{Value}
use Rattle.event_text.specs.declared.event.Event.{Event}
use Rattle.event_text.specs.declared.event.Event.TheVariants as event
use Rattle.replay_meaning.specs.Standing.{Line, Posture, Closed, Idle, Broken, Standing, session_of, standing}
use Rattle.reply_text.specs.declared.reply.Reply.{Reply}
use Rattle.reply_text.specs.declared.reply.Reply.TheVariants as reply
use Rattle.session_facts.specs.Lines.Facts.{session_at, WorksAs}
use Rattle.session_facts.specs.Sessions.Knows.{Sessions}
use Rattle.ckpt_policy.specs.declared.role.Role.{Role}
use Rattle.world_core.specs.declared.asked.Asked.{Asked}
use Rattle.world_core.specs.declared.asked.Asked.TheVariants.{Session, Wait, Report, Settle, Sweep}
use Rattle.world_core.specs.declared.asked.Request.{Request}
use Rattle.world_core.specs.declared.asked.Request.TheVariants.{Begin, Note, Abort, Policy, Work as WorksDue, Step, Run, Crash}
use Rattle.world_core.specs.declared.world.WorldFault.{WorldFault}
use Rattle.world_core.specs.Asked.{Asks, OfSession, IsOpening, IsReading, IsScanning, IsLookingUp, IsPaging, IsFolding, IsNoted, IsStep, noting_of}
use Rattle.world_core.specs.Handled.{Declines, BeginsOp, StepsLooked, MakesStep, Runs, Settles, SettlesOn, Crashes, Reports, Does, Answers, Policies, WorksThrough}
use Rattle.session_facts.specs.Lines.Errands.{Errand, settles, sweeps}
use Rattle.world_core.specs.Replying.{declined, done_reply, value_reply, RepliesTo, RepliesBegun, RepliesTurn}
use Rattle.world_core.specs.Sessions.{Changes}
use Rattle.world_core.proofs.Behind.{LinesStand}
use Rattle.world_core.specs.World.{World}
use Rattle.world_core.specs.Span.{span_of}
use Rattle.world_core.proofs.Texts.{commit_is, errand_is}
use Rattle.world_core.proofs.StandsLemmas.{IsUnderWay, changed_was, way_begins, went_on, no_stop, no_memory, replies_to}

-- ---- replies

-- the reply of a line
abbrev IsOk : Reply → Result Reply WorldFault → Type 0
IsOk r result = (let own : Result Reply WorldFault = Ok r in own ≡ result)

-- what is said of the answer of a commit, by how its session stood and what it has in hand then, is said of the reply, and of no other
abbrev pub OfReply : (Posture → Work → CommitAnswer → Type 0) → Posture → Work → Reply → Type 0
OfReply Holds posture left (reply.Commit a) = Holds posture left a
OfReply Holds posture left r = Unit {0}

module _ (Holds : Posture → Work → CommitAnswer → Type 0) (posture : Posture) (hand : Work) where
  abbrev Keeps : Reply → Type 0
  Keeps r = OfReply Holds posture hand r

  plainly : (r q : Reply) → IsOk r (Ok q) → Keeps q → Keeps r
  plainly r q e keeps = let is : r ≡ q = cc in subst Keeps (sym is) keeps

  refused_keeps : (r : Reply) (why : Refused) → IsOk r (declined why) → Keeps r
  refused_keeps r (refused.Rule rule) e = plainly r (reply.Refused rule) e tt
  refused_keeps r refused.Memory e = absurd (cc)

  declines_keeps : (r : Reply) (why : Refused) (before after : Seen) (old new : World) → Declines why (span_of before after old new) (Ok r) → Keeps r
  declines_keeps r why before after old new h = refused_keeps r why h.reply

  done_keeps : (r q : Reply) → Keeps q → (done : Result (Unit {0}) Refused) → IsOk r (done_reply q done) → Keeps r
  done_keeps r q keeps (Ok x) e = plainly r q e keeps
  done_keeps r q keeps (Err why) e = refused_keeps r why e

  value_keeps : (value : Option Value) (r : Reply) → r ≡ value_reply value → Keeps r
  value_keeps None r e = subst Keeps (sym e) tt
  value_keeps (Some value) r e = subst Keeps (sym e) tt

  -- the reply to an answer keeps what the end of a commit does
  answer_keeps : (a : Answer) (left : Acting) (r : Reply) → RepliesTo a left (Ok r) → ((c : CommitAnswer) → a ≡ answer.Commit c → Holds posture hand c) → Keeps r
  answer_keeps (answer.Opened epoch) left r e ends = plainly r (reply.Opened epoch) e tt
  answer_keeps answer.Closed left r e ends = plainly r reply.Closed e tt
  answer_keeps (answer.Renewed end) left r e ends = plainly r (reply.Renewed end) e tt
  answer_keeps (answer.Done n) left r e ends = plainly r (reply.Done n) e tt
  answer_keeps (answer.Commit c) left r e ends = subst Keeps (sym (commit_is c r e).0) (ends c refl)
  answer_keeps answer.Value left r e ends = value_keeps (value_of left) r e
  answer_keeps answer.Scan left r e ends = subst Keeps (sym e) tt
  answer_keeps (answer.Settled s) left r e ends = plainly r (reply.Settled s.calls) e tt
  answer_keeps (answer.Swept x) left r e ends = plainly r (reply.Swept x.kept x.removed) e tt
  answer_keeps (answer.Trouble t) left r e ends = let is = replies_to (answer.Trouble t) left r e in subst Keeps (sym is.0.0) tt

-- nothing is said of a session at no work
pub record SaysNothing (Holds : Posture → Work → CommitAnswer → Type 0) : Type 0 where
  pub closed : (left : Work) (a : CommitAnswer) → Holds Closed left a
  pub idle : (left : Work) (a : CommitAnswer) → Holds Idle left a
  pub broken : (left : Work) (a : CommitAnswer) → Holds Broken left a

rest_keeps : (Holds : Posture → Work → CommitAnswer → Type 0) (p : Posture) (left : Work) → ((a : CommitAnswer) → Holds p left a) → (r : Reply) → OfReply Holds p left r
rest_keeps Holds p left h (reply.Commit a) = h a
rest_keeps Holds p left h r = tt

-- ---- one session

abbrev IsAtRest : Work → Type 0
IsAtRest work.Closed = Unit {0}
IsAtRest (work.Idle home) = Unit {0}
IsAtRest (work.Broken lease) = Unit {0}
IsAtRest w = ⊥

opening_rests : (w : Work) → opening_rule_of w ≡ None → IsAtRest w
opening_rests work.Closed e = tt
opening_rests (work.Idle home) e = tt
opening_rests (work.Broken lease) e = tt
opening_rests w e = absurd (cc)

-- a session that begins an operation was at no work
begin_rests : (o : Op) (old new : Acting) (begun : Begun) → Begins o old new (Ok begun) → IsAtRest old.work
begin_rests (op.Open client) old new Working does = opening_rests old.work does.0
begin_rests (op.Open client) old new (Answered a) never = absurd never
begin_rests op.Close old new begun does = subst IsAtRest (sym does.1) tt
begin_rests op.Renew old new begun does = subst IsAtRest (sym does.1) tt
begin_rests op.Commit old new begun does = subst IsAtRest (sym does.1) tt
begin_rests (op.Read tree key) old new begun does = subst IsAtRest (sym does.1) tt
begin_rests (op.Scan tree from to) old new begun does = subst IsAtRest (sym does.1) tt
begin_rests (op.Lookup tree attr) old new begun does = subst IsAtRest (sym does.1.1) tt
begin_rests (op.Page tree page) old new begun does = subst IsAtRest (sym does.1) tt
begin_rests (op.Tree tree) old new begun does = subst IsAtRest (sym does.1) tt

-- ---- what a line asks of a session

module _ (Holds : Posture → Work → CommitAnswer → Type 0) (nothing : SaysNothing Holds) (lines : List Line) (n k : ℕ) (before after : Seen) (old new : World) (r : Reply) (t : CloudState)
    (number : length lines + 1 ≡ n) (told : before.state ≡ Some t) (stands : LinesStand lines old t)
    (ends : (wish : Wish) (mid : Seen) (world : World) (c : CommitAnswer) → IsUnderWay lines world mid
    → StepsLooked (record { session = k; event = n }) wish (span_of mid after world new) (Ended (answer.Commit c)) → Holds (standing lines k).posture (session_at new.sessions k).work c) where
  abbrev stood : Standing
  stood = standing lines k

  abbrev hand : Work
  hand = (session_at new.sessions k).work

  abbrev Kept : Reply → Type 0
  Kept q = OfReply Holds stood.posture hand q

  abbrev who : Caller
  who = record { session = k; event = n }

  way : IsUnderWay lines old before
  way = way_begins lines before old t told stands

  not_done : (why : Refused) → Declines why (span_of before after old new) (Ok r) → Kept r
  not_done why h = declines_keeps Holds stood.posture hand r why before after old new h

  plain : (q : Reply) → IsOk r (Ok q) → Kept q → Kept r
  plain q e keeps = plainly Holds stood.posture hand r q e keeps

  -- a session that is at no work
  rests : (w : Work) → IsAtRest w → WorksAs w stood → Kept r
  rests work.Closed rest acts = subst (λ p. OfReply Holds p hand r) (sym acts) (rest_keeps Holds Closed hand (nothing.closed hand) r)
  rests (work.Idle home) rest acts = subst (λ p. OfReply Holds p hand r) (sym acts.0) (rest_keeps Holds Idle hand (nothing.idle hand) r)
  rests (work.Broken lease) rest acts = subst (λ p. OfReply Holds p hand r) (sym acts) (rest_keeps Holds Broken hand (nothing.broken hand) r)
  rests w never acts = absurd never

  begin_keeps : (o : Op) → Changes k (BeginsOp o (Ok r)) old.sessions new.sessions → Kept r
  begin_keeps o c = on c.does.begun begins c.does.replies
    where
      f : Sessions
      f = session_at old.sessions

      begins : Begins o (f k) c.after c.does.begun
      begins = subst (λ a. Begins o a c.after c.does.begun) (sym (changed_was k _ old.sessions new.sessions c)) c.does.begins

      on : (begun : Result Begun Refused) → Begins o (f k) c.after begun → RepliesBegun begun c.after (Ok r) → Kept r
      on (Ok begun) does e = rests (f k).work (begin_rests o (f k) c.after begun does) (stands.acts k).work
      on (Err why) does e = refused_keeps Holds stood.posture hand r why e

  step_keeps : (wish : Wish) (mid : Seen) (world : World) (a : Answer) → IsUnderWay lines world mid → (p : StepsLooked who wish (span_of mid after world new) (Ended a))
      → RepliesTo a p.session.after (Ok r) → Kept r
  step_keeps wish mid world a under p replies =
      answer_keeps Holds stood.posture hand a p.session.after r replies
      (λ c is. ends wish mid world c under (subst (λ b. StepsLooked who wish (span_of mid after world new) (Ended b)) is p))

  makes_keeps : (wish : Wish) → MakesStep (record { session = k; event = n }) wish (span_of before after old new) (Ok r) → Kept r
  makes_keeps wish (inl refuses) = not_done _ refuses.declines
  makes_keeps wish (inr (inl step)) = on step.turn step.steps step.replies
    where
      on : (turn : Turn Answer) (p : StepsLooked who wish (span_of before after old new) turn) → RepliesTurn turn p.session.after (Ok r) → Kept r
      on More p e = plain reply.Called e tt
      on (Ended a) p e = step_keeps wish before old a way p e
      on (Stopped q) p e = absurd (no_stop _ p.under p.to p.session.before p.session.after q p.session.does)
  makes_keeps wish (inr (inr memory)) = absurd (no_memory r memory.0)

  runs_keeps : Runs (record { session = k; event = n }) (span_of before after old new) (Ok r) → Kept r
  runs_keeps (inl refuses) = not_done _ refuses.declines
  runs_keeps (inr (inl run)) =
      step_keeps Plain run.comes.mid run.comes.world run.answer
      (went_on lines who before old run.comes.mid run.comes.world (sym number) way run.comes.went) run.comes.steps run.replies
  runs_keeps (inr (inr memory)) = absurd (no_memory r memory.0)

  crash_keeps : (done : Bool) → Crashes (record { session = k; event = n }) done (span_of before after old new) (Ok r) → Kept r
  crash_keeps false h = plain reply.Crashed h.replies tt
  crash_keeps true (inl idle) = plain reply.Crashed idle.dies.replies tt
  crash_keeps true (inr (inl h)) = plain reply.Crashed h.replies tt
  crash_keeps true (inr (inr memory)) = absurd (no_memory r memory.0)

  policy_keeps : (role : Role) (number : ℕ) → Policies k role number (span_of before after old new) (Ok r) → Kept r
  policy_keeps role number (inl refuses) = not_done _ refuses.declines
  policy_keeps role number (inr (inl refuses)) = not_done _ refuses.1.declines
  policy_keeps role number (inr (inr gives)) = plain reply.Noted gives.replies tt

  through_keeps : WorksThrough (record { session = k; event = n }) (span_of before after old new) (Ok r) → Kept r
  through_keeps (inl refuses) = not_done _ refuses.declines
  through_keeps (inr (inl down)) = plain (reply.Worked down.done down.passed) down.replies tt
  through_keeps (inr (inr memory)) = absurd (no_memory r memory.0)

  does_keeps : (request : Request) → Does (record { session = k; event = n }) request (span_of before after old new) (Ok r) → Kept r
  does_keeps (Begin o) h = begin_keeps o h.1
  does_keeps (Note noting) h = done_keeps Holds stood.posture hand r reply.Noted tt h.1.does.noted h.1.does.replies
  does_keeps Abort h = done_keeps Holds stood.posture hand r reply.Aborted tt h.1.does.dropped h.1.does.replies
  does_keeps (Policy role number) h = policy_keeps role number h
  does_keeps WorksDue h = through_keeps h
  does_keeps (Step wish) h = makes_keeps wish h
  does_keeps Run h = runs_keeps h
  does_keeps (Crash done) h = crash_keeps done h

  request_keeps : (Is : Result Request Refused → Type 0) (asked : Asked) → OfSession k Is asked → Answers n asked (span_of before after old new) (Ok r) → Kept r
  request_keeps Is (Session j (Ok request)) belongs (inl p) = does_keeps request (subst (λ i. Does (record { session = i; event = n }) request (span_of before after old new) (Ok r)) belongs.0 p.1)
  request_keeps Is (Session j (Err why)) belongs (inl p) = not_done why p.1
  request_keeps Is (Session j request) belongs (inr none) = not_done _ none.declines
  request_keeps Is (Wait ticks) belongs answers = absurd belongs
  request_keeps Is (Report tree) belongs answers = absurd belongs
  request_keeps Is Settle belongs answers = absurd belongs
  request_keeps Is (Sweep tree) belongs answers = absurd belongs

-- ---- every line

-- a wait, a report, a settling and a sweep are answered with the end of no commit
module _ (Holds : Posture → Work → CommitAnswer → Type 0) (posture : Posture) (hand : Work) where
  wait_keeps : (ticks n : ℕ) (before after : Seen) (old new : World) (r : Reply) → Answers n (Wait ticks) (span_of before after old new) (Ok r) → OfReply Holds posture hand r
  wait_keeps ticks n before after old new r (inl h) = plainly Holds posture hand r reply.Waited h.0.replies tt
  wait_keeps ticks n before after old new r (inr long) = declines_keeps Holds posture hand r _ before after old new long.declines

  errand_keeps : (errand : Errand) (n : ℕ) (before after : Seen) (old new : World) (r : Reply) → Settles errand n (span_of before after old new) (Ok r) → OfReply Holds posture hand r
  errand_keeps errand n before after old new r (inr memory) = absurd (no_memory r memory.0)
  errand_keeps errand n before after old new r (inl h) = by_end h.settles
    where
      by_end : SettlesOn errand (record { session = 0; event = n }) (span_of before after h.begun new) (Ok r) → OfReply Holds posture hand r
      by_end (inr memory) = absurd (no_memory r memory.0)
      by_end (inl s) = errand_is (λ q. OfReply Holds posture hand q) (λ calls. tt) (λ k text. tt) (λ kept removed. tt) (λ k text. tt) errand s.answer r s.replies

  report_keeps : (tree : ℕ) (before after : Seen) (old new : World) (r : Reply) → Reports tree (span_of before after old new) (Ok r) → OfReply Holds posture hand r
  report_keeps tree before after old new (reply.Commit a) h = absurd h.reply
  report_keeps tree before after old new r h = tt

-- what holds of each answer of a step of a commit
abbrev pub EndsSo : (Posture → Work → CommitAnswer → Type 0) → List Line → ℕ → Event → Seen → World → Type 0
EndsSo Holds lines n event after new =
    (wish : Wish) (mid : Seen) (world : World) (c : CommitAnswer) → IsUnderWay lines world mid
    → StepsLooked (record { session = session_of event; event = n }) wish (span_of mid after world new) (Ended (answer.Commit c))
    → Holds (standing lines (session_of event)).posture (session_at new.sessions (session_of event)).work c

module _ (Holds : Posture → Work → CommitAnswer → Type 0) (nothing : SaysNothing Holds) (n : ℕ) (before after : Seen) (old new : World) (r : Reply) (lines : List Line) (t : CloudState)
    (at : length lines + 1 ≡ n) (told : before.state ≡ Some t) (stands : LinesStand lines old t) where
  abbrev KeptFor : Event → Type 0
  KeptFor e = OfReply Holds (standing lines (session_of e)).posture (session_at new.sessions (session_of e)).work r

  -- a line of a session
  of_session : (e : Event) → EndsSo Holds lines n e after new → (Is : Result Request Refused → Type 0) (asked : Asked) → OfSession (session_of e) Is asked → Answers n asked (span_of before after old new) (Ok r)
      → KeptFor e
  of_session e ends Is asked asks answers = request_keeps Holds nothing lines n (session_of e) before after old new r t at told stands ends Is asked asks answers

  pub asked_keeps : (e : Event) → EndsSo Holds lines n e after new → (asked : Asked) → Asks e asked → Answers n asked (span_of before after old new) (Ok r) → KeptFor e
  asked_keeps (event.Open k client) ends asked asks answers = of_session (event.Open k client) ends (IsOpening client) asked asks answers
  asked_keeps (event.Close k) ends asked asks answers = of_session (event.Close k) ends (λ request. request ≡ Ok (Begin op.Close)) asked asks answers
  asked_keeps (event.Renew k) ends asked asks answers = of_session (event.Renew k) ends (λ request. request ≡ Ok (Begin op.Renew)) asked asks answers
  asked_keeps (event.Commit k) ends asked asks answers = of_session (event.Commit k) ends (λ request. request ≡ Ok (Begin op.Commit)) asked asks answers
  asked_keeps (event.Abort k) ends asked asks answers = of_session (event.Abort k) ends (λ request. request ≡ Ok Abort) asked asks answers
  asked_keeps (event.Read k tree key) ends asked asks answers = of_session (event.Read k tree key) ends (IsReading tree key) asked asks answers
  asked_keeps (event.Scan k tree from to) ends asked asks answers = of_session (event.Scan k tree from to) ends (IsScanning tree from to) asked asks answers
  asked_keeps (event.Lookup k tree attr) ends asked asks answers = of_session (event.Lookup k tree attr) ends (IsLookingUp tree attr) asked asks answers
  asked_keeps (event.Page k tree page) ends asked asks answers = of_session (event.Page k tree page) ends (IsPaging tree page) asked asks answers
  asked_keeps (event.Tree k tree) ends asked asks answers = of_session (event.Tree k tree) ends (IsFolding tree) asked asks answers
  asked_keeps (event.Policy k role number) ends asked asks answers = of_session (event.Policy k role number) ends (λ request. request ≡ Ok (Policy role number)) asked asks answers
  asked_keeps (event.Work k) ends asked asks answers = of_session (event.Work k) ends (λ request. request ≡ Ok WorksDue) asked asks answers
  asked_keeps (event.Step k wish) ends asked asks answers = of_session (event.Step k wish) ends (IsStep wish) asked asks answers
  asked_keeps (event.Run k) ends asked asks answers = of_session (event.Run k) ends (λ request. request ≡ Ok Run) asked asks answers
  asked_keeps (event.Crash k done) ends asked asks answers = of_session (event.Crash k done) ends (λ request. request ≡ Ok (Crash done)) asked asks answers
  asked_keeps (event.Wait ticks) ends asked asks answers = wait_keeps Holds _ _ ticks n before after old new r (subst (λ z. Answers n z (span_of before after old new) (Ok r)) asks answers)
  asked_keeps (event.Report tree) ends asked asks answers =
      report_keeps Holds _ _ tree before after old new r (subst (λ z. Answers n z (span_of before after old new) (Ok r)) asks answers)
  asked_keeps event.Settle ends asked asks answers = errand_keeps Holds _ _ settles n before after old new r (subst (λ z. Answers n z (span_of before after old new) (Ok r)) asks answers)
  asked_keeps (event.Sweep number) ends (Sweep (Ok tree)) asks answers = errand_keeps Holds _ _ (sweeps tree) n before after old new r answers.1
  asked_keeps (event.Sweep number) ends (Sweep (Err why)) asks answers = declines_keeps Holds _ _ r why before after old new answers
  asked_keeps (event.Sweep number) ends asked asks answers = absurd asks
  asked_keeps e ends asked asks answers = of_session e ends (IsNoted (noting_of e)) asked asks answers
