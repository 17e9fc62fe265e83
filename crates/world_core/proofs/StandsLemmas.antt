-- A line keeps what stands.
use Rattle.std.proofs.Common.{◌≡◌, ◌+◌, ◌≤◌, ℕ, List, [], ◌∷◌, ◌++◌, length, Option, Some, None, Result, Ok, Err, refl, sym, ap, subst, ◌∙◌, inl, inr, Bool, true, false, ◌⊎◌, ◌≢◌, arith}
use Rattle.std.proofs.lemmas.Bool.{cases_eq}
use Rattle.cloud_facts.specs.Words.{IsTree, Trouble, Entry, Turn, More, Ended, Stopped, CloudState, newest, Caller, Seen, at}
use Rattle.db_base.specs.declared.refusal.Refusal.{Refusal}
use Rattle.db_base.specs.declared.refusal.Refused.{Refused}
use Rattle.db_base.specs.declared.refusal.Refused.TheVariants as refused
use Rattle.db_base.specs.declared.trouble.Trouble.TheVariants as trouble
use Rattle.db_base.specs.declared.wish.Wish.{Wish}
use Rattle.db_base.specs.declared.wish.Wish.TheVariants.{Plain}
use Rattle.db_base.specs.Value.{Value}
use Rattle.event_text.specs.declared.event.Event.{Event}
use Rattle.event_text.specs.declared.event.Event.TheVariants as event
use Rattle.reply_text.specs.declared.reply.Reply.{Reply}
use Rattle.reply_text.specs.declared.reply.Reply.TheVariants as reply
use Rattle.report_types.specs.declared.report.Report.{Report as ReportShown}
use Rattle.cloud_trait.specs.State.{greatest, end_after}
use Rattle.cloud_trait.proofs.EffectLemmas.{begins_same}
use Rattle.ckpt_policy.specs.declared.role.Role.{Role}
use Rattle.client_work.specs.declared.answer.Answer.{Answer}
use Rattle.client_work.specs.declared.answer.Answer.TheVariants as answer
use Rattle.client_work.specs.Session.{Acting, closed_session, StepsSession, items_of, noted_behind, value_of}
use Rattle.history.specs.Audited.{Audited}
use Rattle.history.specs.Fold.{of_tree}
use Rattle.world_audit.specs.Counts.{heads_upto, AreWaiting}
use Rattle.cloud_facts.proofs.Book.Names.{at_same, at_other}
use Rattle.session_facts.specs.Sessions.Audited.{audited}
use Rattle.session_facts.specs.Sessions.Knows.{Sessions, SessionsStand}
use Rattle.session_facts.specs.Lines.Errands.{Errand, settles, sweeps, event_for, session_for, WorksOn, AreRowsOf}
use Rattle.session_facts.proofs.Sessions.Laws.{crash_keeps}
use Rattle.replay_meaning.specs.Standing.{Line, Standing, standing, after_line, after_own, session_of, steps}
use Rattle.replay_meaning.specs.Right.{ReportIsRight}
use Rattle.session_facts.specs.Lines.Facts.{session_at, ActsAs, AllAct, AllLanded, BeginsCommit, CloudHolds, IsFrontOf, IsOfCommit, SettlerRests, Stands, GoesOn}
use Rattle.session_facts.specs.Sessions.Landed.{LandedFor}
use Rattle.session_facts.proofs.Lines.Landed.{BeginsNoneBehind, landed_set}
use Rattle.session_facts.proofs.Sessions.Landed.{IsBehind, if_behind}
use Rattle.session_facts.proofs.Rows.CallKinds.{errand_goes}
use Rattle.session_facts.proofs.Lines.Acts.{IsReplyTo, goes_as, goes_noted, ends_as}
use Rattle.session_facts.proofs.Lines.More.{line_of, AllActWith, begins_line, begins_with, line_through, holds_same, own_line, still_line, refused_own, acts_set}
use Rattle.session_facts.proofs.Sessions.Lists.{session_there, session_set}
use Rattle.session_facts.proofs.Lines.Settler.{errand_begins, errand_ends, errand_row}
use Rattle.session_facts.proofs.Lines.Outcome.{CallLeaves, CallLeavesUpto, call_holds, errand_holds, never_stops, wish_holds, wait_holds}
use Rattle.session_facts.proofs.Reports.Right.{ShowsTree, report_right}
use Rattle.world_core.specs.World.{World}
use Rattle.world_core.specs.declared.world.WorldFault.{WorldFault}
use Rattle.world_core.specs.declared.world.WorldFault.TheVariants.{Memory}
use Rattle.world_core.specs.Replying.{declined, trouble_reply, value_reply, RepliesTo, RepliesFor, RepliesTurn}
use Rattle.world_core.specs.Sessions.{Changes}
use Rattle.world_core.specs.Handled.{Declines, Has, MakesNoCall, StepsLooked, RefusesStep, MakesStep, Went, start, further, RunsTo, Runs, SettlesTo, SettlesOn, Settles, GivesLedger, Policies, Dies, DiesDone, Crashes, WaitsFor, WaitsTooLong, Shows, Reports}
use Rattle.world_core.specs.Stands.{IsLeft, LeftIsRight}
use Rattle.world_core.specs.Span.{Span, span_of}
use Rattle.world_core.proofs.Behind.{LinesStand, LineLeaves}
use Rattle.world_core.proofs.Errands.{IsRightErrand, begins_errand, works_first}
use Rattle.world_core.proofs.Texts.{commit_is, errand_is}

-- ---- replies that are no report

abbrev pub IsNoReport : Reply → Type 0
IsNoReport (reply.Report r) = ⊥
IsNoReport r = Unit {0}

pub no_report_right : (lines : List Line) (t : CloudState) (r : Reply) → IsNoReport r → ReportIsRight lines t r
no_report_right lines t (reply.Report r) h = absurd h
no_report_right lines t r h = tt

pub no_report_left : (t : CloudState) (r : Reply) → IsNoReport r → LeftIsRight t r
no_report_left t (reply.Report r) h = absurd h
no_report_left t r h = tt

pub no_report_front : (order : List Entry) (r : Reply) → IsNoReport r → IsFrontOf order r
no_report_front order (reply.Report r) h = absurd h
no_report_front order r h = tt

-- ---- a line that is through

-- a line begins no commit whose reply is another one
pub not_begun : (event : Event) (r : Reply) (sessions : Sessions) → (r ≡ reply.Begun → ⊥) → BeginsNoneBehind (line_of event r) sessions
not_begun event r sessions other session begins behind = other begins.begun

-- where all holds within a line, each session stands as the line says, and the settler rests, it is one of the lines
pub through : (lines : List Line) (event : Event) (r : Reply) (after : Seen) (new : World) (t : CloudState) → after.state ≡ Some t
    → CloudHolds (length lines + 1) lines (session_at new.sessions) new.audit new.blind t → AllActWith lines (line_of event r) (session_at new.sessions)
    → SettlerRests (session_at new.sessions) → BeginsNoneBehind (line_of event r) (session_at new.sessions) → IsNoReport r → LineLeaves (lines ++ line_of event r ∷ []) new after r
through lines event r after new t told holds acts rests fresh plain = record {
  after = t;
  told = told;
  stands = line_through lines (line_of event r) (session_at new.sessions) new.audit new.blind t holds acts rests fresh (no_report_front holds.order r plain);
  right = no_report_right (lines ++ line_of event r ∷ []) t r plain;
  left = no_report_left t r plain;
}

-- a world that stays
world_holds : (lines : List Line) (old new : World) (t : CloudState) → new ≡ old → LinesStand lines old t
    → CloudHolds (length lines + 1) lines (session_at new.sessions) new.audit new.blind t
world_holds lines old new t same stands =
    let P : World → Type 0 = λ w. CloudHolds (length lines + 1) lines (session_at w.sessions) w.audit w.blind t in
    subst P (sym same) (begins_line lines (session_at old.sessions) old.audit old.blind t stands).holds

world_acts : (lines : List Line) (old new : World) (t : CloudState) → new ≡ old → LinesStand lines old t → AllAct lines (session_at new.sessions)
world_acts lines old new t same stands =
    let P : World → Type 0 = λ w. AllAct lines (session_at w.sessions) in
    subst P (sym same) stands.acts

world_rests : (lines : List Line) (old new : World) (t : CloudState) → new ≡ old → LinesStand lines old t → SettlerRests (session_at new.sessions)
world_rests lines old new t same stands =
    let P : World → Type 0 = λ w. SettlerRests (session_at w.sessions) in
    subst P (sym same) stands.rests

-- a line that is refused leaves all
pub refuses : (lines : List Line) (event : Event) (r : Reply) (rule : Refusal) (before after : Seen) (old new : World) (t : CloudState)
    → r ≡ reply.Refused rule → after ≡ before → new ≡ old → before.state ≡ Some t → LinesStand lines old t → LineLeaves (lines ++ line_of event r ∷ []) new after r
refuses lines event r rule before after old new t is same world told stands =
    let P : Reply → Type 0 = λ z. LineLeaves (lines ++ line_of event z ∷ []) new after z in
    subst P (sym is) (through lines event (reply.Refused rule) after new t (ap (λ (z : Seen). z.state) same ∙ told)
    (world_holds lines old new t world stands)
    (still_line lines event (reply.Refused rule) (session_at new.sessions) (refused_own event rule) (world_acts lines old new t world stands)) (world_rests lines old new t world stands)
    (not_begun event (reply.Refused rule) (session_at new.sessions) (λ e. cc (e))) tt)

pub refused_is : (r : Reply) (rule : Refusal) → (let result : Result Reply WorldFault = Ok r in result ≡ declined (refused.Rule rule)) → r ≡ reply.Refused rule
refused_is r rule e = cc

pub declines : (lines : List Line) (event : Event) (r : Reply) (why : Refused) (before after : Seen) (old new : World) (t : CloudState)
    → Declines why (span_of before after old new) (Ok r) → before.state ≡ Some t → LinesStand lines old t → LineLeaves (lines ++ line_of event r ∷ []) new after r
declines lines event r (refused.Rule rule) before after old new t is told stands =
    refuses lines event r rule before after old new t (refused_is r rule is.reply) is.seen is.world told stands
declines lines event r refused.Memory before after old new t is told stands = absurd (cc (is.reply))

-- ---- one session changes

-- the sessions of a list of which one changes
pub changed_at : (number : ℕ) (Does : Acting → Acting → Type 0) (old new : List Acting) → (c : Changes number Does old new) → (n : ℕ)
    → session_at new n ≡ at number c.after (session_at old) n
changed_at number Does old new c n = ap (λ l. session_at l n) c.rest ∙ session_set old number c.before c.after c.there n

pub changed_was : (number : ℕ) (Does : Acting → Acting → Type 0) (old new : List Acting) → (c : Changes number Does old new) → session_at old number ≡ c.before
changed_was number Does old new c = session_there old number c.before c.there

-- the settler rests beside another session
pub changed_rests : (number : ℕ) (Does : Acting → Acting → Type 0) (old new : List Acting) → 1 ≤ number → Changes number Does old new → SettlerRests (session_at old)
    → SettlerRests (session_at new)
changed_rests number Does old new some c rests = changed_at number Does old new c 0 ∙ at_other number c.after (session_at old) 0 (λ e. absurd (omega (arith, some, e))) ∙ rests

-- what is known of a line that makes no call, before its session is looked at
pub record Ready (lines : List Line) (event : Event) (number : ℕ) (span : Span) (t : CloudState) : Type 0 where
  pub own : session_of event ≡ number
  pub some : 1 ≤ number
  pub quiet : MakesNoCall span
  pub told : span.before.state ≡ Some t
  pub stands : LinesStand lines span.old t

-- how the session stood before
pub acts_before : (lines : List Line) (event : Event) (number : ℕ) (before after : Seen) (old new : World) (t : CloudState) (Does : Acting → Acting → Type 0)
    → Ready lines event number (span_of before after old new) t → (c : Changes number Does old.sessions new.sessions) → ActsAs c.before (standing lines number)
acts_before lines event number before after old new t Does ready c =
    subst (λ a. ActsAs a (standing lines number)) (changed_was number Does old.sessions new.sessions c) (ready.stands.acts number)

-- where a line without a call leaves a commit behind the put of its open head, it was there before, and the line began none
abbrev pub StaysBehind : ℕ → Line → Acting → Acting → Type 0
StaysBehind number line a b = IsBehind b.work → (b.work ≡ a.work) × (BeginsCommit number line → ⊥)

-- the session that a line leaves without a call stands as the line and its reply say
pub quiet_line : (lines : List Line) (event : Event) (r : Reply) (number : ℕ) (before after : Seen) (old new : World) (t : CloudState) (Does : Acting → Acting → Type 0)
    → (ready : Ready lines event number (span_of before after old new) t) → (c : Changes number Does old.sessions new.sessions)
    → SessionsStand ready.stands.holds.book ready.stands.holds.order t (at number c.after (session_at old.sessions))
    → ActsAs c.after (after_own event r (standing lines number)) → StaysBehind number (line_of event r) c.before c.after → IsNoReport r → LineLeaves (lines ++ line_of event r ∷ []) new after r
quiet_line lines event r number before after old new t Does ready c stand acts stays plain =
    through lines event r after new t (ap (λ (z : Seen). z.state) ready.quiet.seen ∙ ready.told) holds
    (λ n. subst (λ a. ActsAs a (after_line n (standing lines n) (line_of event r))) (sym (same n)) (own_line lines number event r (session_at old.sessions) c.after ready.own ready.stands.acts acts n))
    (changed_rests number Does old.sessions new.sessions ready.some c ready.stands.rests) fresh plain
  where
    same : (n : ℕ) → session_at new.sessions n ≡ at number c.after (session_at old.sessions) n
    same = changed_at number Does old.sessions new.sessions c

    fresh : BeginsNoneBehind (line_of event r) (session_at new.sessions)
    fresh n begins behind =
        let asked : n ≡ number = sym (ap session_of begins.asks) ∙ ready.own in
        let after : session_at new.sessions n ≡ c.after = same n ∙ at_same number c.after (session_at old.sessions) n asked in
        (stays (subst (λ (a : Acting). IsBehind a.work) after behind)).1 (subst (λ (k : ℕ). BeginsCommit k (line_of event r)) asked begins)

    was : LandedFor (IsOfCommit lines number) t c.before.work
    was = subst (λ (a : Acting). LandedFor (IsOfCommit lines number) t a.work) (changed_was number Does old.sessions new.sessions c) (ready.stands.holds.landed number)

    landed : AllLanded lines (at number c.after (session_at old.sessions)) t
    landed =
        landed_set lines number (session_at old.sessions) c.after t
        (if_behind (IsOfCommit lines number) t c.after.work (λ behind. subst (LandedFor (IsOfCommit lines number) t) (sym (stays behind).0) was)) ready.stands.holds.landed

    own : CloudHolds (length lines + 1) lines (at number c.after (session_at old.sessions)) old.audit old.blind t
    own = begins_with lines (session_at old.sessions) (at number c.after (session_at old.sessions)) old.audit old.blind t ready.stands.holds stand landed

    At : Audited → Bool → Type 0
    At a b = CloudHolds (length lines + 1) lines (session_at new.sessions) a b t

    holds : CloudHolds (length lines + 1) lines (session_at new.sessions) new.audit new.blind t
    holds =
        subst (λ a. At a new.blind) (sym ready.quiet.audit) (subst (At old.audit) (sym ready.quiet.blind)
        (holds_same (length lines + 1) lines (at number c.after (session_at old.sessions)) (session_at new.sessions) old.audit old.blind t same own))

-- a line that leaves its session as it was
pub quiet_refused : (lines : List Line) (event : Event) (r : Reply) (rule : Refusal) (number : ℕ) (before after : Seen) (old new : World) (t : CloudState) (Does : Acting → Acting → Type 0)
    → (ready : Ready lines event number (span_of before after old new) t) → (c : Changes number Does old.sessions new.sessions)
    → SessionsStand ready.stands.holds.book ready.stands.holds.order t (at number c.after (session_at old.sessions))
    → r ≡ reply.Refused rule → c.after ≡ c.before → LineLeaves (lines ++ line_of event r ∷ []) new after r
quiet_refused lines event r rule number before after old new t Does ready c stand is same =
    let P : Reply → Type 0 = λ z. LineLeaves (lines ++ line_of event z ∷ []) new after z in
    subst P (sym is) (quiet_line lines event (reply.Refused rule) number before after old new t Does ready c stand
    (subst (λ z. ActsAs c.after z) (sym (refused_own event rule (standing lines number)))
    (subst (λ a. ActsAs a (standing lines number)) (sym same) (acts_before lines event number before after old new t Does ready c)))
    (λ behind. (ap (λ (a : Acting). a.work) same, λ begins. never begins.begun)) tt)
  where
    never : reply.Refused rule ≡ reply.Begun → ⊥
    never e = absurd (cc (e))

-- ---- steps

-- where the sessions are after some steps
pub record IsUnderWay (lines : List Line) (world : World) (seen : Seen) : Type 0 where
  pub after : CloudState
  pub told : seen.state ≡ Some after
  pub goes : GoesOn lines (session_at world.sessions) world.audit world.blind after

pub way_begins : (lines : List Line) (before : Seen) (old : World) (t : CloudState) → before.state ≡ Some t → LinesStand lines old t → IsUnderWay lines old before
way_begins lines before old t told stands = record { after = t; told = told; goes = begins_line lines (session_at old.sessions) old.audit old.blind t stands }

-- what a step leaves, but for how its session stands
pub record IsStepped (lines : List Line) (new : World) (after : Seen) : Type 0 where
  pub state : CloudState
  pub told : after.state ≡ Some state
  pub holds : CloudHolds (length lines + 1) lines (session_at new.sessions) new.audit new.blind state

module _ (lines : List Line) (who : Caller) (wish : Wish) (before after : Seen) (old new : World) (turn : Turn Answer)
    (event : who.event ≡ length lines + 1) (way : IsUnderWay lines old before) (p : StepsLooked who wish (span_of before after old new) turn) where
  abbrev f : Sessions
  f = session_at old.sessions

  abbrev x : CloudState
  x = way.after

  abbrev wished : CloudState
  wished = record way.after { wish = wish }

  was : f who.session ≡ p.session.before
  was = changed_was who.session _ old.sessions new.sessions p.session

  pub steps_own : StepsSession who p.under p.to (f who.session) p.session.after (Ok turn)
  steps_own = subst (λ a. StepsSession who p.under p.to a p.session.after (Ok turn)) (sym was) p.session.does

  pub told_under : p.under.state ≡ Some wished
  told_under = p.wishes.set x (p.look_before.stays x way.told)

  pub call : CallLeaves lines p.to (at who.session p.session.after f) new.audit new.blind
  call =
      call_holds lines who p.under p.to wished f p.session.after turn old.audit new.audit old.blind new.blind event told_under
      (wish_holds (length lines + 1) lines f old.audit old.blind x wish way.goes.holds) (way.goes.acts who.session).work steps_own
      (record {
        saw = p.saw;
        audit = λ e y to. p.audit e x y way.told to ∙ ap (λ (a : Acting). audited (newest x) (newest y) a.work old.audit) (sym was);
      })

  pub stepped : IsStepped lines new after
  stepped = record {
    state = call.state;
    told = p.look_after.stays call.state call.told;
    holds = holds_same (length lines + 1) lines (at who.session p.session.after f) (session_at new.sessions) new.audit new.blind call.state
        (changed_at who.session _ old.sessions new.sessions p.session) call.holds;
  }

  -- the session is the changed one, the others are as they were
  pub sessions_after : (n : ℕ) → session_at new.sessions n ≡ at who.session p.session.after f n
  sessions_after = changed_at who.session _ old.sessions new.sessions p.session

step_more : (lines : List Line) (who : Caller) (wish : Wish) (before after : Seen) (old new : World) → who.event ≡ length lines + 1
    → IsUnderWay lines old before → StepsLooked who wish (span_of before after old new) More → IsUnderWay lines new after
step_more lines who wish before after old new event way p =
    let f : Sessions = session_at old.sessions in
    let s = stepped lines who wish before after old new More event way p in
    let own = steps_own lines who wish before after old new More event way p in
    let acts = way.goes.acts who.session in
    let mine : ActsAs p.session.after (standing lines who.session) = record {
      buffer = own.buffer ∙ goes_noted who p.under p.to (f who.session).work p.session.after.work (f who.session).buffer own.work ∙ acts.buffer;
      work = goes_as who p.under p.to p.session.after.buffer (f who.session).work p.session.after.work (f who.session).cache own.shown.0 p.session.after.shown (standing lines who.session) own.work own.shown.1 acts.work;
    } in
    let all : AllAct lines (at who.session p.session.after f) = acts_set lines who.session f p.session.after way.goes.acts mine in
    record {
      after = s.state;
      told = s.told;
      goes = record {
        holds = s.holds;
        acts = λ n. subst (λ a. ActsAs a (standing lines n)) (sym (sessions_after lines who wish before after old new More event way p n)) (all n);
      };
    }

pub went_on : (lines : List Line) (who : Caller) (before : Seen) (old : World) (after : Seen) (new : World) → who.event ≡ length lines + 1
    → IsUnderWay lines old before → Went who before old after new → IsUnderWay lines new after
went_on lines who before old after new number way start = way
went_on lines who before old after new number way (further mid _ world _ went step) =
    step_more lines who Plain mid after world new number (went_on lines who before old mid world number way went) step

-- the settler rests while another session makes steps
pub went_rests : (who : Caller) (before : Seen) (old : World) (after : Seen) (new : World) → 1 ≤ who.session → Went who before old after new → SettlerRests (session_at old.sessions)
    → SettlerRests (session_at new.sessions)
went_rests who before old after new some start rests = rests
went_rests who before old after new some (further mid _ world _ went step) rests =
    changed_rests who.session _ world.sessions new.sessions some step.session (went_rests who before old mid world some went rests)

-- the reply that shows what was read is no report
value_shown : (value : Option Value) (r : Reply) → r ≡ value_reply value → IsReplyTo answer.Value r × IsNoReport r
value_shown None r e = (inl e, subst IsNoReport (sym e) tt)
value_shown (Some value) r e = (inr (value.payload, e), subst IsNoReport (sym e) tt)

-- the reply to an answer is none
pub replies_to : (a : Answer) (left : Acting) (r : Reply) → RepliesTo a left (Ok r) → IsReplyTo a r × IsNoReport r
replies_to (answer.Opened epoch) left r e = let is : r ≡ reply.Opened epoch = cc in (is, subst IsNoReport (sym is) tt)
replies_to answer.Closed left r e = let is : r ≡ reply.Closed = cc in (is, subst IsNoReport (sym is) tt)
replies_to (answer.Renewed end) left r e = let is : r ≡ reply.Renewed end = cc in (is, subst IsNoReport (sym is) tt)
replies_to (answer.Done n) left r e = let is : r ≡ reply.Done n = cc in (is, subst IsNoReport (sym is) tt)
replies_to (answer.Commit a) left r e = let is = (commit_is a r e).0 in (is, subst IsNoReport (sym is) tt)
replies_to answer.Value left r e = value_shown (value_of left) r e
replies_to answer.Scan left r e = ((items_of left, e), subst IsNoReport (sym e) tt)
replies_to (answer.Settled n) left r e = let is : r ≡ reply.Settled n.calls = cc in (is, subst IsNoReport (sym is) tt)
replies_to (answer.Swept x) left r e = let is : r ≡ reply.Swept x.kept x.removed = cc in (is, subst IsNoReport (sym is) tt)
replies_to (answer.Trouble t) left r e = on t e
  where
    on : (t : Trouble) → (let result : Result Reply WorldFault = Ok r in result ≡ trouble_reply t) → ((r ≡ reply.Trouble t) × (t ≡ trouble.Memory → ⊥)) × IsNoReport r
    on trouble.Memory e = absurd (cc)
    on trouble.Failed e = let is : r ≡ reply.Trouble trouble.Failed = cc in ((is, λ m. absurd (cc)), subst IsNoReport (sym is) tt)
    on (trouble.Late end now) e = let is : r ≡ reply.Trouble (trouble.Late end now) = cc in ((is, λ m. absurd (cc)), subst IsNoReport (sym is) tt)
    on (trouble.Busy lock until) e = let is : r ≡ reply.Trouble (trouble.Busy lock until) = cc in ((is, λ m. absurd (cc)), subst IsNoReport (sym is) tt)
    on (trouble.Waiting have need) e = let is : r ≡ reply.Trouble (trouble.Waiting have need) = cc in ((is, λ m. absurd (cc)), subst IsNoReport (sym is) tt)
    on (trouble.Stale page least got) e = let is : r ≡ reply.Trouble (trouble.Stale page least got) = cc in ((is, λ m. absurd (cc)), subst IsNoReport (sym is) tt)
    on (trouble.Absent page) e = let is : r ≡ reply.Trouble (trouble.Absent page) = cc in ((is, λ m. absurd (cc)), subst IsNoReport (sym is) tt)
    on (trouble.NotALeaf page) e = let is : r ≡ reply.Trouble (trouble.NotALeaf page) = cc in ((is, λ m. absurd (cc)), subst IsNoReport (sym is) tt)
    on (trouble.Damaged place offset) e = let is : r ≡ reply.Trouble (trouble.Damaged place offset) = cc in ((is, λ m. absurd (cc)), subst IsNoReport (sym is) tt)
    on (trouble.BadFence page expected found) e = let is : r ≡ reply.Trouble (trouble.BadFence page expected found) = cc in ((is, λ m. absurd (cc)), subst IsNoReport (sym is) tt)
    on (trouble.Loop page) e = let is : r ≡ reply.Trouble (trouble.Loop page) = cc in ((is, λ m. absurd (cc)), subst IsNoReport (sym is) tt)
    on (trouble.Exhausted what) e = let is : r ≡ reply.Trouble (trouble.Exhausted what) = cc in ((is, λ m. absurd (cc)), subst IsNoReport (sym is) tt)

-- a line whose last step is answered
step_ends : (lines : List Line) (event : Event) (who : Caller) (wish : Wish) (before after : Seen) (old new : World) (a : Answer) (r : Reply)
    → session_of event ≡ who.session → ((s : Standing) → after_own event r s ≡ steps r s) → ((n : ℕ) → BeginsCommit n (line_of event r) → ⊥) → who.event ≡ length lines + 1 → 1 ≤ who.session
    → IsUnderWay lines old before → SettlerRests (session_at old.sessions) → (p : StepsLooked who wish (span_of before after old new) (Ended a)) → RepliesTo a p.session.after (Ok r)
    → LineLeaves (lines ++ line_of event r ∷ []) new after r
step_ends lines event who wish before after old new a r own_is does begins_none number some way rests p replies =
    let f : Sessions = session_at old.sessions in
    let s = stepped lines who wish before after old new (Ended a) number way p in
    let own = steps_own lines who wish before after old new (Ended a) number way p in
    let acts = way.goes.acts who.session in
    let is = replies_to a p.session.after r replies in
    let ended = ends_as who p.under p.to (f who.session).work p.session.after.work (standing lines who.session) a r own.work is.0 acts.work in
    let mine : ActsAs p.session.after (steps r (standing lines who.session)) = record {
      buffer = own.buffer ∙ ap (noted_behind (f who.session).work) acts.buffer ∙ sym ended.buffer;
      work = ended.work;
    } in
    let all : AllActWith lines (line_of event r) (at who.session p.session.after f) =
    own_line lines who.session event r f p.session.after own_is way.goes.acts (subst (ActsAs p.session.after) (sym (does (standing lines who.session))) mine) in
    through lines event r after new s.state s.told s.holds
    (λ n. subst (λ z. ActsAs z (after_line n (standing lines n) (line_of event r))) (sym (sessions_after lines who wish before after old new (Ended a) number way p n)) (all n))
    (changed_rests who.session _ old.sessions new.sessions some p.session rests) (λ n begins behind. begins_none n begins) is.1

-- ---- the lines that make steps

pub no_stop : (who : Caller) (before after : Seen) (old new : Acting) (t : Trouble) → StepsSession who before after old new (Ok (Stopped t)) → ⊥
no_stop who before after old new t p = never_stops who before after old.work new.work t p.work

refused_step : (lines : List Line) (event : Event) (r : Reply) (number : ℕ) (before after : Seen) (old new : World) (t : CloudState)
    → RefusesStep number (span_of before after old new) (Ok r) → before.state ≡ Some t → LinesStand lines old t → LineLeaves (lines ++ line_of event r ∷ []) new after r
refused_step lines event r number before after old new t h told stands = declines lines event r _ before after old new t h.declines told stands

pub no_memory : (r : Reply) → (let result : Result Reply WorldFault = Ok r in let fault : Result Reply WorldFault = Err Memory in result ≡ fault) → ⊥
no_memory r e = absurd (cc)

-- a line that makes steps begins no commit
run_begins_none : (k : ℕ) (r : Reply) (n : ℕ) → BeginsCommit n (line_of (event.Run k) r) → ⊥
run_begins_none k r n begins = let is : event.Run k ≡ event.Commit n = begins.asks in absurd (cc (is))

step_begins_none : (k : ℕ) (wish : Wish) (r : Reply) (n : ℕ) → BeginsCommit n (line_of (event.Step k wish) r) → ⊥
step_begins_none k wish r n begins = let is : event.Step k wish ≡ event.Commit n = begins.asks in absurd (cc (is))

runs_to : (lines : List Line) (k n : ℕ) (r : Reply) (before after : Seen) (old new : World) (t : CloudState) → length lines + 1 ≡ n → 1 ≤ k
    → before.state ≡ Some t → LinesStand lines old t → RunsTo (record { session = k; event = n }) (span_of before after old new) (Ok r) → LineLeaves (lines ++ line_of (event.Run k) r ∷ []) new after r
runs_to lines k n r before after old new t at some told stands run =
    let who : Caller = record { session = k; event = n } in
    let c = run.comes in
    step_ends lines (event.Run k) who Plain c.mid after c.world new run.answer r refl (λ s. refl) (run_begins_none k r) (sym at) some
    (went_on lines who before old c.mid c.world (sym at) (way_begins lines before old t told stands) c.went)
    (went_rests who before old c.mid c.world some c.went stands.rests) c.steps run.replies

pub runs : (lines : List Line) (k n : ℕ) (r : Reply) (before after : Seen) (old new : World) (t : CloudState) → length lines + 1 ≡ n → 1 ≤ k
    → before.state ≡ Some t → LinesStand lines old t → Runs (record { session = k; event = n }) (span_of before after old new) (Ok r) → LineLeaves (lines ++ line_of (event.Run k) r ∷ []) new after r
runs lines k n r before after old new t at some told stands (inl refused) = refused_step lines (event.Run k) r k before after old new t refused told stands
runs lines k n r before after old new t at some told stands (inr (inl run)) = runs_to lines k n r before after old new t at some told stands run
runs lines k n r before after old new t at some told stands (inr (inr memory)) = absurd (no_memory r memory.0)

-- a step that goes on
called_line : (lines : List Line) (event : Event) (who : Caller) (wish : Wish) (before after : Seen) (old new : World)
    → ((s : Standing) → after_own event reply.Called s ≡ s) → who.event ≡ length lines + 1 → 1 ≤ who.session
    → IsUnderWay lines old before → SettlerRests (session_at old.sessions) → StepsLooked who wish (span_of before after old new) More → LineLeaves (lines ++ line_of event reply.Called ∷ []) new after reply.Called
called_line lines event who wish before after old new still number some way rests p =
    let on = step_more lines who wish before after old new number way p in
    through lines event reply.Called after new on.after on.told on.goes.holds (still_line lines event reply.Called (session_at new.sessions) still on.goes.acts)
    (changed_rests who.session _ old.sessions new.sessions some p.session rests) (not_begun event reply.Called (session_at new.sessions) (λ e. cc (e))) tt

step_to : (lines : List Line) (k n : ℕ) (wish : Wish) (r : Reply) (before after : Seen) (old new : World) (t : CloudState) (turn : Turn Answer) → length lines + 1 ≡ n → 1 ≤ k
    → before.state ≡ Some t → LinesStand lines old t → (p : StepsLooked (record { session = k; event = n }) wish (span_of before after old new) turn)
    → RepliesTurn turn p.session.after (Ok r) → LineLeaves (lines ++ line_of (event.Step k wish) r ∷ []) new after r
step_to lines k n wish r before after old new t More at some told stands p replies =
    let is : r ≡ reply.Called = cc in
    let P : Reply → Type 0 = λ z. LineLeaves (lines ++ line_of (event.Step k wish) z ∷ []) new after z in
    subst P (sym is) (called_line lines (event.Step k wish) (record { session = k; event = n }) wish before after old new (λ s. refl) (sym at) some
    (way_begins lines before old t told stands) stands.rests p)
step_to lines k n wish r before after old new t (Ended a) at some told stands p replies =
    step_ends lines (event.Step k wish) (record { session = k; event = n }) wish before after old new a r refl (λ s. refl) (step_begins_none k wish r) (sym at) some
    (way_begins lines before old t told stands) stands.rests p replies
step_to lines k n wish r before after old new t (Stopped trouble) at some told stands p replies =
    absurd (no_stop _ p.under p.to p.session.before p.session.after trouble p.session.does)

pub makes_step : (lines : List Line) (k n : ℕ) (wish : Wish) (r : Reply) (before after : Seen) (old new : World) (t : CloudState) → length lines + 1 ≡ n → 1 ≤ k
    → before.state ≡ Some t → LinesStand lines old t → MakesStep (record { session = k; event = n }) wish (span_of before after old new) (Ok r) → LineLeaves (lines ++ line_of (event.Step k wish) r ∷ []) new after r
makes_step lines k n wish r before after old new t at some told stands (inl refused) = refused_step lines (event.Step k wish) r k before after old new t refused told stands
makes_step lines k n wish r before after old new t at some told stands (inr (inl step)) =
    step_to lines k n wish r before after old new t step.turn at some told stands step.steps step.replies
makes_step lines k n wish r before after old new t at some told stands (inr (inr memory)) = absurd (no_memory r memory.0)

-- ---- a session that dies

pub crashed_own : (k : ℕ) (done : Bool) (s : Standing) → ActsAs closed_session (after_own (event.Crash k done) reply.Crashed s)
crashed_own k done s = record { buffer = refl; work = refl }

dies : (lines : List Line) (k : ℕ) (done : Bool) (r : Reply) (before after : Seen) (old new : World) (t : CloudState) → 1 ≤ k
    → before.state ≡ Some t → LinesStand lines old t → Dies k (span_of before after old new) (Ok r) → LineLeaves (lines ++ line_of (event.Crash k done) r ∷ []) new after r
dies lines k done r before after old new t some told stands h =
    let is : r ≡ reply.Crashed = cc (h.replies) in
    let P : Reply → Type 0 = λ z. LineLeaves (lines ++ line_of (event.Crash k done) z ∷ []) new after z in
    let ready : Ready lines (event.Crash k done) k (span_of before after old new) t = record { own = refl; some = some; quiet = h.quiet; told = told; stands = stands } in
    let S : Acting → Type 0 = λ a. SessionsStand stands.holds.book stands.holds.order t (at k a (session_at old.sessions)) in
    subst P (sym is) (quiet_line lines (event.Crash k done) reply.Crashed k before after old new t _ ready h.closed
    (subst S (sym h.closed.does) (crash_keeps stands.holds.book stands.holds.order t (session_at old.sessions) k stands.holds.stand))
    (subst (λ a. ActsAs a (after_own (event.Crash k done) reply.Crashed (standing lines k))) (sym h.closed.does) (crashed_own k done (standing lines k)))
    (λ behind. absurd (subst (λ (a : Acting). IsBehind a.work) h.closed.does behind)) tt)

-- closing a session that a step changed closes it
pub closed_twice : (k : ℕ) (a : Acting) (f g h : Sessions) → ((n : ℕ) → g n ≡ at k a f n) → ((n : ℕ) → h n ≡ at k closed_session g n) → (n : ℕ) → h n ≡ at k closed_session f n
closed_twice k a f g h first second n = second n ∙ on (cases_eq n k)
  where
    on : (n ≡ k) ⊎ (n ≢ k) → at k closed_session g n ≡ at k closed_session f n
    on (inl e) = at_same k closed_session g n e ∙ sym (at_same k closed_session f n e)
    on (inr ne) = at_other k closed_session g n ne ∙ first n ∙ at_other k a f n ne ∙ sym (at_other k closed_session f n ne)

-- the sessions of a world in which one is this one then
pub has_at : (k : ℕ) (a : Acting) (world new : World) → Has k a world new → (n : ℕ) → session_at new.sessions n ≡ at k a (session_at world.sessions) n
has_at k a world new is n = changed_at k _ world.sessions new.sessions is.session_is n ∙ ap (λ z. at k z (session_at world.sessions) n) is.session_is.does

-- what holds of a world in which a session is closed then
closed_holds : (n : ℕ) (lines : List Line) (k : ℕ) (world new : World) (t : CloudState) → CloudHolds n lines (session_at world.sessions) world.audit world.blind t
    → Has k closed_session world new → CloudHolds n lines (session_at new.sessions) new.audit new.blind t
closed_holds n lines k world new t h is = subst (λ a. At a new.blind) (sym is.audit) (subst (At world.audit) (sym is.blind) (holds_same n lines (at k closed_session g) (session_at new.sessions) world.audit world.blind t (has_at k closed_session world new is) own))
  where
    g : Sessions
    g = session_at world.sessions

    At : Audited → Bool → Type 0
    At a b = CloudHolds n lines (session_at new.sessions) a b t

    own : CloudHolds n lines (at k closed_session g) world.audit world.blind t
    own = record {
      book = h.book;
      order = h.order;
      stand = crash_keeps h.book h.order t g k h.stand;
      cloud = h.cloud;
      seen = h.seen;
      reported = h.reported;
      landed = landed_set lines k g closed_session t tt h.landed;
    }

dies_done : (lines : List Line) (k n : ℕ) (r : Reply) (before after : Seen) (old new : World) (t : CloudState) → length lines + 1 ≡ n → 1 ≤ k
    → before.state ≡ Some t → LinesStand lines old t → DiesDone (record { session = k; event = n }) (span_of before after old new) (Ok r) → LineLeaves (lines ++ line_of (event.Crash k true) r ∷ []) new after r
dies_done lines k n r before after old new t at_n some told stands h =
    let is : r ≡ reply.Crashed = cc (h.replies) in
    let P : Reply → Type 0 = λ z. LineLeaves (lines ++ line_of (event.Crash k true) z ∷ []) new after z in
    subst P (sym is) (through lines (event.Crash k true) reply.Crashed after new s.state s.told (closed_holds (length lines + 1) lines k h.world new s.state s.holds h.closes) acts rests
    (not_begun (event.Crash k true) reply.Crashed (session_at new.sessions) (λ e. cc (e))) tt)
  where
    who : Caller
    who = record { session = k; event = n }

    way : IsUnderWay lines old before
    way = way_begins lines before old t told stands

    f : Sessions
    f = session_at old.sessions

    s : IsStepped lines h.world after
    s = stepped lines who Plain before after old h.world h.turn (sym at_n) way h.steps

    acts : AllActWith lines (line_of (event.Crash k true) reply.Crashed) (session_at new.sessions)
    acts m =
        subst (λ z. ActsAs z (after_line m (standing lines m) (line_of (event.Crash k true) reply.Crashed)))
        (sym (closed_twice k h.steps.session.after f (session_at h.world.sessions) (session_at new.sessions) (sessions_after lines who Plain before after old h.world h.turn (sym at_n) way h.steps) (has_at k closed_session h.world new h.closes) m))
        (own_line lines k (event.Crash k true) reply.Crashed f closed_session refl way.goes.acts (crashed_own k true (standing lines k)) m)

    rests : SettlerRests (session_at new.sessions)
    rests =
        changed_rests k _ h.world.sessions new.sessions some h.closes.session_is
        (changed_rests k _ old.sessions h.world.sessions some h.steps.session stands.rests)

pub crashes : (lines : List Line) (k n : ℕ) (done : Bool) (r : Reply) (before after : Seen) (old new : World) (t : CloudState) → length lines + 1 ≡ n → 1 ≤ k
    → before.state ≡ Some t → LinesStand lines old t → Crashes (record { session = k; event = n }) done (span_of before after old new) (Ok r) → LineLeaves (lines ++ line_of (event.Crash k done) r ∷ []) new after r
crashes lines k n false r before after old new t at some told stands h = dies lines k false r before after old new t some told stands h
crashes lines k n true r before after old new t at some told stands (inl idle) = dies lines k true r before after old new t some told stands idle.dies
crashes lines k n true r before after old new t at some told stands (inr (inl done)) = dies_done lines k n r before after old new t at some told stands done
crashes lines k n true r before after old new t at some told stands (inr (inr memory)) = absurd (no_memory r memory.0)

-- ---- the settler

-- the reply to its answer is no report
pub errand_plain : (errand : Errand) (a : Answer) (r : Reply) → RepliesFor errand a (Ok r) → IsNoReport r
errand_plain errand a r e = errand_is IsNoReport (λ calls. tt) (λ k some. tt) (λ kept removed. tt) (λ k some. tt) errand a r e

-- the settler is under way within its line, which is one of these lines from its begin on, and the other sessions rest
pub record SettlerGoes (errand : Errand) (n : ℕ) (lines : List Line) (first : Sessions) (world : World) (seen : Seen) : Type 0 where
  pub state : CloudState
  pub told : seen.state ≡ Some state
  pub holds : CloudHolds n lines (session_at world.sessions) world.audit world.blind state
  pub works : WorksOn errand (session_at world.sessions 0).work
  pub others : (m : ℕ) → m ≢ 0 → session_at world.sessions m ≡ first m

-- what a step of it leaves
record SettlerLeft (n : ℕ) (lines : List Line) (first : Sessions) (world : World) (seen : Seen) : Type 0 where
  state : CloudState
  told : seen.state ≡ Some state
  holds : CloudHolds n lines (session_at world.sessions) world.audit world.blind state
  others : (m : ℕ) → m ≢ 0 → session_at world.sessions m ≡ first m

abbrev pub settler : ℕ → Caller
settler n = record { session = 0; event = n }

module _ (errand : Errand) (n : ℕ) (lines : List Line) (first : Sessions) (row : AreRowsOf errand lines (settler n)) (before after : Seen) (old new : World) (turn : Turn Answer)
    (way : SettlerGoes errand n lines first old before) (p : StepsLooked (settler n) Plain (span_of before after old new) turn) where
  abbrev held : Sessions
  held = session_at old.sessions

  abbrev with_wish : CloudState
  with_wish = record way.state { wish = Plain }

  settler_was : held 0 ≡ p.session.before
  settler_was = changed_was 0 _ old.sessions new.sessions p.session

  pub settler_own : StepsSession (settler n) p.under p.to (held 0) p.session.after (Ok turn)
  settler_own = subst (λ a. StepsSession (settler n) p.under p.to a p.session.after (Ok turn)) (sym settler_was) p.session.does

  pub settler_call : CallLeavesUpto n lines p.to (at 0 p.session.after held) new.audit new.blind
  settler_call =
      errand_holds errand n lines (settler n) p.under p.to with_wish held p.session.after turn old.audit new.audit old.blind new.blind (omega arith)
      (p.wishes.set way.state (p.look_before.stays way.state way.told)) (wish_holds n lines held old.audit old.blind way.state Plain way.holds) way.works row settler_own
      (record {
        saw = p.saw;
        audit = λ e y to. p.audit e way.state y way.told to ∙ ap (λ (a : Acting). audited (newest way.state) (newest y) a.work old.audit) (sym settler_was);
      })

  settler_left : SettlerLeft n lines first new after
  settler_left = record {
    state = settler_call.state;
    told = p.look_after.stays settler_call.state settler_call.told;
    holds = holds_same n lines (at 0 p.session.after held) (session_at new.sessions) new.audit new.blind settler_call.state
        (changed_at 0 _ old.sessions new.sessions p.session) settler_call.holds;
    others = λ m ne. changed_at 0 _ old.sessions new.sessions p.session m ∙ at_other 0 p.session.after held m ne ∙ way.others m ne;
  }

settler_more : (errand : Errand) (n : ℕ) (lines : List Line) (first : Sessions) → AreRowsOf errand lines (settler n) → (before after : Seen) (old new : World)
    → SettlerGoes errand n lines first old before → StepsLooked (settler n) Plain (span_of before after old new) More → SettlerGoes errand n lines first new after
settler_more errand n lines first row before after old new way p =
    let left = settler_left errand n lines first row before after old new More way p in
    let own = settler_own errand n lines first row before after old new More way p in
    record {
      state = left.state;
      told = left.told;
      holds = left.holds;
      works = subst (λ (a : Acting). WorksOn errand a.work) (sym (changed_at 0 _ old.sessions new.sessions p.session 0 ∙ at_same 0 p.session.after (session_at old.sessions) 0 refl))
          (errand_goes errand (settler n) p.under p.to (session_at old.sessions 0).work p.session.after.work own.work way.works);
      others = left.others;
    }

pub settler_went : (errand : Errand) (n : ℕ) (lines : List Line) (first : Sessions) → AreRowsOf errand lines (settler n) → (before : Seen) (old : World) (after : Seen) (new : World)
    → SettlerGoes errand n lines first old before → Went (settler n) before old after new → SettlerGoes errand n lines first new after
settler_went errand n lines first row before old after new way start = way
settler_went errand n lines first row before old after new way (further mid _ world _ went step) =
    settler_more errand n lines first row mid after world new (settler_went errand n lines first row before old mid world way went) step

-- what the settler has in hand is no commit
no_commit : (errand : Errand) → IsBehind (session_for errand).work → ⊥
no_commit settles behind = behind
no_commit (sweeps tree) behind = behind

module _ (errand : Errand) (right : IsRightErrand errand) (lines : List Line) (n : ℕ) (before : Seen) (old begun : World) (t : CloudState)
    (number : n ≡ length lines + 1) (told : before.state ≡ Some t) (stands : LinesStand lines old t) (begins : Has 0 (session_for errand) old begun) where
  abbrev before_it : Sessions
  before_it = session_at old.sessions

  -- a settler at rest stands as the lines say of it
  rests_as : ActsAs closed_session (standing lines 0)
  rests_as = subst (λ a. ActsAs a (standing lines 0)) stands.rests (stands.acts 0)

  begun_holds : CloudHolds (length lines + 1) lines (session_at begun.sessions) begun.audit begun.blind t
  begun_holds = subst (λ a. At a begun.blind) (sym begins.audit) (subst (At old.audit) (sym begins.blind) (holds_same (length lines + 1) lines (at 0 (session_for errand) before_it) (session_at begun.sessions) old.audit old.blind t (has_at 0 (session_for errand) old begun begins) own))
    where
      At : Audited → Bool → Type 0
      At a b = CloudHolds (length lines + 1) lines (session_at begun.sessions) a b t

      own : CloudHolds (length lines + 1) lines (at 0 (session_for errand) before_it) old.audit old.blind t
      own =
          begins_with lines before_it (at 0 (session_for errand) before_it) old.audit old.blind t stands.holds
          (begins_errand errand right stands.holds.book stands.holds.order t before_it 0 stands.rests stands.holds.stand)
          (landed_set lines 0 before_it (session_for errand) t (if_behind (IsOfCommit lines 0) t (session_for errand).work (λ behind. absurd (no_commit errand behind))) stands.holds.landed)

  pub settler_begins : (r : Reply) → IsNoReport r → SettlerGoes errand n (lines ++ line_of (event_for errand) r ∷ []) before_it begun before
  settler_begins r plain = record {
    state = t;
    told = told;
    holds = subst (λ k. CloudHolds k (lines ++ line_of (event_for errand) r ∷ []) (session_at begun.sessions) begun.audit begun.blind t) (sym number)
        (errand_begins errand lines r (session_at begun.sessions) begun.audit begun.blind t (λ order. no_report_front order r plain) begun_holds);
    works = subst (λ (a : Acting). WorksOn errand a.work) (sym (has_at 0 (session_for errand) old begun begins 0 ∙ at_same 0 (session_for errand) before_it 0 refl)) (works_first errand);
    others = λ m ne. has_at 0 (session_for errand) old begun begins m ∙ at_other 0 (session_for errand) before_it m ne;
  }

  settler_ends : (after : Seen) (new : World) (r : Reply) → SettlesTo errand (settler n) (span_of before after begun new) (Ok r)
      → LineLeaves (lines ++ line_of (event_for errand) r ∷ []) new after r
  settler_ends after new r h = record {
    after = s.state;
    told = s.told;
    stands = errand_ends errand lines r (session_at new.sessions) new.audit new.blind s.state
        (subst (λ k. CloudHolds k all (session_at new.sessions) new.audit new.blind s.state) number (closed_holds n all 0 h.left new s.state s.holds h.closes)) acts rests;
    right = no_report_right all s.state r plain;
    left = no_report_left s.state r plain;
  }
    where
      all : List Line
      all = lines ++ line_of (event_for errand) r ∷ []

      plain : IsNoReport r
      plain = errand_plain errand h.answer r h.replies

      row : AreRowsOf errand all (settler n)
      row = errand_row errand lines r (settler n) refl number

      way : SettlerGoes errand n all before_it h.comes.world h.comes.mid
      way = settler_went errand n all before_it row before begun h.comes.mid h.comes.world (settler_begins r plain) h.comes.went

      s : SettlerLeft n all before_it h.left after
      s = settler_left errand n all before_it row h.comes.mid after h.comes.world h.left (Ended h.answer) way h.comes.steps

      rests : SettlerRests (session_at new.sessions)
      rests = has_at 0 closed_session h.left new h.closes 0 ∙ at_same 0 closed_session (session_at h.left.sessions) 0 refl

      acts : AllAct lines (session_at new.sessions)
      acts m = on (cases_eq m 0)
        where
          on : (m ≡ 0) ⊎ (m ≢ 0) → ActsAs (session_at new.sessions m) (standing lines m)
          on (inl e) = subst (λ j. ActsAs (session_at new.sessions j) (standing lines j)) (sym e) (subst (λ a. ActsAs a (standing lines 0)) (sym rests) rests_as)
          on (inr ne) =
              subst (λ a. ActsAs a (standing lines m))
              (sym (has_at 0 closed_session h.left new h.closes m ∙ at_other 0 closed_session (session_at h.left.sessions) m ne ∙ s.others m ne)) (stands.acts m)

  settler_on : (after : Seen) (new : World) (r : Reply) → SettlesOn errand (settler n) (span_of before after begun new) (Ok r)
      → LineLeaves (lines ++ line_of (event_for errand) r ∷ []) new after r
  settler_on after new r (inl h) = settler_ends after new r h
  settler_on after new r (inr memory) = absurd (no_memory r memory.0)

pub goes_errand : (errand : Errand) → IsRightErrand errand → (lines : List Line) (n : ℕ) (r : Reply) (before after : Seen) (old new : World) (t : CloudState) → length lines + 1 ≡ n → before.state ≡ Some t → LinesStand lines old t
    → Settles errand n (span_of before after old new) (Ok r) → LineLeaves (lines ++ line_of (event_for errand) r ∷ []) new after r
goes_errand errand right lines n r before after old new t at told stands (inl h) = settler_on errand right lines n before old h.begun t (sym at) told stands h.begins after new r h.settles
goes_errand errand right lines n r before after old new t at told stands (inr memory) = absurd (no_memory r memory.0)

-- ---- a session's ledger

-- a world of which nothing changed but what is kept for the choice of checkpoints
pub same_but_notes : (P : List Acting → Audited → Bool → Type 0) (old new : World) → new.sessions ≡ old.sessions → new.audit ≡ old.audit → new.blind ≡ old.blind
    → P old.sessions old.audit old.blind → P new.sessions new.audit new.blind
same_but_notes P old new s a b h =
    subst (λ z. P z new.audit new.blind) (sym s) (subst (λ z. P old.sessions z new.blind) (sym a) (subst (P old.sessions old.audit) (sym b) h))

gives_ledger : (lines : List Line) (k number : ℕ) (role : Role) (r : Reply) (before after : Seen) (old new : World) (t : CloudState)
    → before.state ≡ Some t → LinesStand lines old t → GivesLedger k role number (span_of before after old new) (Ok r) → LineLeaves (lines ++ line_of (event.Policy k role number) r ∷ []) new after r
gives_ledger lines k number role r before after old new t told stands g =
    let is : r ≡ reply.Noted = cc (g.replies) in
    let P : Reply → Type 0 = λ z. LineLeaves (lines ++ line_of (event.Policy k role number) z ∷ []) new after z in
    subst P (sym is) (through lines (event.Policy k role number) reply.Noted after new t (ap (λ (z : Seen). z.state) g.quiet.seen ∙ told)
    (same_but_notes (λ s a b. CloudHolds (length lines + 1) lines (session_at s) a b t) old new g.sessions g.quiet.audit g.quiet.blind
    (begins_line lines (session_at old.sessions) old.audit old.blind t stands).holds)
    (still_line lines (event.Policy k role number) reply.Noted (session_at new.sessions) (λ s. refl) (subst (λ z. AllAct lines (session_at z)) (sym g.sessions) stands.acts))
    (subst (λ z. SettlerRests (session_at z)) (sym g.sessions) stands.rests) (not_begun (event.Policy k role number) reply.Noted (session_at new.sessions) (λ e. cc (e))) tt)

pub policies : (lines : List Line) (k number : ℕ) (role : Role) (r : Reply) (before after : Seen) (old new : World) (t : CloudState)
    → before.state ≡ Some t → LinesStand lines old t → Policies k role number (span_of before after old new) (Ok r) → LineLeaves (lines ++ line_of (event.Policy k role number) r ∷ []) new after r
policies lines k number role r before after old new t told stands (inl refuses) =
    declines lines (event.Policy k role number) r _ before after old new t refuses.declines told stands
policies lines k number role r before after old new t told stands (inr (inl refuses)) =
    declines lines (event.Policy k role number) r _ before after old new t refuses.1.declines told stands
policies lines k number role r before after old new t told stands (inr (inr gives)) = gives_ledger lines k number role r before after old new t told stands gives

-- ---- waits

pub end_later : (now ticks after : ℕ) → now ≤ greatest → end_after now ticks ≤ after → now ≤ after
end_later now ticks after within later = omega arith

pub waits : (lines : List Line) (ticks : ℕ) (r : Reply) (before after : Seen) (old new : World) (t : CloudState) → before.state ≡ Some t → LinesStand lines old t
    → (WaitsFor ticks before after (Ok r) × (new ≡ old)) ⊎ WaitsTooLong ticks (span_of before after old new) (Ok r) → LineLeaves (lines ++ line_of (event.Wait ticks) r ∷ []) new after r
waits lines ticks r before after old new t told stands (inl h) =
    let is : r ≡ reply.Waited = cc (h.0.replies) in
    let w = h.0.waited t told in
    let P : Reply → Type 0 = λ z. LineLeaves (lines ++ line_of (event.Wait ticks) z ∷ []) new after z in
    let S : CloudState → Type 0 = λ u. CloudHolds (length lines + 1) lines (session_at new.sessions) new.audit new.blind u in
    let later : t.now ≤ w.after.now = end_later t.now ticks w.after.now (h.0.clock t told) w.later in
    subst P (sym is) (through lines (event.Wait ticks) reply.Waited after new w.after w.told
    (subst S (sym w.rest) (wait_holds (length lines + 1) lines (session_at new.sessions) new.audit new.blind t w.after.now _ later (world_holds lines old new t h.1 stands)))
    (still_line lines (event.Wait ticks) reply.Waited (session_at new.sessions) (λ s. refl) (world_acts lines old new t h.1 stands))
    (world_rests lines old new t h.1 stands) (not_begun (event.Wait ticks) reply.Waited (session_at new.sessions) (λ e. cc (e))) tt)
waits lines ticks r before after old new t told stands (inr long) = declines lines (event.Wait ticks) r _ before after old new t long.declines told stands

-- ---- reports

left_of : (tree : ℕ) (audit : Audited) (s : Option CloudState) (t : CloudState) (r : ReportShown) → Shows tree s audit r → s ≡ Some t → IsLeft t r
left_of tree audit s t r shows told =
    let is : tree ≡ r.tree = sym shows.tree_is in
    record {
      heads = shows.heads t told ∙ ap (λ es. heads_upto t tree es 64) (sym shows.committed) ∙ ap (λ k. heads_upto t k r.committed 64) is;
      messages = subst (λ k. AreWaiting t k r.messages) is (shows.messages t told);
    }

shown_of : (tree : ℕ) (audit : Audited) (s : Option CloudState) (t : CloudState) (r : ReportShown) → Shows tree s audit r → s ≡ Some t → ShowsTree tree t audit r
shown_of tree audit s t r shows told = record {
  tree_is = shows.tree_is;
  committed = shows.committed;
  order = shows.order;
  contents = shows.contents t told;
  heads = shows.heads t told;
  messages = shows.messages t told;
}

report_shown : (lines : List Line) (tree : ℕ) (r : ReportShown) (before after : Seen) (world : World) (t : CloudState)
    → before.state ≡ Some t → after.state ≡ Some t → LinesStand lines world t → IsTree tree → world.blind ≡ false → Shows tree before.state world.audit r
    → LineLeaves (lines ++ line_of (event.Report tree) (reply.Report r) ∷ []) world after (reply.Report r)
report_shown lines tree r before after world t told still stands is sees shows = record {
  after = t;
  told = still;
  stands = stood;
  right = report_right (lines ++ line ∷ []) tree (session_at world.sessions) world.audit t r (subst (λ b. Stands (lines ++ line ∷ []) (session_at world.sessions) world.audit b t) sees stood)
      is (shown_of tree world.audit before.state t r shows told);
  left = left_of tree world.audit before.state t r shows told;
}
  where
    line : Line
    line = line_of (event.Report tree) (reply.Report r)

    h : CloudHolds (length lines + 1) lines (session_at world.sessions) world.audit world.blind t
    h = (begins_line lines (session_at world.sessions) world.audit world.blind t stands).holds

    front : IsFrontOf h.order (reply.Report r)
    front =
        begins_same r.order (of_tree r.tree h.order)
        (ap (λ k. of_tree k h.order) shows.tree_is ∙ ap (λ (a : Audited). of_tree tree a.order) (sym (h.seen sees)) ∙ sym shows.order)

    stood : LinesStand (lines ++ line ∷ []) world t
    stood =
        line_through lines line (session_at world.sessions) world.audit world.blind t h
        (still_line lines (event.Report tree) (reply.Report r) (session_at world.sessions) (λ s. refl) stands.acts) stands.rests
        (not_begun (event.Report tree) (reply.Report r) (session_at world.sessions) (λ e. cc (e))) front

pub reports : (lines : List Line) (tree : ℕ) (r : Reply) (before after : Seen) (old new : World) (t : CloudState) → before.state ≡ Some t → LinesStand lines old t
    → Reports tree (span_of before after old new) (Ok r) → LineLeaves (lines ++ line_of (event.Report tree) r ∷ []) new after r
reports lines tree (reply.Report r) before after old new t told stands h =
    let P : World → Type 0 = λ w. LineLeaves (lines ++ line_of (event.Report tree) (reply.Report r) ∷ []) w after (reply.Report r) in
    subst P (sym h.world) (report_shown lines tree r before after old t told (h.looked.stays t told) stands h.reply.0 h.reply.1 h.reply.2)
reports lines tree (reply.Trouble trouble) before after old new t told stands h =
    through lines (event.Report tree) (reply.Trouble trouble) after new t (h.looked.stays t told) (world_holds lines old new t h.world stands)
    (still_line lines (event.Report tree) (reply.Trouble trouble) (session_at new.sessions) (λ s. refl) (world_acts lines old new t h.world stands)) (world_rests lines old new t h.world stands)
    (not_begun (event.Report tree) (reply.Trouble trouble) (session_at new.sessions) (λ e. cc (e))) tt
reports lines tree (reply.Refused rule) before after old new t told stands h =
    through lines (event.Report tree) (reply.Refused rule) after new t (h.looked.stays t told) (world_holds lines old new t h.world stands)
    (still_line lines (event.Report tree) (reply.Refused rule) (session_at new.sessions) (λ s. refl) (world_acts lines old new t h.world stands)) (world_rests lines old new t h.world stands)
    (not_begun (event.Report tree) (reply.Refused rule) (session_at new.sessions) (λ e. cc (e))) tt
reports lines tree r before after old new t told stands h = absurd h.reply
