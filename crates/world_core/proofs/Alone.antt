-- A session that is alone finds its locks free in each line that leaves it alone, and is alone behind it.
use Rattle.std.proofs.Common.{◌≡◌, inl, inr, ℕ, List, Some, Result, Ok, Err, refl, sym, ap, subst, ◌∙◌}
use Rattle.ckpt_policy.specs.declared.role.Role.{Role}
use Rattle.client_work.specs.declared.answer.Answer.{Answer}
use Rattle.client_work.specs.declared.answer.Begun.TheVariants.{Working}
use Rattle.client_work.specs.declared.op.Op.TheVariants as op
use Rattle.client_work.specs.Session.{Acting}
use Rattle.cloud_facts.proofs.Book.Names.{at_same}
use Rattle.cloud_facts.specs.Words.{QueueName, Turn, CloudState, Caller, Seen, Claim}
use Rattle.cloud_trait.specs.Weather.{counted, Leaves}
use Rattle.db_base.specs.declared.refusal.Refused.{Refused}
use Rattle.db_base.specs.declared.wish.Wish.{Wish}
use Rattle.event_text.specs.declared.event.Event.{Event}
use Rattle.event_text.specs.declared.event.Event.TheVariants as event
use Rattle.replay_meaning.specs.Standing.{Line}
use Rattle.reply_text.specs.declared.reply.Reply.{Reply}
use Rattle.session_facts.proofs.Sessions.Alone.{session_alone}
use Rattle.session_facts.proofs.Sessions.AloneLeases.{begun_leases}
use Rattle.session_facts.proofs.Settling.Locks.{same_alone}
use Rattle.session_facts.proofs.Lines.Outcome.{MadeCall, made_call, wish_holds}
use Rattle.session_facts.specs.Lines.Facts.{session_at, CloudHolds}
use Rattle.session_facts.specs.Sessions.Alone.{IsAlone}
use Rattle.session_facts.specs.Sessions.Knows.{SessionsStand, leases_of}
use Rattle.session_facts.specs.Settling.Locks.{HoldsAlone}
use Rattle.world_core.proofs.EachHeld.{each_held}
use Rattle.world_core.proofs.StandsLemmas.{changed_at, changed_was, end_later, no_memory}
use Rattle.world_core.specs.Alone.{IsAloneIn, KeepsAlone, LeavesAlone, StepIsUndisturbed}
use Rattle.world_core.specs.Asked.{Asks, IsFolding, IsLookingUp, IsNoted, IsOpening, IsPaging, IsReading, IsScanning, IsStep, OfSession, noting_of}
use Rattle.world_core.specs.Calm.{StepIsCalm, work_at}
use Rattle.world_core.specs.EachStep.{EachAsked, EachCome, EachDone, EachMade, EachRun, EachThrough, EachWent, EachWork, StepFact}
use Rattle.world_core.specs.Handled.{Answers, BeginsCheckpoint, BeginsOp, ComesTo, Declines, Does, DropsChanges, MakesStep, NotesChange, Policies, Runs, StepsLooked, Went, Works, WorksThrough, checkpoint_more, checkpoint_of, further, no_checkpoint, start, gone_through}
use Rattle.world_core.specs.Sessions.{AbortsIn, Changes, NotesIn}
use Rattle.world_core.specs.World.{World}
use Rattle.world_core.specs.declared.asked.Asked.{Asked}
use Rattle.world_core.specs.declared.asked.Asked.TheVariants.{Session, Wait, Report, Settle, Sweep}
use Rattle.world_core.specs.declared.asked.Noting.{Noting}
use Rattle.world_core.specs.declared.asked.Request.{Request}
use Rattle.world_core.specs.declared.asked.Request.TheVariants.{Begin, Note, Abort, Policy, Work as WorksDue, Step, Run, Crash}
use Rattle.world_core.specs.declared.world.WorldFault.{WorldFault}
use Rattle.world_core.specs.Span.{span_of}

state_is : (x y : CloudState) → Some x ≡ Some y → x ≡ y
state_is x y e = cc (e)

-- over a told cloud a session is alone
pub record IsAloneSeen (session : ℕ) (world : World) (seen : Seen) : Type 0 where
  pub state : CloudState
  pub told : seen.state ≡ Some state
  pub alone : IsAloneIn session world state

-- ---- one step

-- a step that was undisturbed is calm where its session was alone, and leaves it so
abbrev StepGoesAlone : StepFact
StepGoesAlone who wish span turn p =
    IsAloneSeen who.session span.old span.before → StepIsUndisturbed who wish span turn p → StepIsCalm who wish span turn p × IsAloneSeen who.session span.new span.after

step_alone : (n : ℕ) (lines : List Line) (who : Caller) (wish : Wish) (before after : Seen) (old new : World) (turn : Turn Answer) (x : CloudState)
    → CloudHolds n lines (session_at old.sessions) old.audit old.blind x → (p : StepsLooked who wish (span_of before after old new) turn) → p.under.state ≡ Some (record x { wish = wish })
    → StepGoesAlone who wish (span_of before after old new) turn p
step_alone n lines who wish before after old new turn x holds p under h undisturbed = (
  both.0,
  record {
    state = left.after;
    told = p.look_after.stays left.after left.told;
    alone = subst (λ (a : Acting). IsAlone a.work left.after) (sym own_is) both.1;
  },
)
  where
    told : p.under.state ≡ Some (record h.state { wish = wish })
    told = p.wishes.set h.state (p.look_before.stays h.state h.told)

    made : MadeCall who p.under p.to p.session.before.work
    made = made_call who p.under p.to p.session.before.work p.session.after.work turn p.session.does.work

    left : Leaves who made.ask made.answer (counted p.under.counts (record h.state { wish = wish })) p.to.counts p.to.state
    left = made.made.state (record h.state { wish = wish }) told

    held : CloudHolds n lines (session_at old.sessions) old.audit old.blind (record x { wish = wish })
    held = wish_holds n lines (session_at old.sessions) old.audit old.blind x wish holds

    stand : SessionsStand held.book held.order (record h.state { wish = wish }) (session_at old.sessions)
    stand = subst (λ (y : CloudState). SessionsStand held.book held.order y (session_at old.sessions)) (state_is (record x { wish = wish }) (record h.state { wish = wish }) (sym under ∙ told)) held.stand

    own_was : session_at old.sessions who.session ≡ p.session.before
    own_was = changed_was who.session _ old.sessions new.sessions p.session

    own_is : session_at new.sessions who.session ≡ p.session.after
    own_is = changed_at who.session _ old.sessions new.sessions p.session who.session ∙ at_same who.session p.session.after (session_at old.sessions) who.session refl

    alone : IsAlone p.session.before.work (record h.state { wish = wish })
    alone = subst (λ (a : Acting). IsAlone a.work h.state) own_was h.alone

    both : StepIsCalm who wish (span_of before after old new) turn p × IsAlone p.session.after.work left.after
    both =
        session_alone who p.under p.to (record h.state { wish = wish }) left.after held.book held.order (session_at old.sessions) told left.told stand p.session.before p.session.after turn own_was p.session.does alone
        undisturbed

-- ---- steps

module _ (who : Caller) where
  went_alone : (before : Seen) (old : World) (after : Seen) (new : World) → (went : Went who before old after new) → EachWent StepGoesAlone went
      → EachWent StepIsUndisturbed went → IsAloneSeen who.session old before → EachWent StepIsCalm went × IsAloneSeen who.session new after
  went_alone before old after new start goes undisturbed h = (tt, h)
  went_alone before old after new (further mid _ world _ went step) goes undisturbed h =
      let first = went_alone before old mid world went goes.0 undisturbed.0 h in
      let last = goes.1 first.1 undisturbed.1 in
      ((first.0, last.0), last.1)

  comes_alone : (before after : Seen) (old new : World) (a : Answer) → (comes : ComesTo who (span_of before after old new) a) → EachCome StepGoesAlone who (span_of before after old new) a comes
      → EachCome StepIsUndisturbed who (span_of before after old new) a comes → IsAloneSeen who.session old before
      → EachCome StepIsCalm who (span_of before after old new) a comes × IsAloneSeen who.session new after
  comes_alone before after old new a comes goes undisturbed h =
      let first = went_alone before old comes.mid comes.world comes.went goes.0 undisturbed.0 h in
      let last = goes.1 first.1 undisturbed.1 in
      ((first.0, last.0), last.1)

  -- a checkpoint that begins has the leases of its session
  begun_alone : (queue : QueueName) (seen : Seen) (old begun : World) → BeginsCheckpoint who.session queue old begun → IsAloneSeen who.session old seen → IsAloneSeen who.session begun seen
  begun_alone queue seen old begun b h = record {
    state = h.state;
    told = h.told;
    alone = subst (λ (a : Acting). IsAlone a.work h.state)
        (sym (changed_at who.session _ old.sessions begun.sessions b.session who.session ∙ at_same who.session b.session.after (session_at old.sessions) who.session refl))
        (subst (λ (held : List Claim). HoldsAlone held h.state) (sym (begun_leases b.session.before b.session.after (checkpoint_of queue) (Ok Working) b.session.does))
        (subst (λ (a : Acting). IsAlone a.work h.state) (changed_was who.session _ old.sessions begun.sessions b.session) h.alone));
  }

  works_alone : (before : Seen) (old : World) (queues : List QueueName) (done passed : ℕ) (after : Seen) (new : World) → (works : Works who before old (gone_through queues done passed) after new)
      → EachWork StepGoesAlone works → EachWork StepIsUndisturbed works
      → IsAloneSeen who.session old before → EachWork StepIsCalm works × IsAloneSeen who.session new after
  works_alone before old queues done passed after new no_checkpoint goes undisturbed h = (tt, h)
  works_alone before old queues done passed after new (checkpoint_more others kept left mid world queue a _ _ works makes passes) goes undisturbed h =
      let first = works_alone before old others kept left mid world works goes.0 undisturbed.0 h in
      let last = comes_alone mid after makes.begun new a makes.comes goes.1 undisturbed.1 (begun_alone queue mid world makes.begun makes.begins first.1) in
      ((first.0, last.0), last.1)

-- ---- what a line asks

-- a request is no crash
abbrev IsNoCrash : Request → Type 0
IsNoCrash (Crash done) = ⊥
IsNoCrash request = Unit {0}

-- what a line asks that leaves the session alone
abbrev AsksAlone : ℕ → Asked → Type 0
AsksAlone session (Session j (Ok request)) = (j ≡ session) × IsNoCrash request
AsksAlone session (Session j (Err why)) = Unit {0}
AsksAlone session (Wait ticks) = Unit {0}
AsksAlone session (Report tree) = Unit {0}
AsksAlone session Settle = ⊥
AsksAlone session (Sweep tree) = ⊥

module _ (n session : ℕ) (before after : Seen) (old new : World) (r : Reply) (h : IsAloneSeen session old before) where
  abbrev result : Result Reply WorldFault
  result = Ok r

  abbrev who : Caller
  who = record { session = session; event = n }

  abbrev Left : Type 0
  Left = IsAloneSeen session new after

  -- no call is made, and the session has the leases that it had
  with_leases : after ≡ before → leases_of (work_at new session) ≡ leases_of (work_at old session) → Left
  with_leases seen same = record {
    state = h.state;
    told = ap (λ (x : Seen). x.state) seen ∙ h.told;
    alone = subst (λ (held : List Claim). HoldsAlone held h.state) (sym same) h.alone;
  }

  unchanged : after ≡ before → new ≡ old → Left
  unchanged seen world = with_leases seen (ap (λ (w : World). leases_of (work_at w session)) world)

  declined_alone : (why : Refused) → Declines why (span_of before after old new) result → Left
  declined_alone why d = unchanged d.seen d.world

  -- where the session alone changes
  changed_alone : (Does : Acting → Acting → Type 0) → after ≡ before → (c : Changes session Does old.sessions new.sessions) → leases_of c.after.work ≡ leases_of c.before.work → Left
  changed_alone Does seen c same =
      with_leases seen
      (ap (λ (a : Acting). leases_of a.work) (changed_at session Does old.sessions new.sessions c session ∙ at_same session c.after (session_at old.sessions) session refl)
      ∙ (same ∙ sym (ap (λ (a : Acting). leases_of a.work) (changed_was session Does old.sessions new.sessions c))))

  -- ---- lines that make no call

  noted_same : (noting : Noting) (a b : Acting) (noted : Result (Unit {0}) Refused) → NotesIn noting a b noted → leases_of b.work ≡ leases_of a.work
  noted_same noting a b (Ok done) p = ap (λ (x : Acting). leases_of x.work) p.0
  noted_same noting a b (Err why) p = ap (λ (x : Acting). leases_of x.work) p.0

  dropped_same : (a b : Acting) (dropped : Result (Unit {0}) Refused) → AbortsIn a b dropped → leases_of b.work ≡ leases_of a.work
  dropped_same a b (Ok done) p = ap (λ (x : Acting). leases_of x.work) p.0
  dropped_same a b (Err why) p = ap (λ (x : Acting). leases_of x.work) p.0

  policies_alone : (role : Role) (k : ℕ) → Policies session role k (span_of before after old new) result → Left
  policies_alone role k (inl refuses) = declined_alone _ refuses.declines
  policies_alone role k (inr (inl refuses)) = declined_alone _ refuses.1.declines
  policies_alone role k (inr (inr gives)) = with_leases gives.quiet.seen (ap (λ (l : List Acting). leases_of (session_at l session).work) gives.sessions)

  -- ---- steps, runs and work

  made_alone : (wish : Wish) (p : MakesStep (record { session = session; event = n }) wish (span_of before after old new) result) → EachMade StepGoesAlone (record { session = session; event = n }) wish (span_of before after old new) result p
      → EachMade StepIsUndisturbed (record { session = session; event = n }) wish (span_of before after old new) result p → EachMade StepIsCalm (record { session = session; event = n }) wish (span_of before after old new) result p × Left
  made_alone wish (inl refused) goes undisturbed = (tt, declined_alone _ refused.declines)
  made_alone wish (inr (inl made)) goes undisturbed = goes h undisturbed
  made_alone wish (inr (inr memory)) goes undisturbed = absurd (no_memory r memory.0)

  run_alone : (p : Runs (record { session = session; event = n }) (span_of before after old new) result) → EachRun StepGoesAlone (record { session = session; event = n }) (span_of before after old new) result p
      → EachRun StepIsUndisturbed (record { session = session; event = n }) (span_of before after old new) result p → EachRun StepIsCalm (record { session = session; event = n }) (span_of before after old new) result p × Left
  run_alone (inl refused) goes undisturbed = (tt, declined_alone _ refused.declines)
  run_alone (inr (inl run)) goes undisturbed = comes_alone who before after old new run.answer run.comes goes undisturbed h
  run_alone (inr (inr memory)) goes undisturbed = absurd (no_memory r memory.0)

  through_alone : (p : WorksThrough (record { session = session; event = n }) (span_of before after old new) result) → EachThrough StepGoesAlone (record { session = session; event = n }) (span_of before after old new) result p
      → EachThrough StepIsUndisturbed (record { session = session; event = n }) (span_of before after old new) result p → EachThrough StepIsCalm (record { session = session; event = n }) (span_of before after old new) result p × Left
  through_alone (inl refuses) goes undisturbed = (tt, declined_alone _ refuses.declines)
  through_alone (inr (inl d)) goes undisturbed = works_alone who before old d.queues d.done d.passed after new d.works goes undisturbed h
  through_alone (inr (inr memory)) goes undisturbed = absurd (no_memory r memory.0)

  -- ---- a request

  done_alone : (request : Request) → IsNoCrash request → (d : Does (record { session = session; event = n }) request (span_of before after old new) result) → EachDone StepGoesAlone (record { session = session; event = n }) request (span_of before after old new) result d
      → EachDone StepIsUndisturbed (record { session = session; event = n }) request (span_of before after old new) result d → EachDone StepIsCalm (record { session = session; event = n }) request (span_of before after old new) result d × Left
  done_alone (Step wish) plain d goes undisturbed = made_alone wish d goes undisturbed
  done_alone Run plain d goes undisturbed = run_alone d goes undisturbed
  done_alone WorksDue plain d goes undisturbed = through_alone d goes undisturbed
  done_alone (Policy role k) plain d goes undisturbed = (tt, policies_alone role k d)
  done_alone (Begin o) plain (quiet, c, book) goes undisturbed =
      (tt, changed_alone (BeginsOp o result) quiet.seen c (begun_leases c.before c.after o c.does.begun c.does.begins))
  done_alone (Note noting) plain (quiet, c, notes) goes undisturbed =
      (tt, changed_alone (NotesChange noting result) quiet.seen c (noted_same noting c.before c.after c.does.noted c.does.notes))
  done_alone Abort plain (quiet, c, notes) goes undisturbed = (tt, changed_alone (DropsChanges result) quiet.seen c (dropped_same c.before c.after c.does.dropped c.does.drops))
  done_alone (Crash done) never d goes undisturbed = absurd never

  abbrev Served : ℕ → Request → Type 0
  Served j request =
      (d : Does (record { session = j; event = n }) request (span_of before after old new) result) → EachDone StepGoesAlone (record { session = j; event = n }) request (span_of before after old new) result d → EachDone StepIsUndisturbed (record { session = j; event = n }) request (span_of before after old new) result d
      → EachDone StepIsCalm (record { session = j; event = n }) request (span_of before after old new) result d × Left

  asked_alone : (asked : Asked) → AsksAlone session asked → (a : Answers n asked (span_of before after old new) result) → EachAsked StepGoesAlone n asked (span_of before after old new) result a
      → EachAsked StepIsUndisturbed n asked (span_of before after old new) result a → EachAsked StepIsCalm n asked (span_of before after old new) result a × Left
  asked_alone (Session j (Ok request)) is (inl served) goes undisturbed =
      subst (λ (i : ℕ). Served i request) (sym is.0) (done_alone request is.1) served.1 goes undisturbed
  asked_alone (Session j (Err why)) is (inl served) goes undisturbed = (tt, declined_alone why served.1)
  asked_alone (Session j request) is (inr none) goes undisturbed = (tt, declined_alone _ none.declines)
  asked_alone (Wait ticks) is (inl waits) goes undisturbed =
      let w = waits.0.waited h.state h.told in (
        tt,
        record {
          state = w.after;
          told = w.told;
          alone = subst (λ (z : World). IsAloneIn session z w.after) (sym waits.1)
              (same_alone (leases_of (work_at old session)) h.state w.after (ap (λ (x : CloudState). x.locks) w.rest) (end_later h.state.now ticks w.after.now (waits.0.clock h.state h.told) w.later)
              h.alone);
        },
      )
  asked_alone (Wait ticks) is (inr long) goes undisturbed = (tt, declined_alone _ long.declines)
  asked_alone (Report tree) is reports goes undisturbed = (
    tt,
    record {
      state = h.state;
      told = reports.looked.stays h.state h.told;
      alone = subst (λ (w : World). IsAloneIn session w h.state) (sym reports.world) h.alone;
    },
  )
  asked_alone Settle never a goes undisturbed = absurd never
  asked_alone (Sweep tree) never a goes undisturbed = absurd never

-- ---- every line

module _ (session : ℕ) where
  -- a request of the session that is no crash
  of_session : (s : ℕ) (Is : Result Request Refused → Type 0) → ((request : Request) → Is (Ok request) → IsNoCrash request) → (asked : Asked)
      → OfSession s Is asked → s ≡ session → AsksAlone session asked
  of_session s Is plain (Session j (Ok request)) belongs own = (belongs.0 ∙ own, plain request belongs.1)
  of_session s Is plain (Session j (Err why)) belongs own = tt
  of_session s Is plain (Wait ticks) belongs own = absurd belongs
  of_session s Is plain (Report tree) belongs own = absurd belongs
  of_session s Is plain Settle belongs own = absurd belongs
  of_session s Is plain (Sweep tree) belongs own = absurd belongs

  same_request : (own request : Request) → IsNoCrash own → request ≡ own → IsNoCrash request
  same_request own request plain e = subst IsNoCrash (sym e) plain

  asked_so : (own request : Request) → IsNoCrash own
      → (let a : Result Request Refused = Ok request in let b : Result Request Refused = Ok own in a ≡ b) → IsNoCrash request
  asked_so own request plain e = same_request own request plain (cc (e))

  noted_no : (noting : Noting) (request : Request) → IsNoted noting (Ok request) → IsNoCrash request
  noted_no noting (Crash done) never = never
  noted_no noting (Note other) is = tt
  noted_no noting (Begin o) is = tt
  noted_no noting (Policy role k) is = tt
  noted_no noting WorksDue is = tt
  noted_no noting Abort is = tt
  noted_no noting (Step wish) is = tt
  noted_no noting Run is = tt

  leaves_it : (e : Event) (asked : Asked) → Asks e asked → LeavesAlone session e → AsksAlone session asked
  leaves_it (event.Open s client) asked asks own =
      of_session s (IsOpening client) (λ request is. same_request (Begin (op.Open client)) request tt is.1) asked asks own
  leaves_it (event.Close s) asked asks own = of_session s _ (λ request is. asked_so (Begin op.Close) request tt is) asked asks own
  leaves_it (event.Renew s) asked asks own = of_session s _ (λ request is. asked_so (Begin op.Renew) request tt is) asked asks own
  leaves_it (event.Commit s) asked asks own = of_session s _ (λ request is. asked_so (Begin op.Commit) request tt is) asked asks own
  leaves_it (event.Abort s) asked asks own = of_session s _ (λ request is. asked_so Abort request tt is) asked asks own
  leaves_it (event.Read s tree key) asked asks own = of_session s (IsReading tree key) (λ request is. same_request (Begin (op.Read tree key)) request tt is.2) asked asks own
  leaves_it (event.Scan s tree from to) asked asks own = of_session s (IsScanning tree from to) (λ request is. same_request _ request tt is.3) asked asks own
  leaves_it (event.Lookup s tree attr) asked asks own =
      of_session s (IsLookingUp tree attr) (λ request is. same_request (Begin (op.Lookup tree attr)) request tt is.2) asked asks own
  leaves_it (event.Page s tree page) asked asks own = of_session s (IsPaging tree page) (λ request is. same_request (Begin (op.Page tree page)) request tt is.2) asked asks own
  leaves_it (event.Tree s tree) asked asks own = of_session s (IsFolding tree) (λ request is. same_request (Begin (op.Tree tree)) request tt is.1) asked asks own
  leaves_it (event.Policy s role k) asked asks own = of_session s _ (λ request is. asked_so (Policy role k) request tt is) asked asks own
  leaves_it (event.Work s) asked asks own = of_session s _ (λ request is. asked_so WorksDue request tt is) asked asks own
  leaves_it (event.Run s) asked asks own = of_session s _ (λ request is. asked_so Run request tt is) asked asks own
  leaves_it (event.Step s wish) asked asks own = of_session s (IsStep wish) (λ request is. same_request (Step wish) request tt is) asked asks own
  leaves_it (event.Insert s tree key payload attr) asked asks own =
      of_session s _ (noted_no (noting_of (event.Insert s tree key payload attr))) asked asks own
  leaves_it (event.Put s tree key payload attr) asked asks own = of_session s _ (noted_no (noting_of (event.Put s tree key payload attr))) asked asks own
  leaves_it (event.Update s tree key payload) asked asks own = of_session s _ (noted_no (noting_of (event.Update s tree key payload))) asked asks own
  leaves_it (event.Delete s tree key) asked asks own = of_session s _ (noted_no (noting_of (event.Delete s tree key))) asked asks own
  leaves_it (event.Add s tree key amount) asked asks own = of_session s _ (noted_no (noting_of (event.Add s tree key amount))) asked asks own
  leaves_it (event.Wait ticks) asked asks own = subst (AsksAlone session) (sym asks) tt
  leaves_it (event.Report tree) asked asks own = subst (AsksAlone session) (sym asks) tt
  leaves_it event.Settle asked asks never = absurd never
  leaves_it (event.Sweep tree) asked asks never = absurd never
  leaves_it (event.Crash s done) asked asks never = absurd never

pub keeps_alone : (n : ℕ) (e : Event) (before after : Seen) (old new : World) (result : Result Reply WorldFault) → KeepsAlone n e (span_of before after old new) result
keeps_alone n e before after old new (Ok r) = λ lines t u number told told_after stands handled undisturbed session leaves alone.
    let h : IsAloneSeen session old before = record { state = t; told = told; alone = alone } in
    let both =
    asked_alone n session before after old new r h handled.asked (leaves_it session e handled.asked handled.asks leaves) handled.answers
    (each_held StepGoesAlone step_alone lines n handled.asked before after old new (Ok r) t number told stands.by_lines handled.answers) undisturbed in
    (subst (λ (x : CloudState). IsAloneIn session new x) (state_is both.1.state u (sym both.1.told ∙ told_after)) both.1.alone, both.0)
keeps_alone n e before after old new (Err fault) = tt
