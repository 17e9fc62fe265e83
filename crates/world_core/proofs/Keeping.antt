-- Behind each line some book stands, whatever lines led to the cloud before it.
use Rattle.std.proofs.Common.{◌≡◌, ◌≤◌, ◌⊎◌, ℕ, List, [], Some, Result, Ok, Err, length, refl, sym, ap, subst, ◌∙◌, inl, inr, Bool, true, false, arith}
use Rattle.client_work.specs.Session.{Acting, StepsSession, Begins, closed_session}
use Rattle.client_work.specs.declared.answer.Answer.{Answer}
use Rattle.client_work.specs.declared.answer.Begun.TheVariants.{Working}
use Rattle.client_work.specs.declared.op.Op.{Op}
use Rattle.client_work.specs.declared.op.Op.TheVariants as op
use Rattle.cloud_facts.proofs.Book.Names.{at_same}
use Rattle.cloud_facts.specs.Words.{QueueName, Entry, Turn, More, Ended, CloudState, Caller, Seen, Book, at}
use Rattle.cloud_trait.specs.Weather.{counted, Leaves}
use Rattle.db_base.specs.Change.{IsChange}
use Rattle.db_base.specs.declared.refusal.Refused.{Refused}
use Rattle.db_base.specs.declared.wish.Wish.{Wish}
use Rattle.db_base.specs.declared.wish.Wish.TheVariants.{Plain}
use Rattle.event_text.specs.declared.event.Event.{Event}
use Rattle.event_text.specs.declared.event.Event.TheVariants as event
use Rattle.reply_text.specs.declared.reply.Reply.{Reply}
use Rattle.session_facts.proofs.Machines.Commits.Noted.{may_none}
use Rattle.session_facts.proofs.Sessions.Begins.{begins_keeps}
use Rattle.session_facts.specs.Lines.Errands.{Errand, settles, sweeps, session_for}
use Rattle.session_facts.proofs.Sessions.Outcome.{session_keeps}
use Rattle.session_facts.proofs.Sessions.Laws.{buffer_keeps, crash_keeps, rest_keeps, same_sessions}
use Rattle.session_facts.proofs.Lines.Outcome.{MadeCall, made_call}
use Rattle.session_facts.specs.Machines.Commits.Knows.{MayCommit}
use Rattle.session_facts.specs.Lines.Facts.{session_at, SettlerRests}
use Rattle.session_facts.specs.Sessions.Knows.{ground, Sessions, SessionsStand, Goes as SessionGoes, IsRightOp}
use Rattle.txn_buffer.specs.Noted.{Noted}
use Rattle.replay_meaning.specs.Standing.{session_of}
use Rattle.ckpt_policy.specs.declared.role.Role.{Role}
use Rattle.world_core.proofs.Errands.{IsRightErrand, begins_errand}
use Rattle.world_core.proofs.Joining.{may_join}
use Rattle.world_core.proofs.StandsLemmas.{changed_at, changed_was, changed_rests, went_rests, has_at, no_memory}
use Rattle.world_core.specs.Asked.{bound_of, IsOpening, IsReading, IsScanning, IsLookingUp, IsPaging, IsFolding, IsNoted, IsStep, OfSession, Asks, noting_of, IsPlace, change_in}
use Rattle.world_core.specs.Handled.{Declines, Has, BeginsOp, NotesChange, DropsChanges, MakesNoCall, StepsLooked, MakesStep, Went, start, further, Runs, SettlesOn, Settles, Dies, Crashes, Does, WaitsFor, WaitsTooLong, Reports, Answers, Handled, Policies, Works, WorksThrough, checkpoint_more, checkpoint_of, no_checkpoint, gone_through}
use Rattle.world_core.specs.Sessions.{Changes, NotesIn, AbortsIn, joined}
use Rattle.world_core.specs.Stands.{KeepsABook}
use Rattle.world_core.specs.World.{World}
use Rattle.world_core.specs.declared.asked.Asked.{Asked}
use Rattle.world_core.specs.declared.asked.Asked.TheVariants.{Session, Wait, Report, Settle, Sweep}
use Rattle.world_core.specs.declared.asked.Noting.{Noting}
use Rattle.world_core.specs.declared.asked.Request.{Request}
use Rattle.world_core.specs.declared.asked.Request.TheVariants.{Begin, Note, Abort, Policy, Work as WorksDue, Step, Run, Crash}
use Rattle.world_core.specs.declared.world.WorldFault.{WorldFault}
use Rattle.world_core.specs.Span.{span_of}

-- ---- what a line asks is right

-- an operation that begins is a right one, and what is noted is a change of a tree
abbrev IsRight : Request → Type 0
IsRight (Begin o) = IsRightOp o
IsRight (Note noting) = IsPlace noting × IsChange (change_in noting)
IsRight request = Unit {0}

abbrev IsRightIfAny : Result Request Refused → Type 0
IsRightIfAny (Ok request) = IsRight request
IsRightIfAny (Err why) = Unit {0}

abbrev AsksRight : Asked → Type 0
AsksRight (Session k request) = IsRightIfAny request
AsksRight asked = Unit {0}

of_session : (k : ℕ) (Is : Result Request Refused → Type 0) → ((request : Result Request Refused) → Is request → IsRightIfAny request) → (asked : Asked) → OfSession k Is asked → AsksRight asked
of_session k Is right (Session j request) is = right request is.1
of_session k Is right (Wait ticks) never = absurd never
of_session k Is right (Report tree) never = absurd never
of_session k Is right Settle never = absurd never
of_session k Is right (Sweep tree) never = absurd never

same_right : (own : Request) → IsRight own → (request : Result Request Refused) → (let a : Result Request Refused = Ok own in request ≡ a) → IsRightIfAny request
same_right own right request e = subst IsRightIfAny (sym e) right

begins_right : (o : Op) (request : Request) → IsRightOp o → request ≡ Begin o → IsRight request
begins_right o request right e = subst IsRight (sym e) right

opening_right : (client : ℕ) (request : Result Request Refused) → IsOpening client request → IsRightIfAny request
opening_right client (Ok request) is = begins_right (op.Open client) request is.0 is.1
opening_right client (Err why) is = tt

reading_right : (tree : ℕ) (key : List ℕ) (request : Result Request Refused) → IsReading tree key request → IsRightIfAny request
reading_right tree key (Ok request) is = begins_right (op.Read tree key) request is.0 is.2
reading_right tree key (Err why) is = tt

scanning_right : (tree : ℕ) (from to : List ℕ) (request : Result Request Refused) → IsScanning tree from to request → IsRightIfAny request
scanning_right tree from to (Ok request) is = begins_right (op.Scan tree (bound_of from) (bound_of to)) request is.0 is.3
scanning_right tree from to (Err why) is = tt

looking_right : (tree : ℕ) (attr : List ℕ) (request : Result Request Refused) → IsLookingUp tree attr request → IsRightIfAny request
looking_right tree attr (Ok request) is = begins_right (op.Lookup tree attr) request is.0.0 is.2
looking_right tree attr (Err why) is = tt

paging_right : (tree page : ℕ) (request : Result Request Refused) → IsPaging tree page request → IsRightIfAny request
paging_right tree page (Ok request) is = begins_right (op.Page tree page) request (is.0, is.1) is.2
paging_right tree page (Err why) is = tt

folding_right : (tree : ℕ) (request : Result Request Refused) → IsFolding tree request → IsRightIfAny request
folding_right tree (Ok request) is = begins_right (op.Tree tree) request is.0 is.1
folding_right tree (Err why) is = tt

step_right : (wish : Wish) (request : Result Request Refused) → IsStep wish request → IsRightIfAny request
step_right wish (Ok request) is = subst IsRight (sym is) tt
step_right wish (Err why) is = tt

noted_right : (noting : Noting) (request : Result Request Refused) → IsNoted noting request → IsRightIfAny request
noted_right noting (Ok (Note asked)) is = subst (λ j. IsPlace j × IsChange (change_in j)) (sym is.0) (is.1, is.2)
noted_right noting (Ok (Begin o)) is = absurd is
noted_right noting (Ok (Policy role number)) is = absurd is
noted_right noting (Ok WorksDue) is = absurd is
noted_right noting (Ok Abort) is = absurd is
noted_right noting (Ok (Step wish)) is = absurd is
noted_right noting (Ok Run) is = absurd is
noted_right noting (Ok (Crash done)) is = absurd is
noted_right noting (Err why) is = tt

asks_right : (e : Event) (asked : Asked) → Asks e asked → AsksRight asked
asks_right (event.Open k client) asked asks = of_session k (IsOpening client) (opening_right client) asked asks
asks_right (event.Close k) asked asks = of_session k (λ request. request ≡ Ok (Begin op.Close)) (same_right (Begin op.Close) tt) asked asks
asks_right (event.Renew k) asked asks = of_session k (λ request. request ≡ Ok (Begin op.Renew)) (same_right (Begin op.Renew) tt) asked asks
asks_right (event.Commit k) asked asks = of_session k (λ request. request ≡ Ok (Begin op.Commit)) (same_right (Begin op.Commit) tt) asked asks
asks_right (event.Abort k) asked asks = of_session k (λ request. request ≡ Ok Abort) (same_right Abort tt) asked asks
asks_right (event.Read k tree key) asked asks = of_session k (IsReading tree key) (reading_right tree key) asked asks
asks_right (event.Scan k tree from to) asked asks = of_session k (IsScanning tree from to) (scanning_right tree from to) asked asks
asks_right (event.Lookup k tree attr) asked asks = of_session k (IsLookingUp tree attr) (looking_right tree attr) asked asks
asks_right (event.Page k tree page) asked asks = of_session k (IsPaging tree page) (paging_right tree page) asked asks
asks_right (event.Tree k tree) asked asks = of_session k (IsFolding tree) (folding_right tree) asked asks
asks_right (event.Policy k role number) asked asks = of_session k (λ request. request ≡ Ok (Policy role number)) (same_right (Policy role number) tt) asked asks
asks_right (event.Work k) asked asks = of_session k (λ request. request ≡ Ok WorksDue) (same_right WorksDue tt) asked asks
asks_right (event.Run k) asked asks = of_session k (λ request. request ≡ Ok Run) (same_right Run tt) asked asks
asks_right (event.Step k wish) asked asks = of_session k (IsStep wish) (step_right wish) asked asks
asks_right (event.Crash k done) asked asks = of_session k (λ request. request ≡ Ok (Crash done)) (same_right (Crash done) tt) asked asks
asks_right (event.Wait ticks) asked asks = subst AsksRight (sym asks) tt
asks_right (event.Report tree) asked asks = subst AsksRight (sym asks) tt
asks_right event.Settle asked asks = subst AsksRight (sym asks) tt
asks_right (event.Sweep number) (Sweep tree) asks = tt
asks_right (event.Sweep number) asked asks = absurd asks
asks_right e asked asks =
    of_session (session_of e) (IsNoted (noting_of e)) (noted_right (noting_of e)) asked asks

-- ---- a world and a cloud on a book

-- some book stands for the sessions of a world and a cloud that is told
record OnBook (world : World) (seen : Seen) : Type 0 where
  state : CloudState
  told : seen.state ≡ Some state
  book : Book
  order : List Entry
  stand : SessionsStand book order state (session_at world.sessions)

-- the sessions of a world are these
on_same : (world : World) (seen : Seen) (t : CloudState) (book : Book) (order : List Entry) (f : Sessions) → seen.state ≡ Some t → ((n : ℕ) → session_at world.sessions n ≡ f n)
    → SessionsStand book order t f → OnBook world seen
on_same world seen t book order f told same stand = record {
  state = t;
  told = told;
  book = book;
  order = order;
  stand = same_sessions book order t f (session_at world.sessions) same stand;
}

-- ---- lines that make no call

module _ (k : ℕ) (before after : Seen) (old new : World) (Does : Acting → Acting → Type 0) (on : OnBook old before) (quiet : MakesNoCall (span_of before after old new))
    (c : Changes k Does old.sessions new.sessions) where
  abbrev f : Sessions
  f = session_at old.sessions

  was : f k ≡ c.before
  was = changed_was k Does old.sessions new.sessions c

  quiet_on : SessionsStand on.book on.order on.state (at k c.after f) → OnBook new after
  quiet_on stand =
      on_same new after on.state on.book on.order (at k c.after f) (ap (λ (s : Seen). s.state) quiet.seen ∙ on.told) (changed_at k Does old.sessions new.sessions c) stand

  -- another buffer
  buffer_on : (buffer : List Noted) → c.after ≡ record c.before { buffer = buffer } → MayCommit buffer → OnBook new after
  buffer_on buffer is may =
      quiet_on (subst (λ (a : Acting). SessionsStand on.book on.order on.state (at k a f)) (sym (is ∙ ap (λ (a : Acting). record a { buffer = buffer }) (sym was)))
      (buffer_keeps on.book on.order on.state f k buffer may on.stand))

  may_before : MayCommit c.before.buffer
  may_before = subst (λ (a : Acting). MayCommit a.buffer) was (on.stand.each k).buffer

  -- or the same one
  same_on : c.after ≡ c.before → OnBook new after
  same_on is = buffer_on c.before.buffer is may_before

  crash_on : c.after ≡ closed_session → OnBook new after
  crash_on is =
      quiet_on (subst (λ (a : Acting). SessionsStand on.book on.order on.state (at k a f)) (sym is) (crash_keeps on.book on.order on.state f k on.stand))

begin_on : (k : ℕ) (before after : Seen) (old new : World) (o : Op) (r : Reply) → IsRightOp o → OnBook old before → MakesNoCall (span_of before after old new)
    → Changes k (BeginsOp o (Ok r)) old.sessions new.sessions → OnBook new after
begin_on k before after old new o r right on quiet c =
    quiet_on k before after old new _ on quiet c
    (begins_keeps o on.book on.order on.state (session_at old.sessions) k c.after c.does.begun right on.stand
    (subst (λ (a : Acting). Begins o a c.after c.does.begun) (sym (changed_was k _ old.sessions new.sessions c)) c.does.begins))

note_on : (k : ℕ) (noting : Noting) (before after : Seen) (old new : World) (result : Result Reply WorldFault) → IsPlace noting × IsChange (change_in noting) → OnBook old before
    → MakesNoCall (span_of before after old new) → Changes k (NotesChange noting result) old.sessions new.sessions → OnBook new after
note_on k noting before after old new result right on quiet c = by c.does.noted c.does.notes
  where
    by : (noted : Result (Unit {0}) Refused) → NotesIn noting c.before c.after noted → OnBook new after
    by (Ok done) h =
        buffer_on k before after old new _ on quiet c (joined noting c.before.buffer) h.0
        (may_join noting c.before.buffer right.0 right.1 h.3 (subst (λ (a : Acting). length a.buffer ≤ 200) h.0 h.2) (may_before k before after old new _ on quiet c))
    by (Err why) h = same_on k before after old new _ on quiet c h.0

abort_on : (k : ℕ) (before after : Seen) (old new : World) (result : Result Reply WorldFault) → OnBook old before → MakesNoCall (span_of before after old new)
    → Changes k (DropsChanges result) old.sessions new.sessions → OnBook new after
abort_on k before after old new result on quiet c = by c.does.dropped c.does.drops
  where
    by : (dropped : Result (Unit {0}) Refused) → AbortsIn c.before c.after dropped → OnBook new after
    by (Ok done) h = buffer_on k before after old new _ on quiet c [] h.0 may_none
    by (Err why) h = same_on k before after old new _ on quiet c h.0

-- ---- steps

step_on : (who : Caller) (wish : Wish) (before after : Seen) (old new : World) (turn : Turn Answer) → OnBook old before → StepsLooked who wish (span_of before after old new) turn → OnBook new after
step_on who wish before after old new turn on p =
    on_same new after left.after goes.book_after goes.order_after (at who.session p.session.after f) (p.look_after.stays left.after left.told)
    (changed_at who.session _ old.sessions new.sessions p.session) goes.stand
  where
    f : Sessions
    f = session_at old.sessions

    s : CloudState
    s = record on.state { wish = wish }

    told : p.under.state ≡ Some s
    told = p.wishes.set on.state (p.look_before.stays on.state on.told)

    steps : StepsSession who p.under p.to (f who.session) p.session.after (Ok turn)
    steps = subst (λ (a : Acting). StepsSession who p.under p.to a p.session.after (Ok turn)) (sym (changed_was who.session _ old.sessions new.sessions p.session)) p.session.does

    made : MadeCall who p.under p.to (f who.session).work
    made = made_call who p.under p.to (f who.session).work p.session.after.work turn steps.work

    left : Leaves who made.ask made.answer (counted p.under.counts s) p.to.counts p.to.state
    left = made.made.state s told

    goes : SessionGoes (ground on.book on.order s f) left.after who.session p.session.after
    goes =
        session_keeps who p.under p.to s left.after on.book on.order f p.session.after (Ok turn) told left.told
        (rest_keeps on.book on.order on.state s f refl refl refl refl (omega arith) on.stand) steps

went_on : (who : Caller) (before : Seen) (old : World) (after : Seen) (new : World) → OnBook old before → Went who before old after new → OnBook new after
went_on who before old after new on start = on
went_on who before old after new on (further mid _ world _ went step) = step_on who Plain mid after world new More (went_on who before old mid world on went) step

-- a session is closed at once
close_on : (k : ℕ) (seen : Seen) (old new : World) → OnBook old seen → Has k closed_session old new → OnBook new seen
close_on k seen old new on is =
    on_same new seen on.state on.book on.order (at k closed_session (session_at old.sessions)) on.told (has_at k closed_session old new is)
    (crash_keeps on.book on.order on.state (session_at old.sessions) k on.stand)

-- ---- what a session does

-- .. and the settler rests, as it did before
abbrev IsStill : World → Seen → Type 0
IsStill world seen = OnBook world seen × SettlerRests (session_at world.sessions)

declined_still : (why : Refused) (before after : Seen) (old new : World) (result : Result Reply WorldFault) → IsStill old before → Declines why (span_of before after old new) result → IsStill new after
declined_still why before after old new result still h = subst (λ (w : World). IsStill w after) (sym h.world) (subst (IsStill old) (sym h.seen) still)

module _ (n k : ℕ) (before after : Seen) (old new : World) (r : Reply) (some : 1 ≤ k) (still : IsStill old before) where
  abbrev who : Caller
  who = record { session = k; event = n }

  changed_still : (Does : Acting → Acting → Type 0) → Changes k Does old.sessions new.sessions → OnBook new after → IsStill new after
  changed_still Does c on = (on, changed_rests k Does old.sessions new.sessions some c still.1)

  step_still : (wish : Wish) → MakesStep (record { session = k; event = n }) wish (span_of before after old new) (Ok r) → IsStill new after
  step_still wish (inl refuses) = declined_still _ before after old new (Ok r) still refuses.declines
  step_still wish (inr (inl step)) = changed_still _ step.steps.session (step_on who wish before after old new step.turn still.0 step.steps)
  step_still wish (inr (inr memory)) = absurd (no_memory r memory.0)

  run_still : Runs (record { session = k; event = n }) (span_of before after old new) (Ok r) → IsStill new after
  run_still (inl refuses) = declined_still _ before after old new (Ok r) still refuses.declines
  run_still (inr (inl run)) =
      let c = run.comes in (
        step_on who Plain c.mid after c.world new (Ended run.answer) (went_on who before old c.mid c.world still.0 c.went) c.steps,
        changed_rests k _ c.world.sessions new.sessions some c.steps.session (went_rests who before old c.mid c.world some c.went still.1),
      )
  run_still (inr (inr memory)) = absurd (no_memory r memory.0)

  dies_still : Dies k (span_of before after old new) (Ok r) → IsStill new after
  dies_still h = changed_still _ h.closed (crash_on k before after old new _ still.0 h.quiet h.closed h.closed.does)

  crash_still : (done : Bool) → Crashes (record { session = k; event = n }) done (span_of before after old new) (Ok r) → IsStill new after
  crash_still false h = dies_still h
  crash_still true (inl idle) = dies_still idle.dies
  crash_still true (inr (inl h)) = (
    close_on k after h.world new (step_on who Plain before after old h.world h.turn still.0 h.steps) h.closes,
    changed_rests k _ h.world.sessions new.sessions some h.closes.session_is (changed_rests k _ old.sessions h.world.sessions some h.steps.session still.1),
  )
  crash_still true (inr (inr memory)) = absurd (no_memory r memory.0)

  policy_still : (role : Role) (number : ℕ) → Policies k role number (span_of before after old new) (Ok r) → IsStill new after
  policy_still role number (inl refuses) = declined_still _ before after old new (Ok r) still refuses.declines
  policy_still role number (inr (inl refuses)) = declined_still _ before after old new (Ok r) still refuses.1.declines
  policy_still role number (inr (inr gives)) = (
    on_same new after still.0.state still.0.book still.0.order (session_at old.sessions) (ap (λ (s : Seen). s.state) gives.quiet.seen ∙ still.0.told)
        (λ m. ap (λ (l : List Acting). session_at l m) gives.sessions) still.0.stand,
    subst (λ (l : List Acting). SettlerRests (session_at l)) (sym gives.sessions) still.1,
  )

  -- each checkpoint that is due keeps it
  works_still : (queues : List QueueName) (done passed : ℕ) (end : Seen) (world : World) → Works who before old (gone_through queues done passed) end world → IsStill world end
  works_still queues done passed end world no_checkpoint = still
  works_still queues done passed end world (checkpoint_more others kept left mid prior queue a _ _ works makes passes) =
      let was = works_still others kept left mid prior works in
      let b = makes.begins in
      let c = makes.comes in
      let begun : OnBook makes.begun mid =
      on_same makes.begun mid was.0.state was.0.book was.0.order (at k b.session.after (session_at prior.sessions)) was.0.told
      (changed_at k _ prior.sessions makes.begun.sessions b.session)
      (begins_keeps (checkpoint_of queue) was.0.book was.0.order was.0.state (session_at prior.sessions) k b.session.after (Ok Working) b.right was.0.stand
      (subst (λ (x : Acting). Begins (checkpoint_of queue) x b.session.after (Ok Working)) (sym (changed_was k _ prior.sessions makes.begun.sessions b.session)) b.session.does)) in
      let rests : SettlerRests (session_at makes.begun.sessions) = changed_rests k _ prior.sessions makes.begun.sessions some b.session was.1 in (
        step_on who Plain c.mid end c.world world (Ended a) (went_on who mid makes.begun c.mid c.world begun c.went) c.steps,
        changed_rests k _ c.world.sessions world.sessions some c.steps.session (went_rests who mid makes.begun c.mid c.world some c.went rests),
      )

  through_still : WorksThrough (record { session = k; event = n }) (span_of before after old new) (Ok r) → IsStill new after
  through_still (inl refuses) = declined_still _ before after old new (Ok r) still refuses.declines
  through_still (inr (inl down)) = works_still down.queues down.done down.passed after new down.works
  through_still (inr (inr memory)) = absurd (no_memory r memory.0)

  does_still : (request : Request) → IsRight request → Does (record { session = k; event = n }) request (span_of before after old new) (Ok r) → IsStill new after
  does_still (Begin o) right h = changed_still _ h.1 (begin_on k before after old new o r right still.0 h.0 h.1)
  does_still (Note noting) right h = changed_still _ h.1 (note_on k noting before after old new (Ok r) right still.0 h.0 h.1)
  does_still Abort right h = changed_still _ h.1 (abort_on k before after old new (Ok r) still.0 h.0 h.1)
  does_still (Policy role number) right h = policy_still role number h
  does_still WorksDue right h = through_still h
  does_still (Step wish) right h = step_still wish h
  does_still Run right h = run_still h
  does_still (Crash done) right h = crash_still done h

-- ---- the settler

errand_still : (errand : Errand) → IsRightErrand errand → (n : ℕ) (before after : Seen) (old new : World) (r : Reply) → IsStill old before → Settles errand n (span_of before after old new) (Ok r)
    → IsStill new after
errand_still errand right n before after old new r still (inr memory) = absurd (no_memory r memory.0)
errand_still errand right n before after old new r still (inl h) = by h.settles
  where
    who : Caller
    who = record { session = 0; event = n }

    begun : OnBook h.begun before
    begun =
        on_same h.begun before still.0.state still.0.book still.0.order (at 0 (session_for errand) (session_at old.sessions)) still.0.told (has_at 0 (session_for errand) old h.begun h.begins)
        (begins_errand errand right still.0.book still.0.order still.0.state (session_at old.sessions) 0 still.1 still.0.stand)

    by : SettlesOn errand who (span_of before after h.begun new) (Ok r) → IsStill new after
    by (inr memory) = absurd (no_memory r memory.0)
    by (inl s) =
        let c = s.comes in (
          close_on 0 after s.left new (step_on who Plain c.mid after c.world s.left (Ended s.answer) (went_on who before h.begun c.mid c.world begun c.went) c.steps) s.closes,
          has_at 0 closed_session s.left new s.closes 0 ∙ at_same 0 closed_session (session_at s.left.sessions) 0 refl,
        )

-- ---- waits and reports

-- a world that stays, over a cloud that tells as much
stays_still : (seen : Seen) (old new : World) → new ≡ old → OnBook old seen → SettlerRests (session_at old.sessions) → IsStill new seen
stays_still seen old new same on rests = subst (λ (w : World). IsStill w seen) (sym same) (on, rests)

wait_still : (ticks : ℕ) (before after : Seen) (old new : World) (r : Reply) → IsStill old before
    → (WaitsFor ticks before after (Ok r) × (new ≡ old)) ⊎ WaitsTooLong ticks (span_of before after old new) (Ok r) → IsStill new after
wait_still ticks before after old new r still (inl h) =
    let w = h.0.waited still.0.state still.0.told in
    let within = h.0.clock still.0.state still.0.told in
    let later = w.later in
    let S : CloudState → Type 0 = λ u. SessionsStand still.0.book still.0.order u (session_at old.sessions) in
    stays_still after old new h.1
    (record {
      state = w.after;
      told = w.told;
      book = still.0.book;
      order = still.0.order;
      stand = subst S (sym w.rest) (rest_keeps still.0.book still.0.order still.0.state _ (session_at old.sessions) refl refl refl refl (omega (arith, within, later)) still.0.stand);
    }) still.1
wait_still ticks before after old new r still (inr long) =
    declined_still _ before after old new (Ok r) still long.declines

report_still : (tree : ℕ) (before after : Seen) (old new : World) (r : Reply) → IsStill old before → Reports tree (span_of before after old new) (Ok r) → IsStill new after
report_still tree before after old new r still h =
    stays_still after old new h.world
    (record {
      state = still.0.state;
      told = h.looked.stays still.0.state still.0.told;
      book = still.0.book;
      order = still.0.order;
      stand = still.0.stand;
    }) still.1

-- ---- every line

asked_still : (n : ℕ) (asked : Asked) (before after : Seen) (old new : World) (r : Reply) → AsksRight asked → IsStill old before → Answers n asked (span_of before after old new) (Ok r)
    → IsStill new after
asked_still n (Session k (Ok request)) before after old new r right still (inl served) = does_still n k before after old new r served.0.some still request right served.1
asked_still n (Session k (Err why)) before after old new r right still (inl served) = declined_still why before after old new (Ok r) still served.1
asked_still n (Session k request) before after old new r right still (inr none) = declined_still _ before after old new (Ok r) still none.declines
asked_still n (Wait ticks) before after old new r right still waits = wait_still ticks before after old new r still waits
asked_still n (Report tree) before after old new r right still reports = report_still tree before after old new r still reports
asked_still n Settle before after old new r right still h = errand_still settles tt n before after old new r still h
asked_still n (Sweep (Ok tree)) before after old new r right still h = errand_still (sweeps tree) h.0 n before after old new r still h.1
asked_still n (Sweep (Err why)) before after old new r right still h = declined_still why before after old new (Ok r) still h

pub keeps_book : (n : ℕ) (e : Event) (before after : Seen) (old new : World) (result : Result Reply WorldFault) → Handled n e (span_of before after old new) result → KeepsABook (span_of before after old new) result
keeps_book n e before after old new (Ok r) handled = λ t told stands.
    let on : OnBook old before = record { state = t; told = told; book = stands.book; order = stands.order; stand = stands.stand } in
    let still = asked_still n handled.asked before after old new r (asks_right e handled.asked handled.asks) (on, stands.rests) handled.answers in
    (still.0.state, still.0.told, record { book = still.0.book; order = still.0.order; stand = still.0.stand; rests = still.1 })
keeps_book n e before after old new (Err fault) handled = tt
